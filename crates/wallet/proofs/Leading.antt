-- Level puts of all second contents lead from a set that shows the first to its partner.
use Rattle.std.proofs.lemmas.Grind.{common_steps}
use Rattle.std.proofs.Common.{◌≡◌, ℕ, zero, suc, ◌+◌, ◌-◌, ◌*◌, ◌<◌, ◌≤◌, Bool, true, false, cond, not, ◌&&◌, ◌||◌, eqb, List, [], ◌∷◌, ◌++◌, length, get_or, set, is_ok, Ok, Err, sym, refl, ap, ◌∙◌, subst, ap₂, ⊎_elim, arith}
use lib.Bits.{bit_xor, xor_assoc, xor_comm, xor_zero_r}
use Rattle.std.proofs.lemmas.List.{length-append, get_or_append_left, get_or-append_right}
use Rattle.std.proofs.lemmas.Bool.{cases_eq, cond-true, cond-false, ne_eqb, lt-ltb, and_left, and_right}
use Rattle.keys.specs.Bits.{bits, entry}
use Rattle.keys.specs.Field.{Field}
use Rattle.keys.specs.Vectors.{Orthonormal-vectors}
use Rattle.store.specs.Stores.{Block, Mark, live, dead, judged, asked, all_live}
use Rattle.store.proofs.Asking.{asked-within, asked-from_all}
use Rattle.wallet.specs.Each.{byte_at, length-each, get_or-each}
use Rattle.wallet.specs.Levels.{changed, shown_byte, shown, refilled, in_key, lowest_dead, cover_fine, level_mark, level_marks}
use Rattle.wallet.specs.Matched.{both_of, hidden_sum, partner, Shows, key_vectors, Puts, after_puts, Accepted, OfHidden, has, PutsLead}
use Rattle.wallet.specs.Places.{Covers, place}
use Rattle.wallet.specs.Wallets.{State, stands, with_chosen, key_at, shown_under, marks_under, filled_under, named, not_standing, put_call}
use Rattle.wallet.proofs.Changing.{Reached, along, changed_by-bytes, whole-changed, byte_at-changed, changed-same, changed-none, changed-changed, length-changed, byte_at-shown, shown-same, renewed-here, along-other}
use Rattle.wallet.proofs.Hiding.{byte_sum-update, byte_sum-none, shown_byte-own, reached_all}
use Rattle.wallet.proofs.PlaceLaws.{place-covered, below_all, uncovered}
use Rattle.wallet.proofs.Summing.{byte_sum-same, act_none}
use Rattle.wallet.proofs.Xors.{xor_again}

module _ {F : Type 0} (f : Field F) (c : Covers) (us : ℕ → ℕ → F) (d m : ℕ) (orthonormal : Orthonormal-vectors f c.count m us) (first second : ℕ → List Block)
    (bs : List Block) (enough : c.count * c.blocks ≤ length bs) (shows : Shows f c us d m first bs) where
  -- What each level has added once some puts are done.
  abbrev part_of : Puts → ℕ → ℕ → ℕ → ℕ
  part_of done j b p = cond (has done j b) (both_of first second j b p) 0

  abbrev pub reaching : Puts → List Block
  reaching done = changed c (hidden_sum f us d m (part_of done)) bs

  reached : (done : Puts) → Reached c (hidden_sum f us d m (part_of done)) bs
  reached done = reached_all c (hidden_sum f us d m (part_of done)) bs enough

  shown-first : (j b p : ℕ) → d ≤ j → j < m → b < c.blocks → p < 512 → shown_byte f c (us j) bs b p ≡ byte_at (first j) b p
  shown-first j b p from below lb lp = sym (byte_at-shown f c (us j) bs b p lb lp) ∙ ap (λ x. byte_at x b p) (shows j from below)

  -- another put makes no difference to the part of another block
  part_other : (done : Puts) (j b j' b' p : ℕ) → (eqb j j' && eqb b b') ≡ false → part_of ((j, b) ∷ done) j' b' p ≡ part_of done j' b' p
  part_other done j b j' b' p away = ap (λ x. cond (x || has done j' b') (both_of first second j' b' p) 0) away

  part_here : (done : Puts) (j b p : ℕ) → part_of ((j, b) ∷ done) j b p ≡ both_of first second j b p
  part_here done j b p = grind (arith, common_steps)

  -- e, with what is put over first and e together by second, is first and second together
  settles : (e x y : ℕ) → bit_xor e (bit_xor (bit_xor x e) y) ≡ bit_xor x y
  settles e x y = grind (arith, common_steps, xor_comm, xor_assoc, xor_again)

  module _ (done : Puts) (j b : ℕ) (from : d ≤ j) (below : j < m) (within : b < c.blocks) where
    abbrev new : List Block
    new = set (shown f c (us j) (reaching done)) b (get_or (second j) b [])

    change : (i b' p : ℕ) → i < c.count → b' < c.blocks → p < 512 → bit_xor (hidden_sum f us d m (part_of done) i b' p) (along f c (us j) new (reaching done) i b' p) ≡ hidden_sum f us d m (part_of ((j, b) ∷ done)) i b' p
    change i b' p li lb lp =
        ⊎_elim
        (λ here. ap (λ x. bit_xor (hidden_sum f us d m (part_of done) i x p) (along f c (us j) new (reaching done) i x p)) here ∙ at_b ∙ sym (ap (λ x. hidden_sum f us d m (part_of ((j, b) ∷ done)) i x p) here))
        (λ other.
        ap (bit_xor (hidden_sum f us d m (part_of done) i b' p)) (along-other f c (us j) (reaching done) b (get_or (second j) b []) within i b' p other lb lp) ∙ xor_zero_r (hidden_sum f us d m (part_of done) i b' p) ∙
        byte_sum-same f (m - d) (λ l. us (d + l) i) (λ l. part_of done (d + l) b' p) (λ l. part_of ((j, b) ∷ done) (d + l) b' p) (λ l lt. grind (arith, common_steps)))
        (cases_eq b' b)
      where
        y : ℕ
        y = bit_xor (shown_byte f c (us j) (reaching done) b p) (byte_at new b p)

        at : d + (j - d) ≡ j
        at = omega arith

        y_is : y ≡ bit_xor (bit_xor (byte_at (first j) b p) (part_of done j b p)) (byte_at (second j) b p)
        y_is =
            ap₂ bit_xor
            (shown_byte-own f c us d m orthonormal (part_of done) bs (reached done) j b p from below within lp ∙ ap (λ x. bit_xor x (part_of done j b p)) (shown-first j b p from below within lp))
            (ap (λ x. get_or x p 0) (renewed-here f c (us j) (reaching done) b (get_or (second j) b []) within))

        at_b : bit_xor (hidden_sum f us d m (part_of done) i b p) (along f c (us j) new (reaching done) i b p) ≡ hidden_sum f us d m (part_of ((j, b) ∷ done)) i b p
        at_b =
            ap (λ l. bit_xor (hidden_sum f us d m (part_of done) i b p) (f.act (us l i) y)) (sym at) ∙
            sym (byte_sum-update f (m - d) (j - d) (λ l. us (d + l) i) (λ l. part_of done (d + l) b p) (λ l. part_of ((j, b) ∷ done) (d + l) b p) y (omega arith)
            (λ l lt other. part_other done j b (d + l) b p (and_left (eqb j (d + l)) (eqb b b) (ne_eqb j (d + l) (λ e. other (omega arith)))))
            (ap (λ l. part_of ((j, b) ∷ done) l b p) at ∙ part_here done j b p ∙ sym (settles (part_of done j b p) (byte_at (first j) b p) (byte_at (second j) b p)) ∙ sym (ap₂ (λ l z. bit_xor (part_of done l b p) z) at y_is)))

    -- one put more
    pub put_more : refilled f c (us j) new (reaching done) ≡ reaching ((j, b) ∷ done)
    unfolding refilled
    put_more =
        changed-changed c (hidden_sum f us d m (part_of done)) (along f c (us j) new (reaching done)) bs ∙
        changed-same c (λ i b' p. bit_xor (hidden_sum f us d m (part_of done) i b' p) (along f c (us j) new (reaching done) i b' p)) (hidden_sum f us d m (part_of ((j, b) ∷ done))) change bs

  pub put_none : ((n : ℕ) → n < length bs → length (get_or bs n []) ≡ 512) → bs ≡ reaching []
  put_none whole = sym (changed-none c bs whole) ∙ changed-same c (λ i b p. 0) (hidden_sum f us d m (part_of [])) (λ i b p li lb lp. grind (arith, common_steps, byte_sum-none, act_none)) bs

  pub put_all : (done : Puts) → ((j b : ℕ) → d ≤ j → j < m → b < c.blocks → has done j b ≡ true) → reaching done ≡ partner f c us d m first second bs
  unfolding partner
  put_all done all = grind (arith, common_steps, byte_sum-same, changed-same)

-- where every block of the store is live, so is every block of a level
module _ {F : Type 0} (f : Field F) (c : Covers) (level : ℕ) (u : ℕ → F) (ms : List Mark) (enough : c.count * c.blocks ≤ length ms) (all : is_ok (all_live ms) ≡ true) where
  none_dead : (fine : ℕ → Bool) (many i : ℕ) → ((j : ℕ) → j < i + many → fine j ≡ true) → lowest_dead f level u fine many i ≡ live
  none_dead fine zero i h = refl
  none_dead fine (suc many) i h =
      cond-false (in_key f (u i) && not (fine i)) (dead level i) (lowest_dead f level u fine many (suc i)) (and_right (in_key f (u i)) (not (fine i)) (ap not (h i (omega arith)))) ∙
      none_dead fine many (suc i) (λ j lt. h j (omega arith))

  pub level_live : (b : ℕ) → b < c.blocks → asked (level_marks f c level u ms) b ≡ Ok tt
  unfolding level_marks level_mark
  level_live b lb =
      asked-within (level_marks f c level u ms) b (omega (arith, length-each c.blocks (level_mark f c level u ms))) ∙
      ap (judged b)
      (get_or-each c.blocks (level_mark f c level u ms) b live lb ∙
      none_dead (cover_fine c ms b) c.count 0 (λ i lt. ap is_ok (asked-from_all ms (place c i b) (omega (arith, below_all c (place c i b) (place-covered c i b lb (omega arith)))) all)))

-- a set with further blocks after it
module _ (c : Covers) (bs rest : List Block) (size : length bs ≡ c.count * c.blocks) where
  inside : (n : ℕ) → n < length bs → get_or (bs ++ rest) n [] ≡ get_or bs n []
  inside n lt = get_or_append_left bs rest [] n lt

  pub shown-append : {F : Type 0} (f : Field F) (u : ℕ → F) → shown f c u (bs ++ rest) ≡ shown f c u bs
  unfolding shown_byte
  shown-append f u =
      shown-same f c u (bs ++ rest) bs
      (λ b p lb lp.
      byte_sum-same f c.count u (λ i. byte_at (bs ++ rest) (place c i b) p) (λ i. byte_at bs (place c i b) p)
      (λ i li. ap (λ x. get_or x p 0) (inside (place c i b) (omega (arith, below_all c (place c i b) (place-covered c i b lb li))))))

  pub changed-append : (g : ℕ → ℕ → ℕ → ℕ) → ((n : ℕ) → n < length rest → length (get_or rest n []) ≡ 512) → changed c g (bs ++ rest) ≡ changed c g bs ++ rest
  changed-append g whole = sym (changed_by-bytes c g (bs ++ rest) (changed c g bs ++ rest) (length-append (changed c g bs) rest ∙ ap (λ n. n + length rest) (length-changed c g bs) ∙ sym (length-append bs rest)) (λ n lt. grind (arith, common_steps, length-append, length-changed, whole-changed, get_or_append_left, get_or-append_right)) (λ n p lt lp. grind (arith, common_steps, length-append, length-changed, get_or_append_left, get_or-append_right, byte_at-changed, uncovered, xor_zero_r)))

  whole_append : ((n : ℕ) → n < length bs → length (get_or bs n []) ≡ 512) → ((n : ℕ) → n < length rest → length (get_or rest n []) ≡ 512) → (n : ℕ) → n < length (bs ++ rest) → length (get_or (bs ++ rest) n []) ≡ 512
  whole_append one two n lt = grind (arith, common_steps, get_or-append_right, inside, length-append)

-- an accepted put fills the level
module _ (w : State) (j b : ℕ) (contents : Block) (standing : stands w j ≡ true) (accepted : (put_call w j b contents).0 ≡ Ok tt) where
  pub put_fills : (put_call w j b contents).1 ≡ filled_under (with_chosen j w) (key_at w j) (set (shown_under w (key_at w j)) b contents)
  put_fills = grind (arith, common_steps)

regroup : (x y z : Bool) → (x || (y || z)) ≡ true → ((y || x) || z) ≡ true
regroup true true z e = refl
regroup true false z e = refl
regroup false true z e = refl
regroup false false z e = e

only : (x : Bool) → (x || false) ≡ true → x ≡ true
only true e = refl
only false e = e

module _ (c : Covers) (d : ℕ) (keys : List ℕ) (orthonormal : Orthonormal-vectors bits c.count (length keys) (key_vectors keys)) (first second : ℕ → List Block)
    (bs : List Block) (enough : c.count * c.blocks ≤ length bs) (shows : Shows bits c (key_vectors keys) d (length keys) first bs) where
  abbrev reaching_by : Puts → List Block
  reaching_by done = reaching bits c (key_vectors keys) d (length keys) orthonormal first second bs enough shows done

  -- The store's blocks once level j has taken new contents of block b.
  abbrev filled_by : (j b : ℕ) → Covers → List ℕ → List Block → List Block
  filled_by j b c' keys' bs' = refilled bits c' (entry (get_or keys' j 0)) (set (shown bits c' (entry (get_or keys' j 0)) bs') b (get_or (second j) b [])) bs'

  lead : (puts done : Puts) (w : State) → w.covers ≡ c → w.keys ≡ keys → c.count * c.blocks ≤ length w.marks → is_ok (all_live w.marks) ≡ true → w.blocks ≡ reaching_by done
      → OfHidden d (length keys) c.blocks puts → ((j b : ℕ) → d ≤ j → j < length keys → b < c.blocks → (has done j b || has puts j b) ≡ true)
      → Accepted second puts w × ((after_puts second puts w).blocks ≡ partner bits c (key_vectors keys) d (length keys) first second bs)
  lead [] done w covers ks room alive blocks hidden all =
      (tt, blocks ∙ put_all bits c (key_vectors keys) d (length keys) orthonormal first second bs enough shows done (λ j b from below lb. only (has done j b) (all j b from below lb)))
  lead (at ∷ puts) done w covers ks room alive blocks hidden all =
      let j = at.0 in
      let b = at.1 in
      let new = get_or (second j) b [] in
      let standing : stands w j ≡ true = lt-ltb j (length w.keys) (omega (arith, ap length ks, hidden.0.1)) in
      let accepted : (put_call w j b new).0 ≡ Ok tt =
      cond-true (stands w j) (named j (asked (marks_under w j (key_at w j)) b)) (Err (not_standing j)) standing ∙
      ap (named j) (level_live bits w.covers j (entry (key_at w j)) w.marks (subst (λ (x : Covers). x.count * x.blocks ≤ length w.marks) (sym covers) room) alive b (subst (λ (x : Covers). b < x.blocks) (sym covers) hidden.0.2))
      in
      let fills = put_fills w j b new standing accepted in
      let filled : (put_call w j b new).1.blocks ≡ reaching_by ((j, b) ∷ done) =
      ap (λ x. x.blocks) fills ∙ ap (λ x. filled_by j b x w.keys w.blocks) covers ∙ ap₂ (filled_by j b c) ks blocks ∙
      put_more bits c (key_vectors keys) d (length keys) orthonormal first second bs enough shows done j b hidden.0.0 hidden.0.1 hidden.0.2
      in
      let rest = lead puts ((j, b) ∷ done) (put_call w j b new).1 (ap (λ x. x.covers) fills ∙ covers) (ap (λ x. x.keys) fills ∙ ks)
      (subst (λ (x : List Mark). c.count * c.blocks ≤ length x) (sym (ap (λ x. x.marks) fills)) room) (ap (λ x. is_ok (all_live x.marks)) fills ∙ alive) filled hidden.1
      (λ j' b' from below lb. regroup (has done j' b') (eqb j j' && eqb b b') (has puts j' b') (all j' b' from below lb))
      in
      ((accepted, rest.0), rest.1)

module _ (c : Covers) (d : ℕ) (keys : List ℕ) (orthonormal : Orthonormal-vectors bits c.count (length keys) (key_vectors keys)) (first second : ℕ → List Block) where
  pub puts_lead : PutsLead c d keys first second
  unfolding partner
  puts_lead w set rest puts covers ks blocks paired alive cover-set further shows hidden all =
      let bs = set ++ rest in
      let us = key_vectors keys in
      let size = cover-set.size in
      let enough : c.count * c.blocks ≤ length (set ++ rest) = omega (arith, length-append set rest) in
      let shows' : Shows bits c (key_vectors keys) d (length keys) first (set ++ rest) = λ j from below. shown-append c set rest size bits (us j) ∙ shows j from below in
      let start = put_none bits c us d (length keys) orthonormal first second bs enough shows' (whole_append c set rest size cover-set.whole further) in
      let led = lead c d keys orthonormal first second bs enough shows' puts [] w covers ks (omega (arith, ap length blocks)) alive (blocks ∙ start) hidden all in
      (led.0, led.1 ∙ changed-append c set rest size (hidden_sum bits us d (length keys) (both_of first second)) further)
