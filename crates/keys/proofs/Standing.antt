-- Laws of orthonormal keys as numbers, from those of vectors over the field of bits.
use Rattle.std.proofs.Common.{◌≡◌, ℕ, suc, ◌-◌, ◌%◌, ◌^◌, ◌<◌, Bool, true, false, cond, ◌&&◌, eqb, List, [], ◌∷◌, ◌++◌, length, get_or, sym, refl, ap, ◌∙◌, ⊎_elim, arith, pow_pos}
use lib.Bits.{bit_xor, and_comm, and_self, xor_lt}
use lib.Pow.{ones_lt}
use Rattle.std.specs.List.{All}
use Rattle.std.specs.Bool.{Decides}
use Rattle.std.proofs.lemmas.Grind.{common_steps, get_or_default_zero}
use Rattle.std.proofs.lemmas.List.Elements.{All-push}
use Rattle.std.proofs.lemmas.Bool.Decides.{Decides-by_and, Decides-eqb, Decides-like, Decides-and, same_from_decides, nat_tests}
use Rattle.std.proofs.lemmas.Bool.{eqb-true, eqb-false, eq-eqb, cond_both}
use Rattle.keys.specs.Bits.{either, bits, entry}
use Rattle.keys.specs.Calls.{SaysFits, SaysFull, Remains}
use Rattle.keys.specs.Keys.{parity, product, reduced, remainder, key_sum, full, orthogonal, fits, Fits, Own, Others, Below, Orthonormal}
use Rattle.keys.specs.Vectors.{dot, left_over, Orthonormal-vectors, Fits-vectors, Closed}
use Rattle.keys.proofs.Entries.{product-dot, entry-reduced, entry-key_sum, entry-ones, same_from_entries, number, number-below, entry-number}
use Rattle.keys.proofs.Remainders.{left_over_orthogonal, closed_none, closed_or_fits}
use Rattle.keys.proofs.Sums.{sum_same}

-- a parity that is not 1 is 0
even_from : (n : ℕ) → eqb (n % 2) 1 ≡ false → n % 2 ≡ 0
even_from n e = grind (arith, nat_tests)

pub product-comm : (a b : ℕ) → product a b ≡ product b a
product-comm a b = ap parity (and_comm a b)

-- a key's product with itself tells whether it is odd
pub product-self : (v : ℕ) → product v v ≡ parity v
product-self v = ap parity (and_self v)

pub fits_odd : (keys : List ℕ) (v : ℕ) → Fits keys v → parity v ≡ 1
fits_odd keys v h = sym (product-self v) ∙ h.own

abbrev pub vectors : List ℕ → ℕ → ℕ → Bool
vectors keys j = entry (get_or keys j 0)

pub key_sum-below : (k : ℕ) (keys : List ℕ) → Below k keys → key_sum keys < 2 ^ k
key_sum-below k [] below = pow_pos k
key_sum-below k (u ∷ us) below = xor_lt k u (key_sum us) (below 0 (omega arith)) (key_sum-below k us (λ i lt. below (suc i) (omega arith)))

reduced-below : (k v r : ℕ) (keys : List ℕ) → Below k keys → r < 2 ^ k → reduced v r keys < 2 ^ k
reduced-below k v r [] below lt = lt
reduced-below k v r (u ∷ us) below lt =
    reduced-below k v (cond (eqb (product u v) 1) (bit_xor r u) r) us (λ i in'. below (suc i) (omega arith))
    (cond_both _ (bit_xor r u) r (λ n. n < 2 ^ k) (λ e. xor_lt k r u lt (below 0 (omega arith))) (λ e. lt))

module _ (k : ℕ) (keys : List ℕ) (below : Below k keys) where
  pub remainder-below : (v : ℕ) → v < 2 ^ k → remainder keys v < 2 ^ k
  remainder-below v lt = reduced-below k v v keys below lt

  -- products with a key, as numbers and as vectors
  dot-is : (i v : ℕ) → i < length keys → dot bits k (vectors keys i) (entry v) ≡ eqb (product (get_or keys i 0) v) 1
  dot-is i v lt = sym (product-dot k (get_or keys i 0) v (below i lt))

  vectors-fit : (v : ℕ) → v < 2 ^ k → Fits keys v → Fits-vectors bits k (length keys) (vectors keys) (entry v)
  vectors-fit v lt h = record {
    own = sym (product-dot k v v lt) ∙ eq-eqb (product v v) 1 h.own;
    others = λ i in'. dot-is i v in' ∙ ap (λ n. eqb n 1) (h.others i in');
  }

  -- the sum of the keys is the key of all covers: their vectors sum to ones
  closed_from : key_sum keys ≡ 2 ^ k - 1 → Closed bits k (length keys) (vectors keys)
  closed_from e p lt = sym (entry-key_sum p keys) ∙ ap (λ n. entry n p) e ∙ entry-ones k p lt

  sum-from : Closed bits k (length keys) (vectors keys) → key_sum keys ≡ 2 ^ k - 1
  sum-from closed =
      same_from_entries k (key_sum keys) (2 ^ k - 1) (key_sum-below k keys below) (ones_lt k)
      (λ i lt. entry-key_sum i keys ∙ closed i lt ∙ sym (entry-ones k i lt))

  pub full-none : full k keys ≡ true → (v : ℕ) → v < 2 ^ k → Fits keys v → ⊥
  full-none e v lt h = closed_none bits k (length keys) (vectors keys) (closed_from (eqb-true (key_sum keys) (2 ^ k - 1) e)) (entry v) (vectors-fit v lt h)

  module _ (orthonormal : Orthonormal keys) where
    pub vectors-orthonormal : Orthonormal-vectors bits k (length keys) (vectors keys)
    vectors-orthonormal = record {
      own = λ i lt. dot-is i (get_or keys i 0) lt ∙ eq-eqb _ 1 (orthonormal.own i lt);
      others = λ i j li lj other. dot-is i (get_or keys j 0) li ∙ ap (λ n. eqb n 1) (orthonormal.others i j (li, lj, other));
    }

    pub remainder-orthogonal : (v i : ℕ) → i < length keys → product (get_or keys i 0) (remainder keys v) ≡ 0
    remainder-orthogonal v i lt =
        even_from _
        (sym (dot-is i (remainder keys v) lt) ∙
        sum_same bits k _ _
        (λ p in'. ap (λ b. vectors keys i p && b) (entries p)) ∙
        left_over_orthogonal bits k (length keys) (vectors keys) vectors-orthonormal (entry v) i lt)
      where
        entries : (p : ℕ) → entry (remainder keys v) p ≡ left_over bits k (length keys) (vectors keys) (entry v) p
        entries p =
            entry-reduced p v v keys ∙
            ap (either (entry v p))
            (sum_same bits (length keys) _ _
            (λ j in'. ap (λ b. b && vectors keys j p) (sym (dot-is j v in'))))

    -- the remainder is orthonormal to the keys exactly when it is odd
    pub odd-fits : (v : ℕ) → parity (remainder keys v) ≡ 1 → Fits keys (remainder keys v)
    odd-fits v odd = record { own = product-self (remainder keys v) ∙ odd; others = remainder-orthogonal v }

    pub open_some : full k keys ≡ false → (v : ℕ) × (v < 2 ^ k) × Fits keys v
    open_some e =
        ⊎_elim
        (λ closed. absurd (eqb-false (key_sum keys) (2 ^ k - 1) e (sum-from closed)))
        (λ found. (number k found.0, number-below k found.0, numbers_fit found.0 found.1))
        (closed_or_fits bits k (length keys) (vectors keys) vectors-orthonormal)
      where
        numbers_fit : (w : ℕ → Bool) → Fits-vectors bits k (length keys) (vectors keys) w → Fits keys (number k w)
        numbers_fit w h = record {
          own =
              eqb-true _ 1
              (product-dot k (number k w) (number k w) (number-below k w) ∙
              sum_same bits k _ _ (λ p lt. ap (λ b. b && b) (entry-number k w p lt)) ∙ h.own);
          others = λ i lt.
              even_from _
              (sym (dot-is i (number k w) lt) ∙
              sum_same bits k _ _ (λ p in'. ap (λ b. vectors keys i p && b) (entry-number k w p in')) ∙ h.others i lt);
        }

    pub says_full : (r : Bool) → r ≡ full k keys → SaysFull k keys r
    says_full r e = record {
      answer = e;
      none = λ yes'. full-none (sym e ∙ yes');
      some = λ no'. open_some (sym e ∙ no');
    }

    pub remains : (v r : ℕ) → r ≡ remainder keys v → Remains keys v r
    remains v r e = record { answer = e; fits_if_odd = rw e (odd-fits v); odd_if_fits = fits_odd keys r }

-- the test of a key that is taken says whether it is orthonormal to the keys
Decides-orthogonal : (keys : List ℕ) (v : ℕ) → Decides (orthogonal keys v) (All (λ u. product u v ≡ 0) keys)
Decides-orthogonal keys v = Decides-by_and (λ u. eqb (product u v) 0) (λ u. product u v ≡ 0) (λ us. orthogonal us v) (λ u. Decides-eqb (product u v) 0) refl (λ u us. refl) keys

pub Decides-fits : (keys : List ℕ) (v : ℕ) → Decides (fits keys v) (Fits keys v)
Decides-fits keys v =
    Decides-like (fits keys v)
    (λ h. record { own = product-self v ∙ h.0; others = λ i lt. h.1 i 0 lt })
    (λ h. (fits_odd keys v h, λ i d lt. grind (arith, common_steps, h.others i lt)))
    (Decides-and (eqb (parity v) 1) (orthogonal keys v) (Decides-eqb (parity v) 1) (Decides-orthogonal keys v))

pub says_fits : (keys : List ℕ) (v : ℕ) (r : Bool) → Decides r (Fits keys v) → SaysFits keys v r
says_fits keys v r d = record { answer = same_from_decides r (fits keys v) d (Decides-fits keys v); decides = d }

-- one key more
module _ (keys : List ℕ) (v : ℕ) where
  -- what holds of each key and of v holds of each of them together
  each-push : (P : ℕ → Type 0) → ((i : ℕ) → i < length keys → P (get_or keys i 0)) → P v → (i : ℕ) → i < length (keys ++ v ∷ []) → P (get_or (keys ++ v ∷ []) i 0)
  each-push P old new i lt = All-push P keys v (λ k d within. rw (get_or_default_zero keys k d within) (old k within)) new i 0 lt

  pub Below-push : (k : ℕ) → Below k keys → v < 2 ^ k → Below k (keys ++ v ∷ [])
  Below-push k below lt = each-push (λ u. u < 2 ^ k) below lt

  module _ (h : Fits keys v) where
    pub Own-push : Own keys → Own (keys ++ v ∷ [])
    Own-push own = each-push (λ u. product u u ≡ 1) own h.own

    pub Others-push : Others keys → Others (keys ++ v ∷ [])
    Others-push others i j two = grind (arith, common_steps, h.others, others, product-comm)
