-- The matching of cover sets, over any field in which 1 + 1 is 0.
use Rattle.std.proofs.lemmas.Grind.{common_steps}
use Rattle.std.proofs.Common.{◌≡◌, ℕ, ◌+◌, ◌-◌, ◌<◌, ◌≤◌, cond, List, length, sym, ap, ◌∙◌, subst, ⊎_elim, arith}
use lib.Bits.{bit_xor, xor_comm, xor_self, xor_lt}
use Rattle.std.proofs.lemmas.Bool.{cases_Bool}
use Rattle.keys.specs.Field.{Field}
use Rattle.keys.specs.Vectors.{Orthonormal-vectors}
use Rattle.store.specs.Stores.{Block}
use Rattle.wallet.specs.Each.{byte_at}
use Rattle.wallet.specs.Levels.{shown_byte, shown}
use Rattle.wallet.specs.Matched.{CoverSet, HiddenContents, both_of, hidden_sum, partner, Shows, Matching}
use Rattle.wallet.specs.Places.{Covers, is_covered, cover_at, block_at}
use Rattle.wallet.proofs.Changing.{Reached, change_at, length-changed, whole-changed, byte_at-changed, changed-changed, changed-same, changed-none, byte_at-shown, shown-is, shown-same}
use Rattle.wallet.proofs.Hiding.{byte_sum-below, shown_byte-own, shown_byte-disclosed, reached_all}
use Rattle.wallet.proofs.PlaceLaws.{block_at-below}
use Rattle.wallet.proofs.Xors.{xor_again, xor_undo}

module _ {F : Type 0} (f : Field F) (keeps : (x : F) (b : ℕ) → b < 256 → f.act x b < 256) (c : Covers) (us : ℕ → ℕ → F) (d m : ℕ) (orthonormal : Orthonormal-vectors f c.count m us)
    (first second : ℕ → List Block) (one : HiddenContents c d m first) (two : HiddenContents c d m second) where
  abbrev added : ℕ → ℕ → ℕ → ℕ
  added = hidden_sum f us d m (both_of first second)

  abbrev mate : List Block → List Block
  mate bs = partner f c us d m first second bs

  module _ (bs : List Block) (set : CoverSet c bs) where
    reached : Reached c added bs
    reached = reached_all c added bs (omega (arith, set.size))

    added-below : (n p : ℕ) → p < 512 → change_at c added n p < 256
    added-below n p lp =
        ⊎_elim
        (λ covered.
        subst (λ x. cond x (added (cover_at c n) (block_at c n) p) 0 < 256) (sym covered)
        (byte_sum-below f keeps (m - d) (λ j. us (d + j) (cover_at c n)) (λ j. both_of first second (d + j) (block_at c n) p)
        (λ j lt.
        let x = one (d + j) (omega arith) (omega arith) in
        let y = two (d + j) (omega arith) (omega arith) in
        let lb = block_at-below c n covered in
        xor_lt 8 (byte_at (first (d + j)) (block_at c n) p) (byte_at (second (d + j)) (block_at c n) p) (x.bytes (block_at c n) p (omega (arith, x.size)) lp) (y.bytes (block_at c n) p (omega (arith, y.size)) lp))))
        (λ outside. subst (λ x. cond x (added (cover_at c n) (block_at c n) p) 0 < 256) (sym outside) (omega arith))
        (cases_Bool (is_covered c n))

    set-partner : CoverSet c (mate bs)
    unfolding partner
    set-partner = record {
      size = length-changed c added bs ∙ set.size;
      whole = whole-changed c added bs;
      bytes = λ n p lt lp.
          let inside : n < length bs = omega (arith, length-changed c added bs) in
          subst (λ x. x < 256) (sym (byte_at-changed c added bs n p inside lp)) (xor_lt 8 (byte_at bs n p) (change_at c added n p) (set.bytes n p inside lp) (added-below n p lp));
    }

    partner-again : mate (mate bs) ≡ bs
    unfolding partner
    partner-again =
        changed-changed c added added bs ∙
        changed-same c (λ i b p. bit_xor (added i b p) (added i b p)) (λ i b p. 0) (λ i b p li lb lp. xor_self (added i b p)) bs ∙ changed-none c bs set.whole

    -- what a hidden level shows of the partner
    own_byte : (j b p : ℕ) → d ≤ j → j < m → b < c.blocks → p < 512 → shown_byte f c (us j) (mate bs) b p ≡ bit_xor (shown_byte f c (us j) bs b p) (both_of first second j b p)
    unfolding partner
    own_byte j b p from below lb lp = shown_byte-own f c us d m orthonormal (both_of first second) bs reached j b p from below lb lp

    shows_second : Shows f c us d m first bs → Shows f c us d m second (mate bs)
    shows_second shows j from below = grind (arith, common_steps, shown-is, own_byte, byte_at-shown, xor_again)

    shows_first : Shows f c us d m second (mate bs) → Shows f c us d m first bs
    shows_first shows j from below =
        let x = one j from below in
        shown-is f c (us j) bs (first j) x.size x.whole
        (λ b p lb lp.
        sym (xor_undo (shown_byte f c (us j) bs b p) (both_of first second j b p)) ∙
        ap (λ z. bit_xor z (both_of first second j b p)) (sym (own_byte j b p from below lb lp) ∙ sym (byte_at-shown f c (us j) (mate bs) b p lb lp) ∙ ap (λ z. byte_at z b p) (shows j from below)) ∙
        ap (bit_xor (byte_at (second j) b p)) (xor_comm (byte_at (first j) b p) (byte_at (second j) b p)) ∙ xor_again (byte_at (second j) b p) (byte_at (first j) b p))

    same_disclosed : (j : ℕ) → j < d → j < m → shown f c (us j) (mate bs) ≡ shown f c (us j) bs
    unfolding partner
    same_disclosed j before below = shown-same f c (us j) (mate bs) bs (λ b p lb lp. shown_byte-disclosed f c us d m orthonormal (both_of first second) bs reached j b p before below lb lp)

  pub matching : Matching f c us d m first second
  matching = record {
    partner-set = set-partner;
    again = partner-again;
    onward = shows_second;
    back = shows_first;
    disclosed = same_disclosed;
    one-to-one = λ bs cs b-set c-set same. sym (partner-again bs b-set) ∙ ap mate same ∙ partner-again cs c-set;
    onto = λ cs set shows.
        let there = set-partner cs set in
        let home = partner-again cs set in
        (mate cs, there, shows_first (mate cs) there (λ j from below. ap (shown f c (us j)) home ∙ shows j from below), home);
  }
