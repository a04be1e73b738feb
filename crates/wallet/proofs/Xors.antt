-- The exclusive or of two blocks, byte by byte.
use Rattle.std.proofs.Common.{◌≡◌, ℕ, zero, suc, ◌+◌, ◌<◌, ◌≤◌, List, get_or, sym, subst, ap, ◌∙◌, ⊎_elim, arith}
use denote.Param.Members.{Mut, Called}
use lib.Bits.{bit_xor, xor_assoc, xor_comm, xor_self, xor_zero_r}
use Rattle.std.specs.Array.{IsFromFnResult, IsFromFnResultFrom}
use Rattle.std.proofs.lemmas.Bool.{cases_eq}
use Rattle.store.specs.Stores.{Block}
use Rattle.wallet.specs.Each.{each, get_or-each, each-is}
use Rattle.wallet.specs.Levels.{xor_block}

-- what is added twice is gone
pub xor_again : (a b : ℕ) → bit_xor a (bit_xor a b) ≡ b
xor_again a b = sym (xor_assoc a a b) ∙ ap (λ x. bit_xor x b) (xor_self a)

pub xor_undo : (a b : ℕ) → bit_xor (bit_xor a b) b ≡ a
xor_undo a b = xor_assoc a b b ∙ ap (bit_xor a) (xor_self b) ∙ xor_zero_r a

pub xor-four : (a b c d : ℕ) → bit_xor (bit_xor a b) (bit_xor c d) ≡ bit_xor (bit_xor a c) (bit_xor b d)
xor-four a b c d =
    xor_assoc a b (bit_xor c d) ∙ ap (bit_xor a) (sym (xor_assoc b c d) ∙ ap (λ x. bit_xor x d) (xor_comm b c) ∙ xor_assoc c b d) ∙ sym (xor_assoc a c (bit_xor b d))

pub get_or-xor_block : (a b : Block) (p : ℕ) → p < 512 → get_or (xor_block a b) p 0 ≡ bit_xor (get_or a p 0) (get_or b p 0)
unfolding xor_block
get_or-xor_block a b p lt = get_or-each 512 (λ p. bit_xor (get_or a p 0) (get_or b p 0)) p 0 lt

-- where each call of a closure that keeps its state gives h at its number, so does the array that `from_fn` makes
module _ {F : Type 0} (g : Mut F (ℕ × Unit {0}) ℕ) (f : F) (h : ℕ → ℕ) (ys : List ℕ) (calls : (i y : ℕ) (q : F) → Called g f (i, tt) y q → (y ≡ h i) × (q ≡ f)) where
  made-from : (n i : ℕ) → IsFromFnResultFrom g f ys i n → (k : ℕ) → i ≤ k → k < i + n → get_or ys k 0 ≡ h k
  made-from zero i e k le lt = absurd (omega arith)
  made-from (suc n) i e k le lt =
      ⊎_elim
      (λ here. ap (λ j. get_or ys j 0) here ∙ e.2.1 0 ∙ (calls i e.1 e.0 e.3).0 ∙ ap h (sym here))
      (λ other. made-from n (i + 1) (subst (λ q. IsFromFnResultFrom g q ys (i + 1) n) (calls i e.1 e.0 e.3).1 e.4) k (omega arith) (omega arith))
      (cases_eq k i)

  pub made_by_from_fn : (n : ℕ) → IsFromFnResult g f ys n → ys ≡ each n h
  made_by_from_fn n made = each-is n h ys 0 made.long (λ k lt. made-from n 0 made.each k (omega arith) (omega arith))
