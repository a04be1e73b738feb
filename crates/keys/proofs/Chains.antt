-- What the chains over the keys calculate, as folds and tests of a list.
use Rattle.std.proofs.Common.{◌≡◌, ℕ, eqb, List, [], ◌∷◌, sym, refl, ◌∙◌, fold, filter, arith}
use Rattle.std.specs.Int.Bits.{bit_xor, xor_assoc, xor_zero_r}
use Rattle.std.proofs.lemmas.Grind.{common_steps}
use Rattle.keys.specs.Keys.{product, reduced, key_sum}

pub fold-key_sum : (z : ℕ) (keys : List ℕ) → fold bit_xor z keys ≡ bit_xor z (key_sum keys)
fold-key_sum z [] = sym (xor_zero_r z)
fold-key_sum z (u ∷ us) = fold-key_sum (bit_xor z u) us ∙ xor_assoc z u (key_sum us)

module _ (v : ℕ) where
  -- the keys that overlap with v are taken off
  pub fold-reduced : (r : ℕ) (keys : List ℕ) → fold bit_xor r (filter (λ u. eqb (product u v) 1) keys) ≡ reduced v r keys
  fold-reduced r [] = refl
  fold-reduced r (u ∷ us) = grind (arith, common_steps, fold-reduced r us, fold-reduced (bit_xor r u) us)
