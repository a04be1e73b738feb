-- Zeroing block after block.
use Rattle.std.proofs.Common.{◌≡◌, ℕ, suc, ◌+◌, ◌-◌, ◌≤◌, List, set, sym, ap, ◌∙◌, arith}
use Rattle.store.specs.Stores.{Block}
use Rattle.allotment.specs.Records.{zero_block, cleared}

module _ (v : List Block) (low : ℕ) where
  pub cleared-none : cleared v low (low - low) ≡ v
  unfolding cleared
  cleared-none = let e : low - low ≡ 0 = omega arith in ap (cleared v low) e

  -- one block more
  pub cleared_more : (n : ℕ) → low ≤ n → set (cleared v low (n - low)) n zero_block ≡ cleared v low ((n + 1) - low)
  unfolding cleared
  cleared_more n from =
      let next : (n + 1) - low ≡ suc (n - low) = omega arith in
      let here : low + (n - low) ≡ n = omega arith in
      sym (ap (cleared v low) next ∙ ap (λ i. set (cleared v low (n - low)) i zero_block) here)
