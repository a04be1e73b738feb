-- Every block so far refused, so the store is as it was.
use Rattle.std.proofs.Common.{◌≡◌, ℕ, ◌<◌, ◌≤◌, false, is_ok}
use Rattle.store.specs.Stores.{asked}
use Rattle.zobintal.proofs.filing.lay_block.Given as goal

abbrev pub invariant-loop-n : goal.invariant-loop-n
invariant-loop-n g l =
    (l.store ≡ l.initial.store) × ((m : ℕ) → l.from ≤ m → m < l.n → is_ok (asked (g.S.Store.marks l.initial.store) m) ≡ false)
