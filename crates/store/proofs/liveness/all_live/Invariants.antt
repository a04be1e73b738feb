-- The lowest dead block is still ahead.
use Rattle.std.proofs.Common.{◌≡◌, drop}
use Rattle.store.specs.Stores.{first_dead}
use Rattle.store.proofs.liveness.all_live.Given as goal

abbrev pub invariant-loop-n : goal.invariant-loop-n
invariant-loop-n g l = let ms = g.S.Store.marks l.store in first_dead l.n (drop l.n ms) ≡ first_dead 0 ms
