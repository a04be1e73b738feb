-- The block that the change made is the one that was put.
use Rattle.std.proofs.Common.{rules}
use Rattle.store.proofs.liveness.LiveMut.change.Goals as goal

pub returns : goal.returns
returns g c = (_, search rules, c.put.ensures)
