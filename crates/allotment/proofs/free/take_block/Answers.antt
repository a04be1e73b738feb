-- The number at the last place, and one place fewer in use.
use Rattle.allotment.specs.FreeSteps.{taken, next_free}
use Rattle.allotment.proofs.free.take_block.Goals as goal

pub returns : goal.returns
unfolding taken next_free
returns c = record { number = cc; after = cc }
