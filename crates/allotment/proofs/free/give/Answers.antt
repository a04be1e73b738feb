-- The number at the first free place, and one place more in use.
use Rattle.allotment.specs.FreeSteps.{given}
use Rattle.allotment.proofs.free.give.Goals as goal

pub returns : goal.returns
unfolding given
returns c = cc
