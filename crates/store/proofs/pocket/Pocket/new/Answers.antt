-- The memory is zero, so its blocks are.
use Rattle.std.proofs.Common.{ap, ◌∙◌, arith}
use Rattle.store.specs.Plain.{cut}
use Rattle.store.proofs.Cuts.{cut-zeros}
use Rattle.store.proofs.pocket.Pocket.new.Goals as goal

pub returns-clause-blocks : goal.returns-clause-blocks
returns-clause-blocks c = ap cut c.over.ensures.memory ∙ cut-zeros 16 (omega arith)
