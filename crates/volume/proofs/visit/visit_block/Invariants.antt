-- What the visitor has become so far.
use Rattle.std.proofs.Common.{◌≡◌}
use Rattle.volume.specs.Visits.{visited_in}
use Rattle.volume.proofs.visit.visit_block.Given as goal

abbrev pub invariant-loop-n : goal.invariant-loop-n
invariant-loop-n g l = l.visitor ≡ visited_in g.V.Visitor.after l.block l.first l.n l.initial.visitor
