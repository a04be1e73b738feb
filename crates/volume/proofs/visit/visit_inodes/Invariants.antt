-- What the visitor has become after the blocks so far.
use Rattle.std.proofs.Common.{◌≡◌, ◌*◌}
use Rattle.volume.specs.Visits.{visited}
use Rattle.volume.proofs.visit.visit_inodes.Given as goal

abbrev pub invariant-loop-k : goal.invariant-loop-k
invariant-loop-k g l = l.visitor ≡ visited g.V.Visitor.after (g.S.Store.blocks l.live.store.now) (16 * l.k) l.initial.visitor
