-- One inode more.
use Rattle.std.proofs.Common.{sym}
use Rattle.volume.proofs.Visiting.{visited_in-none, visited_in-more}
use Rattle.volume.proofs.visit.visit_block.Goals as goal

pub loop-n-init : goal.loop-n-init
loop-n-init g c = sym (visited_in-none g.V.Visitor.after c.args.block.now c.args.first c.args.visitor.now)

pub loop-n-preserved : goal.loop-n-preserved
loop-n-preserved g c =
    visited_in-more g.V.Visitor.after c.args.block.now c.args.first c.loop-n.n c.args.visitor.now _ _ _ c.loop-n.invariant c.decode-inode.ensures.value c.visit.ensures
