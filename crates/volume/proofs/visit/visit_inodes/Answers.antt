-- One block of inodes more, and all of them.
use Rattle.std.proofs.Common.{◌≡◌, ◌*◌, sym, ap, ◌∙◌, arith}
use Rattle.volume.specs.Visits.{visited}
use Rattle.volume.proofs.Visiting.{visited-none, visited-next}
use Rattle.volume.proofs.visit.visit_inodes.Goals as goal

pub loop-k-init : goal.loop-k-init
loop-k-init g c = sym (visited-none g.V.Visitor.after (g.S.Store.blocks c.args.live.now.store.now) c.args.visitor.now)

pub loop-k-preserved : goal.loop-k-preserved
loop-k-preserved g c =
    visited-next g.V.Visitor.after (g.S.Store.blocks c.args.live.now.store.now) c.loop-k.k c.args.visitor.now c.loop-k.visitor c.visit_block.new.visitor c.load-block.result c.loop-k.invariant c.load-block.ensures c.visit_block.ensures

pub returns : goal.returns
returns g c =
    let end : c.loop-k.k ≡ c.args.isize = omega arith in
    c.loop-k.invariant ∙ ap (λ k. visited g.V.Visitor.after (g.S.Store.blocks c.args.live.now.store.now) (16 * k) c.args.visitor.now) end
