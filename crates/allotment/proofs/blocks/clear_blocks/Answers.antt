-- One block more.
use Rattle.std.proofs.Common.{set, sym, ap, ◌∙◌, arith}
use Rattle.allotment.proofs.Clearing.{cleared-none, cleared_more}
use Rattle.allotment.proofs.Leading.{leads_none, leads_to, leads_join}
use Rattle.allotment.specs.Records.{zero_block}
use Rattle.allotment.proofs.blocks.clear_blocks.Goals as goal

pub loop-n-init : goal.loop-n-init
loop-n-init g c =
    let s = c.args.live.now.store in
    leads_to g.S.Store.laws (sym (cleared-none (g.S.Store.blocks s.now) c.args.low)) (leads_none g.S.Store.laws s)

pub loop-n-preserved : goal.loop-n-preserved
unfolding zero_block
loop-n-preserved g c =
    let v = g.S.Store.blocks c.args.live.now.store.now in
    let sofar = c.loop-n.invariant in
    let more = ap (λ w. set w c.loop-n.n zero_block) sofar.after ∙ cleared_more v c.args.low c.loop-n.n (omega arith) in
    leads_to g.S.Store.laws more (leads_join g.S.Store.laws sofar c.put.ensures)
