-- Five puts, one of them a run of blocks.
use Rattle.std.proofs.Common.{refl, arith}
use Rattle.allotment.proofs.Formatting.{formatted-by}
use Rattle.allotment.proofs.Leading.{leads_to, leads_join, still_long}
use Rattle.allotment.specs.Records.{zero_block}
use Rattle.allotment.proofs.format.put_volume.Goals as goal

pub put-requires-4 : goal.put-requires-4
put-requires-4 g c =
    let laws = g.S.Store.laws in
    let sofar = leads_join laws c.put.ensures (leads_join laws c.put-2.ensures (leads_join laws c.put-3.ensures c.clear_blocks.ensures)) in
    omega (arith, still_long laws sofar)

pub returns : goal.returns
unfolding zero_block
returns g c =
    let laws = g.S.Store.laws in
    let joined = leads_join laws c.put.ensures (leads_join laws c.put-2.ensures (leads_join laws c.put-3.ensures (leads_join laws c.clear_blocks.ensures c.put-4.ensures))) in
    leads_to laws (formatted-by (g.S.Store.blocks c.args.live.now.store.now) _ _ _ _ c.args.isize _ _ _ _ _ refl c.new_superblock.ensures c.count-count.ensures c.first_inodes.ensures c.root_entries.ensures c.put.ensures.after c.put-2.ensures.after c.put-3.ensures.after c.clear_blocks.ensures.after) joined
