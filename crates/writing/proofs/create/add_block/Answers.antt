-- The superblock, then the new block.
use Rattle.std.proofs.Common.{refl}
use Rattle.writing.proofs.Creating.{new_block_by}
use Rattle.allotment.proofs.Leading.{leads_to, leads_join}
use Rattle.allotment.specs.Records.{zero_block}
use Rattle.writing.proofs.create.add_block.Goals as goal

pub returns-clause-leads : goal.returns-clause-leads
unfolding zero_block
returns-clause-leads g c =
    let laws = g.S.Store.laws in
    let v = g.S.Store.blocks c.args.live.now.store.now in
    leads_to laws (new_block_by v _ c.args.superblock.now c.take_block-number.new.superblock _ c.take_block-number.result c.requires.read c.take_block-number.ensures.after c.take_block-number.ensures.number refl c.put.ensures.after) (leads_join laws c.put.ensures c.put-2.ensures)
