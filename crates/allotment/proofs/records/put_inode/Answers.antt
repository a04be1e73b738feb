-- The block is that with the inode replaced.
use Rattle.std.proofs.Common.{◌≡◌, [], get_or, set, ap, rules}
use Rattle.layout.specs.Inodes.{inode_block, inode_place}
use Rattle.allotment.proofs.Leading.{leads_to}
use Rattle.allotment.specs.Records.{inode_into}
use Rattle.allotment.specs.Volumes.{with_inode}
use Rattle.allotment.proofs.records.put_inode.Goals as goal

pub returns : goal.returns
unfolding with_inode
returns g c =
    let v = g.S.Store.blocks c.args.live.now.store.now in
    let i = c.args.i in
    let made : c.change.ensures.0 ≡ inode_into (get_or v (inode_block i) []) (inode_place i) c.args.inode.now = search rules in
    leads_to g.S.Store.laws (ap (set v (inode_block i)) made) c.change.ensures.2
