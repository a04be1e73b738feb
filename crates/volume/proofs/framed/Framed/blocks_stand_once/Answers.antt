-- What the tally has counted is what the rule counts.
use Rattle.std.proofs.Common.{length}
use Rattle.volume.proofs.RuleFacts.{sizes_from}
use Rattle.volume.proofs.Tallying.{stands-once_by}
use Rattle.volume.specs.Rules.{super_of}
use Rattle.volume.proofs.framed.Framed.blocks_stand_once.Goals as goal

pub returns : goal.returns
returns g c =
    let v = g.S.Store.blocks c.args.self.now.live.now.store.now in
    let few = (sizes_from (super_of v) (length v) c.args.self.now.sizes).most in
    stands-once_by v few c.args.self.now.superblock c.isize.result c.data_blocks.result.isize c.data_blocks.result.count c.add_free.new.self.counts c.visit_inodes.new.visitor c.is_each_once.result c.args.self.now.read c.isize.ensures c.data_blocks.ensures.isize c.data_blocks.ensures.count c.add_free.ensures c.visit_inodes.ensures c.is_each_once.ensures
