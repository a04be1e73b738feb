-- The places in use from 1 on are the free blocks.
use Rattle.std.proofs.Common.{sym}
use Rattle.volume.proofs.FreeLists.{length-free_list}
use Rattle.writing.proofs.write.has_enough_blocks.Goals as goal

pub returns : goal.returns
returns c = let long = sym (length-free_list c.args.superblock.now) in cc
