-- Inode 1 written over zeros.
use Rattle.allotment.specs.Formats.{first_inodes}
use Rattle.allotment.specs.Records.{zero_block}
use Rattle.allotment.proofs.format.first_inodes.Goals as goal

pub returns : goal.returns
unfolding first_inodes zero_block
returns c = cc
