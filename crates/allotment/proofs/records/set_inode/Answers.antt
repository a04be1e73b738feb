-- The bytes of the record take the place of as many.
use Rattle.std.proofs.Common.{◌≡◌, ◌+◌, ◌-◌, ◌∙◌, arith}
use Rattle.layout.specs.Inodes.{inode_bytes}
use Rattle.allotment.proofs.Written.{put-with_bytes}
use Rattle.allotment.specs.Records.{inode_into}
use Rattle.allotment.proofs.records.set_inode.Goals as goal

pub returns : goal.returns
unfolding inode_into
returns c =
    let at = c.args.at in
    let whole : (at + 32) - at ≡ 32 = omega arith in
    put-with_bytes c.args.block.now at ((at + 32) - at) _ (inode_bytes c.args.inode.now) (c.copy_from_slice.ensures.after ∙ c.encode.ensures.value) whole
