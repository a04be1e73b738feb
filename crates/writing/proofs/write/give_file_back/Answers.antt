-- The first addresses, as many as the size takes blocks, are given back.
use Rattle.std.proofs.Common.{◌≡◌, ◌≤◌, reverse, length, take, ap, ◌∙◌, arith}
use Rattle.std.proofs.lemmas.List.{length-take-le, length-reverse}
use Rattle.layout.specs.Inodes.{blocks_for}
use Rattle.layout.specs.Superblocks.{nfree_of}
use Rattle.allotment.proofs.FreeLaws.{nfree_gives}
use Rattle.allotment.specs.FreeSteps.{gives}
use Rattle.writing.specs.Writes.{own_blocks, given_back}
use Rattle.writing.proofs.write.give_file_back.Goals as goal

pub returns : goal.returns
unfolding given_back
returns c =
    let b = c.args.superblock.now in
    let i = c.args.inode.now in
    let n = c.block_count.result in
    let size : n ≡ blocks_for i.size = omega arith in
    let own = own_blocks i in
    let fits : blocks_for i.size ≤ length i.addresses = omega arith in
    let long = length-take-le (blocks_for i.size) i.addresses fits in
    let turned = length-reverse own in
    let is = c.give_back.ensures ∙ ap (λ k. gives b (reverse (take k i.addresses))) size in
    let more = nfree_gives (reverse own) b c.told-superblock (omega (arith, c.requires.room)) in
    record { after = is; count = ap nfree_of is ∙ omega arith }
