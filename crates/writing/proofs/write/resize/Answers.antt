-- Enough blocks are free once the file's own are given back; size and addresses are replaced.
use Rattle.std.proofs.Common.{◌+◌, ◌-◌, ◌++◌, length, replicate, sym, ap, ◌∙◌, arith}
use Rattle.std.proofs.lemmas.Bool.{leb-true}
use Rattle.layout.specs.Inodes.{blocks_for}
use Rattle.layout.specs.Superblocks.{free_list}
use Rattle.volume.proofs.FreeLists.{length-free_list}
use Rattle.allotment.proofs.FreeLaws.{length-numbers_taken}
use Rattle.allotment.specs.FreeSteps.{takes, numbers_taken}
use Rattle.writing.specs.Writes.{given_back, super_rewritten, inode_rewritten}
use Rattle.writing.proofs.write.resize.Goals as goal

pub take_blocks-addresses-requires : goal.take_blocks-addresses-requires
take_blocks-addresses-requires c =
    let b = c.args.superblock.now in
    let i = c.args.inode in
    let free = length-free_list b in
    let enough = leb-true (blocks_for c.args.size) (length (free_list b) + blocks_for i.size) c.requires.enough in
    let more = c.give_file_back.ensures.count in
    let needed = c.blocks_for.ensures in
    record { few = omega (arith, c.requires.fits); enough = omega (arith, c.requires.some); most = omega (arith, c.requires.room) }

pub returns : goal.returns
unfolding super_rewritten inode_rewritten
returns c =
    let b = given_back c.args.superblock.now c.args.inode in
    let i = c.args.inode in
    let n = blocks_for c.args.size in
    let given = c.give_file_back.ensures.after in
    let needed = c.blocks_for.ensures in
    let numbers = c.take_blocks-addresses.ensures.numbers ∙ ap (λ x. numbers_taken x c.blocks_for.result ++ replicate (8 - c.blocks_for.result) 0) given ∙ ap (λ k. numbers_taken b k ++ replicate (8 - k) 0) needed ∙ ap (λ k. numbers_taken b n ++ replicate (8 - k) 0) (sym (length-numbers_taken b n)) in
    record {
      inode = ap (λ xs. record { mode = i.mode; links = i.links; user = i.user; group = i.group; size = c.args.size; addresses = xs; times = i.times }) numbers;
      after = c.take_blocks-addresses.ensures.after ∙ ap (λ x. takes x c.blocks_for.result) given ∙ ap (takes b) needed;
    }
