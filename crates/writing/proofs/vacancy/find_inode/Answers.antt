-- The inode list is in the volume, and all of it is gone through.
use Rattle.std.proofs.Common.{◌≡◌, suc, ◌+◌, ◌*◌, ap, ◌∙◌, arith}
use Rattle.layout.specs.Inodes.{inode_of}
use Rattle.layout.specs.Superblocks.{isize_of}
use Rattle.volume.specs.Rules.{isize_in}
use Rattle.reading.specs.Lowest.{lowest}
use Rattle.writing.proofs.Vacancies.{visited-free}
use Rattle.writing.specs.Creates.{is_free}
use Rattle.writing.proofs.vacancy.find_inode.Goals as goal

pub returns : goal.returns
returns g c =
    let o = c.args.volume.now in
    let v = g.S.Store.blocks o.live.store.now in
    let isize : c.isize_of-isize.result ≡ isize_in v = c.isize_of-isize.ensures ∙ ap isize_of o.loaded.superblock in
    let count : suc (16 * c.isize_of-isize.result) ≡ 16 * isize_in v + 1 = omega arith in
    ap (λ s. s.found) c.visit_inodes.ensures ∙ visited-free v (16 * c.isize_of-isize.result) ∙ ap (λ n. lowest n (λ i. is_free i (inode_of v i))) count
