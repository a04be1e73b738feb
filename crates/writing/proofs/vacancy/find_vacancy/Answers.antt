-- What was read of the volume, and an inode's number fits.
use Rattle.std.proofs.Common.{◌≡◌, ◌+◌, ◌*◌, length, Some, sym, ◌∙◌, arith, rules}
use Rattle.layout.specs.Inodes.{inode_of}
use Rattle.volume.proofs.RuleFacts.{sizes_from}
use Rattle.volume.proofs.SoundFacts.{rules_hold}
use Rattle.volume.specs.Rules.{super_of, isize_in}
use Rattle.reading.proofs.Lowests.{lowest-some}
use Rattle.writing.specs.Creates.{is_free}
use Rattle.writing.proofs.vacancy.find_vacancy.Goals as goal

pub overflow_cast-result : goal.overflow_cast-result
overflow_cast-result g c =
    let o = c.args.volume.now in
    let v = g.S.Store.blocks o.live.store.now in
    let sizes = sizes_from (super_of v) (length v) (rules_hold v o.sound).sizes in
    let some : c.find_inode.result ≡ Some c.in_ok-inode.inode = search rules in
    let is = lowest-some (λ i. is_free i (inode_of v i)) (16 * isize_in v + 1) c.in_ok-inode.inode (sym c.find_inode.ensures ∙ some) in
    omega (arith, is.0)
