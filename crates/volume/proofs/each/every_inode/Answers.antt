-- What the visitor has found out of all inodes.
use Rattle.std.proofs.Common.{◌*◌, ap, ◌∙◌}
use Rattle.volume.proofs.Visiting.{visited-each}
use Rattle.volume.proofs.each.every_inode.Goals as goal

pub returns : goal.returns
returns g c =
    ap (λ e. e.passed) (c.visit_inodes.ensures ∙ visited-each g.T.InodeTest.passes (g.S.Store.blocks c.args.live.now.store.now) (16 * c.args.isize) c.args.test)
