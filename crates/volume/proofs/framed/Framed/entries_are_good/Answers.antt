-- An entry that is not well numbered, and the test of each inode.
use Rattle.std.proofs.Common.{length, ◌∙◌, arith}
use Rattle.volume.proofs.Eighth.{eighth_stray, eighth_last}
use Rattle.volume.proofs.RuleFacts.{sizes_from}
use Rattle.layout.specs.Entries.{entry_at}
use Rattle.volume.specs.Rules.{super_of}
use Rattle.volume.proofs.framed.Framed.entries_are_good.Goals as goal

pub returns-then-not-is_all_numbered_by : goal.returns-then-not-is_all_numbered_by
returns-then-not-is_all_numbered_by g c =
    let v = g.S.Store.blocks c.args.self.now.live.now.store.now in
    let sizes = sizes_from (super_of v) (length v) c.args.self.now.sizes in
    eighth_stray v c.isize-isize.result c.args.directory.now.len (entry_at c.args.directory.now.bytes) c.visit_inodes.new.visitor c.isize-isize.ensures c.requires.directory c.requires.entries (omega (arith, sizes, c.isize-isize.ensures)) c.visit_inodes.ensures c.if-not-is_all_well_named.ensures c.if-not-is_all_numbered_by.ensures

pub returns : goal.returns
returns g c =
    let v = g.S.Store.blocks c.args.self.now.live.now.store.now in
    let sizes = sizes_from (super_of v) (length v) c.args.self.now.sizes in
    c.every_inode.ensures ∙ eighth_last v c.isize-isize.result c.args.directory.now.len (entry_at c.args.directory.now.bytes) c.visit_inodes.new.visitor c.isize-isize.ensures c.requires.directory c.requires.entries (omega (arith, sizes, c.isize-isize.ensures)) c.visit_inodes.ensures c.if-not-is_all_well_named.ensures c.if-not-is_all_numbered_by.ensures
