-- The entry is the volume's.
use Rattle.std.proofs.Common.{ap, ◌∙◌}
use Rattle.layout.specs.Inodes.{inode_of}
use Rattle.reading.proofs.Finding.{entry_there}
use Rattle.reading.proofs.list.load_record.Goals as goal

pub load_inode-requires : goal.load_inode-requires
load_inode-requires g c =
    let o = c.args.volume.now in
    (entry_there (g.S.Store.blocks o.live.store.now) o.read c.args.e c.entry-entry.result o.sound o.loaded c.entry-entry.ensures c.requires.within c.requires.listed).1

pub returns : goal.returns
returns g c =
    let o = c.args.volume.now in
    let v = g.S.Store.blocks o.live.store.now in
    let entry = (entry_there v o.read c.args.e c.entry-entry.result o.sound o.loaded c.entry-entry.ensures c.requires.within c.requires.listed).0 in
    ap (λ i. record { name = c.entry-entry.result.name; inode = c.entry-entry.result.inode; size = i.size }) c.load_inode.ensures ∙ ap (λ x. record { name = x.name; inode = x.inode; size = (inode_of v x.inode).size }) entry
