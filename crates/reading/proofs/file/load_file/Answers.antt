-- The entry is the volume's.
use Rattle.reading.proofs.Finding.{entry_there}
use Rattle.reading.proofs.file.load_file.Goals as goal

pub load_inode-requires : goal.load_inode-requires
load_inode-requires g c =
    let o = c.args.volume.now in
    (entry_there (g.S.Store.blocks o.live.store.now) o.read c.args.e c.entry-number.result o.sound o.loaded c.entry-number.ensures c.requires.within c.requires.listed).1
