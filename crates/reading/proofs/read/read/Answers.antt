-- The blocks of the file are in the volume.
use Rattle.std.proofs.Common.{sym, arith}
use Rattle.reading.proofs.Finding.{file_in, file_data, blocks_there}
use Rattle.volume.proofs.SoundFacts.{rules_hold}
use Rattle.reading.proofs.read.read.Goals as goal

pub load_bytes-requires : goal.load_bytes-requires
load_bytes-requires g c =
    let o = c.in_ok-volume.volume in
    let v = g.S.Store.blocks o.live.store.now in
    let sound = rules_hold v o.sound in
    let file = c.in_ok-file.file in
    let stands = file_in v c.args.name.now file (sym c.in_ok-file.ensures) in
    record { few = (file_data v file sound stands).0; there = blocks_there v file sound stands; room = omega arith }
