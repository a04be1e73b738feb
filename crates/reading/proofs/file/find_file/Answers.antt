-- An entry that was found is used.
use Rattle.std.proofs.Common.{◌≡◌, Some, sym, ◌∙◌, arith, rules}
use Rattle.reading.proofs.Finding.{looked_up, entry-used}
use Rattle.reading.proofs.file.find_file.Goals as goal

pub load_file-requires : goal.load_file-requires
load_file-requires g c =
    let o = c.args.volume.now in
    let v = g.S.Store.blocks o.live.store.now in
    let name = c.args.name.now in
    let some : c.find_entry.result ≡ Some c.in_ok-e.e = search rules in
    let found = sym (looked_up v o.read name o.loaded) ∙ sym c.find_entry.ensures ∙ some in
    let entry = entry-used v name c.in_ok-e.e found in
    record { within = omega (arith, entry.0, o.loaded.entries); listed = entry.1 }
