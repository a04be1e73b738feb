-- There is room for the file's blocks in the free list, and its inode and its entry are in the volume.
use Rattle.std.proofs.Common.{◌/◌, get_or, ap, arith}
use Rattle.layout.specs.Superblocks.{nfree_of}
use Rattle.volume.proofs.SoundFacts.{rules_hold}
use Rattle.reading.proofs.FileFacts.{few_entries}
use Rattle.reading.proofs.Finding.{file_data, number_facts}
use Rattle.allotment.proofs.Leading.{leads_to, leads_join, still_long}
use Rattle.writing.proofs.Removing.{entry-there, zeros-default, removed-by}
use Rattle.writing.proofs.Room.{own_room}
use Rattle.writing.proofs.remove.discard.Goals as goal

pub give_file_back-requires : goal.give_file_back-requires
give_file_back-requires g c =
    let v = g.S.Store.blocks c.args.live.now.store.now in
    let f = c.args.file.now in
    let sound = rules_hold v c.requires.sound.sound in
    let same = ap nfree_of c.requires.sound.loaded.superblock in
    record { small = (file_data v f sound c.requires.found).0; room = omega (arith, own_room v sound f c.requires.found) }

pub put_inode-requires : goal.put_inode-requires
put_inode-requires g c =
    let v = g.S.Store.blocks c.args.live.now.store.now in
    let laws = g.S.Store.laws in
    let facts = number_facts v c.args.file.now (rules_hold v c.requires.sound.sound) c.requires.found in
    omega (arith, facts.there, still_long laws c.put.ensures)

pub put_entry_number-requires : goal.put_entry_number-requires
put_entry_number-requires g c =
    let v = g.S.Store.blocks c.args.live.now.store.now in
    let laws = g.S.Store.laws in
    let sound = rules_hold v c.requires.sound.sound in
    let e = c.args.file.now.entry in
    let sofar = leads_join laws c.put.ensures c.put_inode.ensures in
    let same = ap (λ i. get_or i.addresses (e / 32) 0) c.requires.sound.loaded.root in
    record {
      few = omega (arith, c.requires.found.within, few_entries v sound);
      within = omega (arith, entry-there v sound e c.requires.found.within, still_long laws sofar);
    }

pub returns : goal.returns
returns g c =
    let laws = g.S.Store.laws in
    let v = g.S.Store.blocks c.args.live.now.store.now in
    let o = c.args.volume.now in
    let zeros = zeros-default c.default-zeros.result c.default-zeros.ensures in
    let joined = leads_join laws c.put.ensures (leads_join laws c.put_inode.ensures c.put_entry_number.ensures) in
    leads_to laws (removed-by v _ _ o.superblock c.give_file_back.new.superblock _ o.root.addresses c.args.file.now c.requires.sound.loaded.superblock c.give_file_back.ensures.after zeros (ap (λ i. i.addresses) c.requires.sound.loaded.root) c.put.ensures.after c.put_inode.ensures.after) joined
