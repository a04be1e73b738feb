-- The new inode and the block of the new entry are in the volume.
use Rattle.std.proofs.Common.{◌/◌, length, get_or, ap, arith}
use Rattle.volume.proofs.RuleFacts.{sizes_from}
use Rattle.volume.proofs.SoundFacts.{rules_hold}
use Rattle.volume.specs.Rules.{super_of}
use Rattle.writing.proofs.Creating.{slot_there, created-by}
use Rattle.allotment.proofs.Leading.{leads_to, leads_join, still_long}
use Rattle.writing.proofs.Vacancies.{vacancy_is}
use Rattle.writing.proofs.create.enter.Goals as goal

pub make_room-addresses-requires : goal.make_room-addresses-requires
make_room-addresses-requires g c =
    let v = g.S.Store.blocks c.args.live.now.store.now in
    let at = vacancy_is v c.args.vacancy.now (rules_hold v c.requires.sound.sound) c.requires.found in
    record { sound = c.requires.sound; few = at.few; room = at.room }

pub put_inode-requires : goal.put_inode-requires
put_inode-requires g c =
    let v = g.S.Store.blocks c.args.live.now.store.now in
    let laws = g.S.Store.laws in
    let at = vacancy_is v c.args.vacancy.now (rules_hold v c.requires.sound.sound) c.requires.found in
    omega (arith, at.numbered, still_long laws c.make_room-addresses.ensures.leads)

pub put_entry-requires : goal.put_entry-requires
put_entry-requires g c =
    let s = c.args.live.now.store.now in
    let v = g.S.Store.blocks s in
    let laws = g.S.Store.laws in
    let sound = rules_hold v c.requires.sound.sound in
    let at = vacancy_is v c.args.vacancy.now sound c.requires.found in
    let e = c.args.vacancy.now.entry in
    let sizes = sizes_from (super_of v) (length v) sound.sizes in
    let long = laws.sized s 1 (omega arith) in
    let sofar = leads_join laws c.make_room-addresses.ensures.leads c.put_inode.ensures in
    let same = ap (λ xs. get_or xs (e / 32) 0) c.make_room-addresses.ensures.numbers in
    record {
      few = at.few;
      within = omega (arith, slot_there v sound e long at.few at.next at.room, still_long laws sofar);
    }

pub returns : goal.returns
returns g c =
    let laws = g.S.Store.laws in
    let v = g.S.Store.blocks c.args.live.now.store.now in
    let joined = leads_join laws c.make_room-addresses.ensures.leads (leads_join laws c.put_inode.ensures c.put_entry.ensures) in
    leads_to laws (created-by v _ _ _ c.make_room-addresses.result c.args.name.now c.name_field-field.result c.args.vacancy.now c.new_inode.ensures c.make_room-addresses.ensures.numbers c.name_field-field.ensures c.make_room-addresses.ensures.leads.after c.put_inode.ensures.after) joined
