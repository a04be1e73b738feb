-- The block is that with the entry replaced.
use Rattle.std.proofs.Common.{◌≡◌, [], get_or, set, ap, rules}
use Rattle.allotment.proofs.Leading.{leads_to}
use Rattle.allotment.specs.Records.{entry_into}
use Rattle.allotment.specs.Volumes.{entry_block, entry_place, with_entry}
use Rattle.allotment.proofs.records.put_entry.Goals as goal

pub returns : goal.returns
unfolding with_entry
returns g c =
    let v = g.S.Store.blocks c.args.live.now.store.now in
    let n = entry_block c.args.addresses.now c.args.e in
    let made : c.change.ensures.0 ≡ entry_into (get_or v n []) (entry_place c.args.e) c.args.number c.args.name.now = search rules in
    leads_to g.S.Store.laws (ap (set v n) made) c.change.ensures.2
