-- The records so far stand over the front of the caller's.
use Rattle.std.proofs.Common.{◌≡◌, ◌++◌, length, drop}
use Rattle.volume.specs.Rules.{directory_of}
use Rattle.volume.specs.VolumeFiles.{used_among}
use Rattle.reading.specs.Listings.{records_among}
use Rattle.reading.proofs.list.fill_records.Given as goal

abbrev pub invariant-loop-e : goal.invariant-loop-e
invariant-loop-e g l =
    let v = g.S.Store.blocks l.volume.live.store.now in
    record { count : l.filled ≡ length (used_among (directory_of v) l.e); sofar : l.records ≡ records_among v (directory_of v) l.e ++ drop l.filled l.initial.records }
