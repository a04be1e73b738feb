-- What has been counted so far.
use Rattle.std.proofs.Common.{◌≡◌, take}
use Rattle.volume.specs.Tallies.{tallied}
use Rattle.volume.proofs.tally.Tally.add_all.Given as goal

abbrev pub invariant-loop-number : goal.invariant-loop-number
invariant-loop-number l = l.self.counts ≡ tallied l.initial.self.counts (take l.number-index l.numbers)
