-- The blocks so far are taken, and their numbers stand in the addresses.
use Rattle.std.proofs.Common.{◌≡◌, ◌-◌, ◌++◌, length, replicate}
use Rattle.allotment.specs.FreeSteps.{takes, numbers_taken}
use Rattle.allotment.proofs.free.take_blocks.Given as goal

abbrev pub invariant-loop-address : goal.invariant-loop-address
invariant-loop-address l = record {
  long : length l.superblock ≡ 512;
  taken : l.superblock ≡ takes l.initial.superblock l.address-index;
  numbers : l.address-items ≡ numbers_taken l.initial.superblock l.address-index ++ replicate (l.n - l.address-index) 0;
}
