-- What is still to give back leads to the same superblock.
use Rattle.std.proofs.Common.{◌≡◌, ◌+◌, ◌≤◌, reverse, length}
use Rattle.std.specs.Slice.Iter.{iter_rest}
use Rattle.layout.specs.Superblocks.{nfree_of}
use Rattle.allotment.specs.FreeSteps.{gives}
use Rattle.allotment.proofs.free.give_back.Given as goal

abbrev pub invariant-loop-number : goal.invariant-loop-number
invariant-loop-number l = record {
  long : length l.superblock ≡ 512;
  few : nfree_of l.superblock + length (iter_rest l.number-iterator.iter) ≤ 100;
  same : gives l.superblock (reverse (iter_rest l.number-iterator.iter)) ≡ gives l.initial.superblock (reverse l.numbers);
}
