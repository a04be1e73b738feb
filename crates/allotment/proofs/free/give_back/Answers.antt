-- One block more, the last that is left.
use Rattle.std.proofs.Common.{◌≡◌, ℕ, [], reverse, length, sym, ap, ◌∙◌, arith, length-append}
use Rattle.std.proofs.lemmas.List.{nil_from_length}
use Rattle.std.specs.Slice.Iter.{iter_rest}
use Rattle.layout.specs.Superblocks.{nfree_of}
use Rattle.allotment.proofs.FreeLaws.{nfree-given, gives_next}
use Rattle.allotment.specs.FreeSteps.{gives}
use Rattle.allotment.proofs.free.give_back.Goals as goal

pub loop-number-preserved : goal.loop-number-preserved
loop-number-preserved c =
    let b = c.loop-number.superblock in
    let rest = iter_rest c.next.new.self.iter in
    let split = c.in-Some.ensures.steps in
    let left = ap length split in
    let more = nfree-given b c.loop-number.invariant.long c.in-Some.number.now (omega (arith, length-append {A = ℕ})) in
    let same = ap nfree_of c.give.ensures in
    record {
      long = c.give.array_long;
      few = omega (arith, length-append {A = ℕ});
      same = gives_next b c.give.new.superblock _ rest _ c.in-Some.number.now c.give.ensures split c.loop-number.invariant.same;
    }

pub returns : goal.returns
unfolding gives
returns c =
    let none : iter_rest c.loop-number.number-iterator.iter ≡ [] = nil_from_length _ c.in-None.ensures.steps.0 in
    ap (λ xs. gives c.loop-number.superblock (reverse xs)) (sym none) ∙ c.loop-number.invariant.same
