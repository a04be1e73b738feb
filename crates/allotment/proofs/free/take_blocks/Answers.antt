-- One block more, and all of them. What is answered is found by a search, so that a body that answers other numbers fails at that equation,
-- and not for the name of a call.
use Rattle.std.proofs.Common.{◌≡◌, ℕ, ◌-◌, ◌++◌, replicate, sym, ap, ◌∙◌, arith, rules}
use Rattle.std.proofs.lemmas.Grind.{common_steps}
use Rattle.std.proofs.lemmas.List.{length-take}
use Rattle.layout.specs.Superblocks.{nfree_of}
use Rattle.allotment.proofs.FreeLaws.{takes_none, takes-more, nfree-takes, addresses_none, addresses_next, addresses_all}
use Rattle.allotment.specs.FreeSteps.{taken, next_free, takes, numbers_taken}
use Rattle.allotment.proofs.free.take_blocks.Goals as goal

pub loop-address-init : goal.loop-address-init
loop-address-init c =
    let b = c.args.superblock.now in
    record { long = c.told-superblock; taken = sym (takes_none b c.told-superblock); numbers = addresses_none b c.args.n (omega (arith, c.requires.few)) }

pub take_block-requires : goal.take_block-requires
take_block-requires c =
    let left = nfree-takes c.args.superblock.now c.told-superblock c.loop-address.address-index in
    let same = ap nfree_of c.loop-address.invariant.taken in
    record { some = omega (arith, c.requires.enough, c.requires.few, length-take {A = ℕ}); most = omega (arith, c.requires.most) }

pub loop-address-preserved : goal.loop-address-preserved
loop-address-preserved c =
    let b = c.args.superblock.now in
    let j = c.loop-address.address-index in
    record {
      long = c.take_block.array_long;
      taken = c.take_block.ensures.after ∙ ap taken c.loop-address.invariant.taken ∙ sym (takes-more b c.told-superblock j);
      numbers = addresses_next b c.args.n j c.take_block.result c.loop-address.address-items (omega (arith, c.requires.few, length-take {A = ℕ})) c.loop-address.invariant.numbers (c.take_block.ensures.number ∙ ap next_free c.loop-address.invariant.taken);
    }

pub returns : goal.returns
returns c =
    let b = c.args.superblock.now in
    let all : c.loop-address.address-index ≡ c.args.n = omega (arith, c.requires.few, length-take {A = ℕ}) in
    record { numbers = search (rules, common_steps) ∙ addresses_all b c.args.n c.loop-address.address-items (c.loop-address.invariant.numbers ∙ ap (λ k. numbers_taken b k ++ replicate (c.args.n - k) 0) all); after = c.loop-address.invariant.taken ∙ ap (takes b) all }
