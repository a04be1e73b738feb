-- One block more, and all of them. What the block holds is found by a search, so that a body that puts another block fails at that equation,
-- and not for the name of a call.
use Rattle.std.proofs.Common.{◌≡◌, ◌+◌, ◌*◌, [], ◌∷◌, ◌++◌, length, drop, sym, ap, ◌∙◌, arith, rules}
use Rattle.std.proofs.lemmas.Slice.{overwrites}
use Rattle.std.proofs.lemmas.List.{length_push}
use Rattle.allotment.proofs.Laying.{laid_none, next_item, next_rest, next_part, next_few}
use Rattle.allotment.proofs.Leading.{leads_none, leads_to, still_long, leads_laid}
use Rattle.allotment.proofs.contents.put_contents.Goals as goal

pub loop-bytes-init : goal.loop-bytes-init
loop-bytes-init g c =
    let s = c.args.live.now.store in
    record {
      size = search rules;
      rest = search rules;
      numbers = search rules;
      few = search rules;
      leads = leads_to g.S.Store.laws (sym (laid_none (g.S.Store.blocks s.now) c.args.addresses.now c.args.contents.now)) (leads_none g.S.Store.laws s);
    }

pub put-requires : goal.put-requires
put-requires g c =
    let sofar = c.loop-bytes.invariant in
    let steps = c.in-Some.ensures.steps in
    let k = length c.loop-bytes.yielded in
    let item = next_item c.args.addresses.now _ _ k c.in-Some.number.now sofar.numbers steps.1 in
    let few = next_few c.args.contents.now _ c.in-Some.bytes.now _ k sofar.rest steps.0.1.0 (rw sofar.size at steps.0.1.1) steps.0.1.2 in
    omega (arith, item.1, still_long g.S.Store.laws sofar.leads, c.requires.there k few)

pub loop-bytes-preserved : goal.loop-bytes-preserved
loop-bytes-preserved g c =
    let laws = g.S.Store.laws in
    let sofar = c.loop-bytes.invariant in
    let steps = c.in-Some.ensures.steps in
    let v = g.S.Store.blocks c.args.live.now.store.now in
    let numbers = c.args.addresses.now in
    let contents = c.args.contents.now in
    let k = length c.loop-bytes.yielded in
    let more : k + 1 ≡ length (c.loop-bytes.yielded ++ ((c.in-Some.bytes, c.in-Some.number) ∷ [])) = sym (length_push c.loop-bytes.yielded (c.in-Some.bytes, c.in-Some.number)) in
    let item = next_item numbers _ _ k c.in-Some.number.now sofar.numbers steps.1 in
    let size = rw sofar.size at steps.0.1.1 in
    let few = next_few contents _ c.in-Some.bytes.now _ k sofar.rest steps.0.1.0 size steps.0.1.2 in
    record {
      size = steps.0.0 ∙ sofar.size;
      rest = next_rest contents _ c.in-Some.bytes.now _ k sofar.rest steps.0.1.0 size ∙ ap (λ n. drop (512 * n) contents) more;
      numbers = item.2 ∙ ap (λ n. drop n numbers) more;
      few = omega (arith, more, few);
      leads = leads_laid laws v numbers contents k sofar.leads c.put.ensures item.1 (search (rules, overwrites) ∙ next_part contents _ c.in-Some.bytes.now _ k sofar.rest steps.0.1.0 size) more;
    }
