-- One block asked, and the end of the store.
use Rattle.std.proofs.Common.{◌<◌, ◌≤◌, length, sym, ◌∙◌, arith}
use Rattle.std.proofs.lemmas.List.{at_drop_all}
use Rattle.store.specs.Stores.{first_dead, all_live}
use Rattle.store.proofs.Asking.{first-goes-on, first_here}
use Rattle.store.proofs.liveness.all_live.Goals as goal

pub returns-then-not-live : goal.returns-then-not-live
unfolding all_live
returns-then-not-live g c =
    let ms = g.S.Store.marks c.args.store.now in
    let within : c.loop-n.n < length ms = omega (arith, g.S.Store.laws.paired c.args.store.now) in
    c.fetch.ensures.answer ∙ first_here ms c.loop-n.n within (sym c.if-not-live.ensures) ∙ c.loop-n.invariant

pub loop-n-preserved : goal.loop-n-preserved
loop-n-preserved g c =
    let ms = g.S.Store.marks c.args.store.now in
    let within : c.loop-n.n < length ms = omega (arith, g.S.Store.laws.paired c.args.store.now) in
    first-goes-on ms c.loop-n.n within (sym c.if-not-live.ensures) ∙ c.loop-n.invariant

pub returns : goal.returns
unfolding all_live
returns g c =
    let ms = g.S.Store.marks c.args.store.now in
    let end : length ms ≤ c.loop-n.n = omega (arith, g.S.Store.laws.paired c.args.store.now) in
    sym (at_drop_all (first_dead c.loop-n.n) ms c.loop-n.n end) ∙ c.loop-n.invariant
