-- Past the end; all covers fetched and put.
use Rattle.std.proofs.Common.{is_ok, Err, sym, ap, ◌∙◌, subst}
use Rattle.wallet.specs.Standing.{Spares}
use Rattle.wallet.proofs.Marking.{level_past}
use Rattle.wallet.proofs.Putting.{spread-filled, put_spares}
use Rattle.wallet.proofs.level.Level.put.Goals as goal

pub returns-then-b-self-clause-answer : goal.returns-then-b-self-clause-answer
returns-then-b-self-clause-answer g c = ap Err c.past_count.ensures ∙ level_past c.args.self.now (g.S.Store.marks c.args.store.now) c.args.b c.if-b-self.true

pub returns-clause-after : goal.returns-clause-after
returns-clause-after g c =
    c.scatter.ensures.after ∙ spread-filled c.args.self.now c.args.b c.args.contents.now (g.S.Store.blocks c.args.store.now) c.if-b-self.false _ (c.in_ok-gather.ensures.sum)

pub returns-clause-spares : goal.returns-clause-spares
returns-clause-spares g c =
    let l = c.args.self.now in
    let b = c.args.b in
    let contents = c.args.contents.now in
    let s = c.args.store.now in
    let bs = g.S.Store.blocks s in
    let filled = put_spares l b contents bs c.if-b-self.false c.told-contents (g.S.Store.marks s) (g.S.Store.laws.paired s) (ap is_ok (sym c.in_ok-gather.ensures.answer)) in
    subst (Spares l b contents bs) (sym (c.scatter.ensures.after ∙ spread-filled l b contents bs c.if-b-self.false _ c.in_ok-gather.ensures.sum)) filled
