-- A cover more; a cover that refuses; all covers.
use Rattle.std.proofs.Common.{Err, ap, ◌∙◌, arith}
use Rattle.std.proofs.lemmas.Result.{err_from_is_err_and}
use Rattle.wallet.proofs.Gathering.{added_none, added_more, added-refused, added-accepted, added_all, holds_more}
use Rattle.wallet.proofs.Summing.{summed-all}
use Rattle.wallet.proofs.level.Level.gather.Goals as goal

pub loop-cover-init : goal.loop-cover-init
loop-cover-init g c = record { added = added_none _ _ _ _ _ c.told-sum; holds = λ j lt in'. absurd (omega arith) }

pub loop-cover-preserved : goal.loop-cover-preserved
loop-cover-preserved g c = record {
  added = added_more _ _ _ _ _ _ _ c.loop-cover.invariant.added _ (omega arith) c.in_ok-add.ensures.answer c.in_ok-add.ensures.sum;
  holds = holds_more c.args.self.now _ _ _ _ _ _ (omega arith) c.loop-cover.invariant.holds c.in_ok-add.ensures.buffer;
}

pub returns-in_err-add-clause-answer : goal.returns-in_err-add-clause-answer
returns-in_err-add-clause-answer g c =
    let p = err_from_is_err_and c.from_residual.result c.from_residual.ensures.1 in
    p.1 ∙ ap Err p.2 ∙ added-refused _ _ _ _ _ _ _ c.loop-cover.invariant.added _ (omega arith) c.requires.within c.in_err-add.ensures.answer

pub returns-clause-answer : goal.returns-clause-answer
returns-clause-answer g c = added-accepted _ _ _ _ _ _ _ c.loop-cover.invariant.added (omega arith) c.requires.within

pub returns-clause-sum : goal.returns-clause-sum
returns-clause-sum g c = added_all _ _ _ _ _ _ _ c.loop-cover.invariant.added (omega arith) ∙ summed-all c.args.self.now (g.S.Store.blocks c.args.store.now) c.args.b c.args.sum.now c.requires.within
