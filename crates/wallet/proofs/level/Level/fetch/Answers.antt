-- Past the end; a cover more; a cover that refuses; all covers.
use Rattle.std.proofs.Common.{ℕ, replicate, is_ok, Err, sym, refl, ap, ◌∙◌, arith}
use Rattle.std.proofs.lemmas.List.{length-replicate}
use Rattle.std.proofs.lemmas.Result.{err_from_is_err_and}
use Rattle.std.proofs.lemmas.Bool.{cond-false}
use Rattle.wallet.proofs.Gathering.{added_none, added_more, added-refused, added-accepted, added_all}
use Rattle.wallet.proofs.Marking.{level_past}
use Rattle.wallet.proofs.Summing.{summed-zero}
use Rattle.wallet.proofs.level.Level.fetch.Goals as goal

pub returns-then-b-self : goal.returns-then-b-self
returns-then-b-self g c = record {
  answer = ap Err c.past_count.ensures ∙ level_past c.args.self.now (g.S.Store.marks c.args.store.now) c.args.b c.if-b-self.true;
  buffer = refl;
}

pub loop-cover-init : goal.loop-cover-init
loop-cover-init g c = added_none c.args.self.now _ _ c.args.b (replicate 512 0) (length-replicate {A = ℕ} 512 0)

pub loop-cover-preserved : goal.loop-cover-preserved
loop-cover-preserved g c = added_more _ _ _ _ _ _ _ c.loop-cover.invariant _ c.loop-cover-test.true c.in_ok-add.ensures.answer c.in_ok-add.ensures.sum

pub returns-in_err-add : goal.returns-in_err-add
returns-in_err-add g c =
    let p = err_from_is_err_and c.from_residual.result c.from_residual.ensures.1 in
    record {
      answer = p.1 ∙ ap Err p.2 ∙ added-refused _ _ _ _ _ _ _ c.loop-cover.invariant _ c.loop-cover-test.true c.if-b-self.false c.in_err-add.ensures.answer;
      buffer = sym (cond-false (is_ok c.from_residual.result) _ c.args.buffer.now (ap is_ok p.1));
    }

pub returns : goal.returns
returns g c = record {
  answer = added-accepted _ _ _ _ _ _ _ c.loop-cover.invariant c.loop-cover-test.false c.if-b-self.false;
  buffer = added_all _ _ _ _ _ _ _ c.loop-cover.invariant (omega arith) ∙ summed-zero c.args.self.now (g.S.Store.blocks c.args.store.now) c.args.b c.if-b-self.false;
}
