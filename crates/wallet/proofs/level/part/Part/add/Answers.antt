-- A refusal comes up from the store, with the level's own names.
use Rattle.std.proofs.Common.{Err, sym, ap, ◌∙◌}
use Rattle.std.proofs.lemmas.Result.{err_from_is_err_and}
use Rattle.wallet.proofs.Covering.{answer_inside}
use Rattle.wallet.proofs.level.part.Part.add.Goals as goal

pub returns-in_err-placed-clause-answer : goal.returns-in_err-placed-clause-answer
returns-in_err-placed-clause-answer g c =
    let p = err_from_is_err_and c.from_residual.result c.from_residual.ensures.1 in
    p.1 ∙ ap Err p.2 ∙ c.in_err-placed.ensures ∙ answer_inside c.args.self.now.level _ _ _ _ _ (sym c.in_key.ensures ∙ c.if-in_key.true) c.place.ensures c.fetch.ensures.answer
