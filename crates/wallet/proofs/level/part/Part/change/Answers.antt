-- The store's answer comes up with the level's own names.
use Rattle.std.proofs.Common.{sym, ◌∙◌}
use Rattle.wallet.proofs.Covering.{answer_inside}
use Rattle.wallet.proofs.level.part.Part.change.Goals as goal

pub returns-then-in_key-clause-answer : goal.returns-then-in_key-clause-answer
returns-then-in_key-clause-answer g c = c.placed.ensures ∙ answer_inside c.args.self.now.level _ _ _ _ _ (sym c.in_key.ensures ∙ c.if-in_key.true) c.place.ensures c.put.ensures.answer
