-- The three ways out: past the end, dead, live.
use Rattle.std.proofs.Common.{Err, sym, ap, ◌∙◌}
use Rattle.store.specs.Condemned.{listed}
use Rattle.store.proofs.Asking.{plain_past, plain_dead, plain_live}
use Rattle.store.proofs.condemned.Condemned.ask.Goals as goal

pub returns-then-n-total-clause-answer : goal.returns-then-n-total-clause-answer
returns-then-n-total-clause-answer c =
    ap Err c.past_count.ensures ∙ sym (plain_past (listed c.args.self.now) c.args.total c.args.n c.if-n-total.true)

pub returns-then-holds-clause-answer : goal.returns-then-holds-clause-answer
returns-then-holds-clause-answer c =
    ap Err c.dead_block.ensures ∙ sym (plain_dead (listed c.args.self.now) c.args.total c.args.n c.if-n-total.false (sym c.if-holds.ensures))

pub returns-clause-answer : goal.returns-clause-answer
returns-clause-answer c =
    sym (plain_live (listed c.args.self.now) c.args.total c.args.n c.if-n-total.false (sym c.if-holds.ensures))
