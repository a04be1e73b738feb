-- Condemned already, and one number more.
use Rattle.std.proofs.Common.{sym, rules}
use Rattle.store.specs.Condemned.{listed}
use Rattle.store.proofs.Condemning.{condemns_again, condemns-new}
use Rattle.store.proofs.condemned.Condemned.condemn.Goals as goal

pub returns-then-holds : goal.returns-then-holds
returns-then-holds c =
    condemns_again c.args.total c.args.n (listed c.args.self.now) c.if-n-total.false (sym c.if-holds.ensures)

pub returns : goal.returns
returns c =
    condemns-new c.args.total c.args.n (listed c.args.self.now) c.if-n-total.false _ c.push.ensures.items (sym c.if-holds.ensures) (search rules)
