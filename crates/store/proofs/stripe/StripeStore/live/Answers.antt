-- The three ways: the first part, the second part, past the end.
use Rattle.std.proofs.Common.{is_ok, ap, ◌∙◌}
use Rattle.store.proofs.StripeCalls.{ask_past, live_first, live_second}
use Rattle.store.proofs.stripe.StripeStore.live.Goals as goal

pub returns-in-Ok-First : goal.returns-in-Ok-First
returns-in-Ok-First g c =
    let lies = rw c.in-Ok-First.field-0-is at c.in-Ok-First.ensures in
    (rw lies.2 at c.live.ensures) ∙ live_first g.A.Store.laws g.B.Store.laws c.args.self.now c.args.n lies.0 lies.1

pub returns-in-Ok-Second : goal.returns-in-Ok-Second
returns-in-Ok-Second g c =
    let lies = rw c.in-Ok-Second.field-0-is at c.in-Ok-Second.ensures in
    (rw lies.2 at c.live-in-Ok-Second.ensures) ∙ live_second g.A.Store.laws g.B.Store.laws c.args.self.now c.args.n lies.0 lies.1

pub returns-in-Err : goal.returns-in-Err
returns-in-Err g c =
    ap is_ok (ask_past g.A.Store.laws g.B.Store.laws c.args.self.now c.args.n _ c.in-Err.ensures)
