-- Twice the smaller count.
use Rattle.std.proofs.Common.{[], arith}
use Rattle.store.specs.Stripes.{length_striped}
use Rattle.store.proofs.stripe.StripeStore.count.Goals as goal

pub returns : goal.returns
returns g c =
    let s = c.args.self.now in
    omega (arith, length_striped [] (g.A.Store.blocks s.first) (g.B.Store.blocks s.second))
