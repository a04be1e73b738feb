-- The three ways: past the end, the first part, the second part.
use Rattle.std.proofs.Common.{◌≡◌, rules}
use Rattle.std.proofs.lemmas.Result.{err_from_is_err_and}
use Rattle.store.specs.Stripes.{from_part}
use Rattle.store.proofs.StripeCalls.{put_past, put_first, put_second}
use Rattle.store.proofs.Turns.{from_part-mapped}
use Rattle.store.proofs.stripe.StripeStore.put.Goals as goal
use Rattle.store.proofs.stripe.StripeStore.put.Goals.{in-First, in-Second}

pub returns-in_err-k : goal.returns-in_err-k
returns-in_err-k g c =
    let p = err_from_is_err_and c.from_residual.result c.from_residual.ensures.1 in
    rw (p.1, p.2) (put_past g.A.Store.laws g.B.Store.laws c.args.self.now c.args.n _ c.in_err-k.ensures c.args.contents.now)

pub returns : goal.returns
returns g c =
    let s = c.args.self.now in
    let n = c.args.n in
    let mapped : c.map_err.result ≡ from_part n c.match-branch-2.map_err = from_part-mapped n _ _ (λ f h p. search rules) c.map_err.ensures.cases in
    elim c.match-branch-2.branch [
      | in-First w ↦ (let lies = rw w.in-First.is at c.in_ok-k.ensures in
          rw (mapped, w.map_err-is, w.self-is) (put_first g.A.Store.laws g.B.Store.laws s n lies.0 lies.1 _ _ _ (rw lies.2 at w.put.ensures)))
      | in-Second w ↦ (let lies = rw w.in-Second.is at c.in_ok-k.ensures in
          rw (mapped, w.map_err-is, w.self-is) (put_second g.A.Store.laws g.B.Store.laws s n lies.0 lies.1 _ _ _ (rw lies.2 at w.put-in-Second.ensures)))
    ]
