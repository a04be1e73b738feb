-- No fetch is refused where every block is live.
use Rattle.std.proofs.Common.{◌≡◌, ◌<◌, length, arith, Ok, ◌∙◌, rules}
use Rattle.store.proofs.Asking.{asked-from_all}
use Rattle.store.proofs.liveness.Live.load.Goals as goal

pub unwrap-requires : goal.unwrap-requires
unwrap-requires g c =
    let s = c.args.self.now.store.now in
    let within : c.args.n < length (g.S.Store.marks s) = omega (arith, g.S.Store.laws.paired s) in
    let accepted : c.fetch.result ≡ Ok tt = c.fetch.ensures.answer ∙ asked-from_all (g.S.Store.marks s) c.args.n within c.args.self.now.live in
    search rules
