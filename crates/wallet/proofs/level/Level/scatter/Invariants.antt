-- The covers passed have the change, and the store has moved.
use Rattle.std.proofs.Common.{◌≡◌}
use Rattle.wallet.proofs.Scattering.{spread_to}
use Rattle.wallet.proofs.level.Level.scatter.Given as goal

abbrev pub invariant-loop-cover : goal.invariant-loop-cover
invariant-loop-cover g l = record {
  changed : g.S.Store.blocks l.store ≡ spread_to l.self l.b l.change (g.S.Store.blocks l.initial.store) l.cover;
  moves : g.S.Store.moved l.initial.store l.store;
}
