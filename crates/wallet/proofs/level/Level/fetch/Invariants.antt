-- The covers passed were accepted, and the sum is theirs.
use Rattle.wallet.proofs.Gathering.{Added}
use Rattle.wallet.proofs.level.Level.fetch.Given as goal

abbrev pub invariant-loop-cover : goal.invariant-loop-cover
invariant-loop-cover g l = Added l.self (g.S.Store.marks l.store) (g.S.Store.blocks l.store) l.b l.initial.sum l.cover l.sum
