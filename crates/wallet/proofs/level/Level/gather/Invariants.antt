-- The covers passed were accepted, the sum is theirs, and their blocks are held.
use Rattle.wallet.proofs.Gathering.{Added, HoldsBelow}
use Rattle.wallet.proofs.level.Level.gather.Given as goal

abbrev pub invariant-loop-cover : goal.invariant-loop-cover
invariant-loop-cover g l = record {
  added : Added l.self (g.S.Store.marks l.store) (g.S.Store.blocks l.store) l.b l.initial.sum l.cover l.sum;
  holds : HoldsBelow l.self (g.S.Store.blocks l.store) l.b l.cover l.held;
}
