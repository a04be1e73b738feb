-- The blocks so far are zeroed.
use Rattle.std.proofs.Common.{◌-◌}
use Rattle.store.specs.Lives.{Leads}
use Rattle.allotment.specs.Records.{cleared}
use Rattle.allotment.proofs.blocks.clear_blocks.Given as goal

abbrev pub invariant-loop-n : goal.invariant-loop-n
invariant-loop-n g l =
    Leads g.S.Store.blocks g.S.Store.moved (cleared (g.S.Store.blocks l.initial.live.store.now) l.low (l.n - l.low)) l.initial.live.store l.live.store
