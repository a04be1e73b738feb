-- A remainder names no cover that the keys and the candidate do not name.
use Rattle.keys.specs.Tables.{standing}
use Rattle.keys.proofs.Standing.{remainder-below}
use Rattle.keys.proofs.table.KeyTable.add.Goals as goal

pub append-requires-clause-below : goal.append-requires-clause-below
append-requires-clause-below c =
    let t = c.args.self.now in
    rw c.remainder-key.ensures.answer (remainder-below t.covers (standing t) t.below c.args.candidate c.in_ok-admit.ensures.below)
