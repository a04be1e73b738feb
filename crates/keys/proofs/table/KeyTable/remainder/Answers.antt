-- The remainder by the standing keys.
use Rattle.std.proofs.Common.{rules}
use Rattle.keys.proofs.Tables.{remains}
use Rattle.keys.proofs.table.KeyTable.remainder.Goals as goal

pub returns : goal.returns
returns c = remains c.args.self.now c.args.candidate _ (search rules)
