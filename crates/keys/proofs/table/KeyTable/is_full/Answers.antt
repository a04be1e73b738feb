-- The sum of the keys against the key of all covers.
use Rattle.std.proofs.Common.{rules}
use Rattle.keys.proofs.Tables.{says-full}
use Rattle.keys.proofs.table.KeyTable.is_full.Goals as goal

pub returns : goal.returns
returns c = says-full c.args.self.now _ (search rules)
