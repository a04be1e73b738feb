-- A number past the end changes nothing.
use Rattle.std.proofs.Common.{sym, arith}
use Rattle.std.proofs.lemmas.List.{set_past}
use Rattle.volume.proofs.tally.Tally.add.Goals as goal

pub returns-else-n-lt100 : goal.returns-else-n-lt100
returns-else-n-lt100 c = sym (set_past c.args.self.now.counts c.args.number _ (omega arith))
