-- A number past the end changes nothing.
use Rattle.std.proofs.Common.{sym, ap, arith}
use Rattle.std.proofs.lemmas.List.{set_past}
use Rattle.volume.proofs.map.InodeMapVisitor.visit.Goals as goal

pub returns-else-i-lt1553 : goal.returns-else-i-lt1553
returns-else-i-lt1553 c = ap (λ xs. record { allocated = xs }) (sym (set_past c.args.self.now.allocated c.args.i _ (omega arith)))
