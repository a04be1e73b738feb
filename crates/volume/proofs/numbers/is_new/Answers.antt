-- The number stands at none of the places before.
use Rattle.std.proofs.Common.{eqb, get_or, ap, not, ◌∙◌, arith}
use Rattle.volume.proofs.Everys.{every-none_of}
use Rattle.volume.proofs.numbers.is_new.Goals as goal

pub returns : goal.returns
returns c =
    let numbers = c.args.numbers.now in
    let j = c.args.j in
    ap not c.contains.ensures.value ∙ every-none_of (λ x. eqb x (get_or numbers j 0)) numbers j (omega (arith, c.requires))
