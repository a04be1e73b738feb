-- The name field is the fourteen bytes behind the number.
use Rattle.std.proofs.Common.{◌≡◌, ◌+◌, ◌-◌, ◌*◌, ◌∙◌, arith}
use Rattle.layout.proofs.Reading.{part_bytes_at}
use Rattle.layout.proofs.entry.Entry.decode.Goals as goal

pub returns : goal.returns
returns c =
    let d = c.args.directory.now in
    let at = 16 * c.args.e + 2 in
    let size : ((16 * c.args.e + 2) + 14) - (16 * c.args.e + 2) ≡ 14 = omega arith in
    let name = c.copy_from_slice.ensures.after ∙ part_bytes_at 14 _ d at size (omega arith) in
    cc
