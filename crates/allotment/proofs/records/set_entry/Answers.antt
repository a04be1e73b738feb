-- The number, and the name behind it.
use Rattle.std.proofs.Common.{◌≡◌, ◌+◌, ◌-◌, length, ap, ◌∙◌, arith}
use Rattle.allotment.proofs.Written.{put-with_bytes}
use Rattle.allotment.specs.Records.{with_bytes, entry_into}
use Rattle.allotment.proofs.records.set_entry.Goals as goal

pub returns : goal.returns
unfolding entry_into
returns c =
    let at = c.args.at in
    let name = c.args.name.now in
    let whole : (at + 16) - (at + 2) ≡ length name = omega (arith, c.told-name) in
    put-with_bytes c.set_word.new.block (at + 2) ((at + 16) - (at + 2)) _ name c.copy_from_slice.ensures.after whole ∙ ap (λ b. with_bytes b (at + 2) name) c.set_word.ensures
