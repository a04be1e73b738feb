-- The bytes of the block change and no others.
use Rattle.std.proofs.Common.{◌≡◌, ◌+◌, ◌-◌, ◌*◌, length, set, ap, ◌∙◌, arith}
use Rattle.store.specs.Plain.{cut}
use Rattle.store.proofs.Cuts.{length-put, cut-put, tail-put}
use Rattle.store.proofs.memory.overwrite.Goals as goal

pub returns : goal.returns
returns c =
    let bytes = c.args.memory.now in
    let n = c.args.n in
    let k = (512 * n + 512) - 512 * n in
    let whole : (512 * n + 512) - 512 * n ≡ 512 = omega arith in
    let b = c.copy_from_slice.new.self in
    let is = c.copy_from_slice.ensures.after in
    let size = ap length is ∙ c.told-contents in
    record {
      blocks = cut-put bytes n k b c.requires size whole ∙ ap (set (cut bytes) n) is;
      len = length-put bytes n k b c.requires size whole;
      rest = tail-put bytes n k b c.requires size whole;
    }
