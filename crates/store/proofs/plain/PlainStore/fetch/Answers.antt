-- An accepted block lies within the memory, and the buffer gets its bytes.
use Rattle.std.proofs.Common.{◌≡◌, ◌+◌, ◌-◌, ◌*◌, [], take, drop, sym, refl, ap, ◌∙◌, arith}
use Rattle.store.specs.Plain.{get_or_cut}
use Rattle.store.proofs.plain.PlainStore.fetch.Goals as goal

pub returns : goal.returns
returns g c =
    let bytes = g.M.AsSlice.items c.args.self.now.memory in
    let n = c.args.n in
    let asked = c.in_ok-ask.ensures in
    let size : (512 * n + 512) - 512 * n ≡ 512 = omega arith in
    let copied = rw c.as_slice.ensures at c.copy_from_slice.ensures.after in
    record {
      answer = asked.answer;
      buffer = copied ∙ ap (λ k. take k (drop (512 * n) bytes)) size ∙ sym (get_or_cut bytes n [] (asked.within refl));
    }
