-- Each number stands at its own place.
use Rattle.std.proofs.Common.{◌∙◌, rules}
use Rattle.std.proofs.lemmas.List.{map-id}
use Rattle.std.proofs.lemmas.List.FromFn.{fill_by_all}
use Rattle.std.specs.List.{range_with_len}
use Rattle.allotment.proofs.format.block_numbers.Goals as goal

pub returns : goal.returns
returns c =
    let made = c.from_fn.ensures.items in
    fill_by_all (λ k. k) c.from_fn.result 100 0 made.long (λ k lt. let at = made.at k 0 lt in search rules) ∙ map-id (range_with_len 0 100)
