-- The blocks of a new volume, put one after the other.
use Rattle.std.proofs.Common.{◌≡◌, ℕ, ◌+◌, ◌-◌, ◌<◌, ◌≤◌, List, length, reverse, take, drop, set, sym, ap, ◌∙◌, arith}
use Rattle.std.proofs.lemmas.List.{ext_get_or, length-drop, length-take-le, get_or-drop, get_or-take}
use Rattle.std.proofs.lemmas.List.FromFn.{length-range_with_len, get_or-range_with_len}
use Rattle.std.specs.List.{range_with_len}
use Rattle.store.specs.Stores.{Block}
use Rattle.allotment.specs.Formats.{bare_super, new_super, first_inodes, root_entries, formatted}
use Rattle.allotment.specs.FreeSteps.{gives}
use Rattle.allotment.specs.Records.{zero_block, cleared}

pub formatted-by : (v v₁ v₂ v₃ v₄ : List Block) (isize count : ℕ) (zeros super inodes entries : Block) → zeros ≡ zero_block → super ≡ new_super count isize → count ≡ length v → inodes ≡ first_inodes isize → entries ≡ root_entries → v₁ ≡ set v 0 zeros → v₂ ≡ set v₁ 1 super → v₃ ≡ set v₂ 2 inodes → v₄ ≡ cleared v₃ 3 ((isize + 2) - 3) → set v₄ (isize + 2) entries ≡ formatted v isize
unfolding formatted
formatted-by v v₁ v₂ v₃ v₄ isize count zeros super inodes entries zeros-is super-is count-is inodes-is entries-is e₁ e₂ e₃ e₄ = let rest : (isize + 2) - 3 ≡ isize - 1 = omega arith in cc

-- the numbers from one to before another
pub numbers_between : (low high : ℕ) → low ≤ high → high ≤ 100 → take (high - low) (drop low (range_with_len 0 100)) ≡ range_with_len low (high - low)
numbers_between low high order few =
    let n = high - low in
    let size = length-range_with_len 0 100 in
    let size_from = length-range_with_len low n in
    let left = length-drop low (range_with_len 0 100) in
    let cut = length-take-le n (drop low (range_with_len 0 100)) (omega arith) in
    ext_get_or 0 (take n (drop low (range_with_len 0 100))) (range_with_len low n) (omega arith)
    (λ j lt.
    let below : j < n = omega arith in
    let here : 0 + (low + j) ≡ low + j = omega arith in
    get_or-take n (drop low (range_with_len 0 100)) j 0 below ∙ get_or-drop low (range_with_len 0 100) j 0 ∙ get_or-range_with_len 0 100 (low + j) 0 (omega arith) ∙ here ∙ sym (get_or-range_with_len low n j 0 below))

pub new_super-by : (count isize : ℕ) (bare after : Block) (numbers : List ℕ) → isize + 3 ≤ count → count ≤ 100 → bare ≡ bare_super count isize → numbers ≡ range_with_len 0 100 → after ≡ gives bare (reverse (take (count - (isize + 3)) (drop (isize + 3) numbers))) → after ≡ new_super count isize
unfolding new_super
new_super-by count isize bare after numbers room small bare-is numbers-are given =
    given ∙ ap (λ b. gives b (reverse (take (count - (isize + 3)) (drop (isize + 3) numbers)))) bare-is
    ∙ ap (λ ns. gives (bare_super count isize) (reverse ns)) (ap (λ ns. take (count - (isize + 3)) (drop (isize + 3) ns)) numbers-are ∙ numbers_between (isize + 3) count room small)
