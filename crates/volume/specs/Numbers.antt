-- Lists of block numbers.
use Rattle.std.specs.Prelude.{ℕ, zero, suc, ◌+◌, Bool, cond, not, List, [], ◌∷◌, length, ◌==◌, slice_index}
use Rattle.std.specs.List.{list_all}
use Rattle.volume.specs.Every.{every}
use Rattle.layout.specs.Superblocks.{is_data}

-- The number at place j stands at no earlier place.
abbrev pub is_new : List ℕ → ℕ → Bool
is_new xs j = every j (λ i. not (slice_index xs i == slice_index xs j))

-- No number stands twice.
abbrev pub different : List ℕ → Bool
different xs = every (length xs) (is_new xs)

-- Each is a data block of a volume with so many blocks of inodes and so many in all.
abbrev pub all_data : (isize count : ℕ) → List ℕ → Bool
all_data isize count xs = list_all (is_data isize count) xs

-- How often n stands in a list.
abbrev pub occurrences : ℕ → List ℕ → ℕ
occurrences n [] = 0
occurrences n (x ∷ xs) = cond (x == n) 1 0 + occurrences n xs

-- The sum of f over the numbers below n.
unfoldable pub total : ℕ → (ℕ → ℕ) → ℕ
total zero f = 0
total (suc n) f = f n + total n f
