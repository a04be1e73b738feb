-- Counts of how often each block is named, as the code keeps them.
use Rattle.std.specs.Prelude.{ℕ, ◌+◌, min, Bool, cond, not, ◌||◌, List, ◌==◌, fold, slice_index, slice_set}
use Rattle.layout.specs.Inodes.{allocated}
use Rattle.layout.specs.Superblocks.{is_data}
use Rattle.layout.specs.declared.inode.Inode.{Inode}
use Rattle.volume.specs.declared.tally.Tally.{Tally}

-- Counts with one more for x, which go no higher than 255; a number past the end is not counted.
abbrev pub bumped : List ℕ → ℕ → List ℕ
bumped counts x = slice_set counts x (min 255 (slice_index counts x + 1))

-- Counts with one more for each of the numbers.
abbrev pub tallied : List ℕ → List ℕ → List ℕ
tallied counts xs = fold bumped counts xs

-- A tally after one inode more.
abbrev pub tally_after : Tally → ℕ → Inode → Tally
tally_after t n i = record { counts = cond (allocated i) (tallied t.counts i.addresses) t.counts }

-- Block n has been counted once, if it is a data block.
abbrev pub once_in : List ℕ → (isize count n : ℕ) → Bool
once_in counts isize count n = not (is_data isize count n) || slice_index counts n == 1
