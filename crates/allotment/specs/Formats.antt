-- A new volume.
use Rattle.std.specs.Prelude.{ℕ, ◌+◌, ◌-◌, Bool, ◌&&◌, List, ◌∷◌, reverse, length, replicate, Result, nat_le, slice_set}
use Rattle.std.specs.List.{range_with_len}
use Rattle.faults.specs.Faults.{bare}
use Rattle.store.specs.Stores.{Block, Mark, all_live}
use Rattle.faults.specs.declared.Fault.{Fault}
use Rattle.faults.specs.declared.Question.TheVariants.{FormatWithinLimits}
use Rattle.layout.specs.Entries.{dot, dots}
use Rattle.layout.specs.Words.{with_word}
use Rattle.layout.specs.declared.inode.Inode.{Inode}
use Rattle.reading.specs.Questions.{asks}
use Rattle.allotment.specs.Calls.{carried_out}
use Rattle.allotment.specs.FreeSteps.{gives}
use Rattle.allotment.specs.Records.{inode_into, entry_into, zero_block, cleared}

-- Question 16: at most 100 blocks, and 1 to all but 3 of them for the inode list.
abbrev pub can_format : (count isize : ℕ) → Bool
can_format count isize = nat_le count 100 && (nat_le 1 isize && nat_le (isize + 3) count)

-- The superblock before any block is given back: the two sizes, and one place of the free list in use, which holds 0.
unfoldable pub bare_super : (count isize : ℕ) → Block
bare_super count isize = with_word (with_word (with_word zero_block 0 isize) 2 count) 4 1

-- The superblock: then the blocks from the last down to isize + 3 are given back.
unfoldable pub new_super : (count isize : ℕ) → Block
new_super count isize = gives (bare_super count isize) (reverse (range_with_len (isize + 3) (count - (isize + 3))))

-- Inode 1: a directory of 32 bytes in block isize + 2, linked twice.
abbrev pub root_inode : ℕ → Inode
root_inode isize = record {
  mode = 0xc1ff;
  links = 2;
  user = 0;
  group = 0;
  size = 32;
  addresses = (isize + 2) ∷ replicate 7 0;
  times = replicate 8 0;
}

-- The first block of the inode list: inode 1, and zeros.
unfoldable pub first_inodes : ℕ → Block
first_inodes isize = inode_into zero_block 0 (root_inode isize)

-- The block of the directory: "." and "..", both with number 1, and zeros.
unfoldable pub root_entries : Block
root_entries = entry_into (entry_into zero_block 0 1 dot) 16 1 dots

-- A formatted volume: block 0 zero, the superblock, the inode list, and the block of the directory; other blocks stay.
unfoldable pub formatted : List Block → ℕ → List Block
formatted v isize =
    slice_set (cleared (slice_set (slice_set (slice_set v 0 zero_block) 1 (new_super (length v) isize)) 2 (first_inodes isize)) 3 (isize - 1)) (isize + 2) root_entries

-- Format asks questions 16 and 2.
abbrev pub format_asked : List Block → List Mark → ℕ → Result (Unit {0}) Fault
format_asked v marks isize = asks (can_format (length v) isize) (bare FormatWithinLimits) (all_live marks)

abbrev pub format_call : List Block → List Mark → ℕ → Result (Unit {0}) Fault × List Block
format_call v marks isize = carried_out (format_asked v marks isize) (λ _. formatted v isize) v
