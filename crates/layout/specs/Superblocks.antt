-- The superblock, block 1 of a volume: how long the inode list is, how many blocks there are, and the free list.
use Rattle.std.specs.Prelude.{ℕ, ◌+◌, ◌-◌, ◌*◌, Bool, ◌&&◌, List, map, nat_le, nat_lt}
use Rattle.std.specs.List.{range_with_len}
use Rattle.store.specs.Stores.{Block}
use Rattle.layout.specs.Words.{word_at}

-- Word w of a superblock.
abbrev pub super_word : Block → ℕ → ℕ
super_word b w = word_at b (2 * w)

-- The blocks of the inode list.
abbrev pub isize_of : Block → ℕ
isize_of b = super_word b 0

-- The blocks in all.
abbrev pub fsize_of : Block → ℕ
fsize_of b = super_word b 1

-- How many places of the free list are in use.
abbrev pub nfree_of : Block → ℕ
nfree_of b = super_word b 2

-- Place j of the free list, of its hundred.
abbrev pub free_at : Block → ℕ → ℕ
free_at b j = super_word b (3 + j)

-- The numbers that the free list names, in order: those from place 1 on, since place 0 ends the list.
unfoldable pub free_list : Block → List ℕ
free_list b = map (λ j. free_at b (1 + j)) (range_with_len 0 (nfree_of b - 1))

-- Data blocks run from behind the inode list to the end of a volume of that many blocks.
abbrev pub is_data : (isize count n : ℕ) → Bool
is_data isize count n = nat_le (isize + 2) n && nat_lt n count
