-- The rules of a sound volume, as tests of its list of blocks.
use Rattle.std.specs.Prelude.{ℕ, suc, ◌+◌, ◌*◌, ◌/◌, ◌%◌, Bool, cond, not, ◌&&◌, ◌||◌, List, [], length, ◌==◌, bit_and, nat_le, nat_lt, slice_index, slice_index_or}
use Rattle.store.specs.Stores.{Block}
use Rattle.layout.specs.Entries.{Entries, entry_at}
use Rattle.volume.specs.Directories.{good_dots, well_named, well_numbered, entered}
use Rattle.volume.specs.Every.{every}
use Rattle.volume.specs.Files.{file_blocks}
use Rattle.layout.specs.Inodes.{allocated, blocks_for, inode_of}
use Rattle.volume.specs.Numbers.{all_data, different, occurrences, total}
use Rattle.layout.specs.Superblocks.{isize_of, fsize_of, nfree_of, free_at, free_list, is_data}
use Rattle.layout.specs.declared.inode.Inode.{Inode}

-- Inodes 1 to 16·isize of a volume pass.
abbrev pub every_inode : (ℕ → Inode → Bool) → List Block → (isize : ℕ) → Bool
every_inode p v isize = every (16 * isize) (λ j. p (suc j) (inode_of v (suc j)))

-- Of a superblock, in a volume of so many blocks: at most 100 of them, 1 to all but 3 for the inode list, and the
-- superblock says how many there are.
abbrev pub good_sizes : Block → ℕ → Bool
good_sizes b count = (nat_le count 100 && nat_le 1 (isize_of b)) && (nat_le (isize_of b + 3) count && fsize_of b == count)

-- 1 to 100 places of the free list are in use, the first holds 0, and the others hold different data blocks.
abbrev pub good_free : Block → ℕ → Bool
good_free b count =
    (nat_le 1 (nfree_of b) && nat_le (nfree_of b) 100) && (free_at b 0 == 0 && (all_data (isize_of b) count (free_list b) && different (free_list b)))

-- A directory: of that kind, linked twice, and of 2 to 256 whole entries.
abbrev pub is_directory : Inode → Bool
is_directory i = (bit_and i.mode 0xf000 == 0xc000 && i.links == 2) && ((nat_le 32 i.size && nat_le i.size 4096) && i.size % 16 == 0)

-- A plain file: of that kind, linked once, and of at most 4,096 bytes.
abbrev pub is_plain_file : Inode → Bool
is_plain_file i = bit_and i.mode 0xf000 == 0x8000 && (i.links == 1 && nat_le i.size 4096)

-- Each inode but the first is free or a plain file.
abbrev pub free_or_plain : ℕ → Inode → Bool
free_or_plain n i = n == 1 || (not (allocated i) || is_plain_file i)

-- Address j is a data block where the size reaches so far, and 0 behind.
abbrev pub good_address : (isize count : ℕ) → Inode → ℕ → Bool
good_address isize count i j = cond (nat_lt j (blocks_for i.size)) (is_data isize count (slice_index i.addresses j)) (slice_index i.addresses j == 0)

-- The addresses of an inode are good if it is allocated.
abbrev pub good_addresses : (isize count : ℕ) → Inode → Bool
good_addresses isize count i = not (allocated i) || every 8 (good_address isize count i)

-- How often an inode holds block n: not at all if it is free.
abbrev pub held_by : ℕ → Inode → ℕ
held_by n i = cond (allocated i) (occurrences n i.addresses) 0

-- The superblock of a volume.
abbrev pub super_of : List Block → Block
super_of v = slice_index_or v 1 []

-- The blocks of its inode list.
abbrev pub isize_in : List Block → ℕ
isize_in v = isize_of (super_of v)

-- How often block n stands among the numbers of the free list and the addresses of the allocated inodes.
abbrev pub standings : List Block → ℕ → ℕ
standings v n = occurrences n (free_list (super_of v)) + total (16 * isize_in v) (λ j. held_by n (inode_of v (suc j)))

-- Rule 1: the sizes are good.
abbrev pub s1 : List Block → Bool
s1 v = good_sizes (super_of v) (length v)

-- Rule 2: the free list is good.
abbrev pub s2 : List Block → Bool
s2 v = good_free (super_of v) (length v)

-- Rule 3: inode 1 is a directory.
abbrev pub s3 : List Block → Bool
s3 v = is_directory (inode_of v 1)

-- Rule 4: every other inode is free or a plain file.
abbrev pub s4 : List Block → Bool
s4 v = every_inode free_or_plain v (isize_in v)

-- Rule 5: the addresses of every allocated inode are good.
abbrev pub s5 : List Block → Bool
s5 v = every_inode (λ _. good_addresses (isize_in v) (length v)) v (isize_in v)

-- Rule 6: each data block stands there exactly once.
abbrev pub s6 : List Block → Bool
s6 v = every (length v) (λ n. not (is_data (isize_in v) (length v) n) || standings v n == 1)

-- The entries of the directory, inode 1, each read from its blocks.
abbrev pub directory_of : List Block → Entries
directory_of v = entry_at (file_blocks v (inode_of v 1).addresses (blocks_for (inode_of v 1).size))

-- How many entries it has.
abbrev pub entry_count : List Block → ℕ
entry_count v = (inode_of v 1).size / 16

-- Rule 7: entries 0 and 1 are "." and "..", both with number 1.
abbrev pub s7 : List Block → Bool
s7 v = good_dots (directory_of v)

-- Rule 8: each later entry that is not empty has a lawful name that no other has and the number of an allocated inode
-- other than 1, and every such inode has exactly one entry.
abbrev pub s8 : List Block → Bool
s8 v =
    every (entry_count v) (well_named (directory_of v))
    && (every (entry_count v) (well_numbered v (isize_in v) (directory_of v)) && every_inode (entered (directory_of v) (entry_count v)) v (isize_in v))
