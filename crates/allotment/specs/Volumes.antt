-- Steps that change one block of a volume, or the blocks of one file.
use Rattle.std.specs.Prelude.{ℕ, zero, suc, ◌-◌, ◌*◌, ◌/◌, ◌%◌, List, [], ◌++◌, length, take, drop, replicate, slice_index, slice_index_or, slice_set}
use Rattle.store.specs.Stores.{Block}
use Rattle.layout.specs.Inodes.{inode_block, inode_place}
use Rattle.layout.specs.Words.{with_word}
use Rattle.layout.specs.declared.inode.Inode.{Inode}
use Rattle.allotment.specs.Records.{inode_into, entry_into}

-- A volume with that superblock.
abbrev pub with_super : List Block → Block → List Block
with_super v b = slice_set v 1 b

-- A volume with inode i replaced.
unfoldable pub with_inode : List Block → ℕ → Inode → List Block
with_inode v i inode = slice_set v (inode_block i) (inode_into (slice_index_or v (inode_block i) []) (inode_place i) inode)

-- Entry e of a directory whose blocks have these numbers is in this block, ..
abbrev pub entry_block : List ℕ → ℕ → ℕ
entry_block numbers e = slice_index numbers (e / 32)

-- .. from this byte on.
abbrev pub entry_place : ℕ → ℕ
entry_place e = 16 * (e % 32)

-- A volume with the number in entry e replaced; the name stays.
unfoldable pub with_entry_number : List Block → (numbers : List ℕ) (e inode : ℕ) → List Block
with_entry_number v numbers e inode = slice_set v (entry_block numbers e) (with_word (slice_index_or v (entry_block numbers e) []) (entry_place e) inode)

-- A volume with entry e replaced.
unfoldable pub with_entry : List Block → (numbers : List ℕ) (e inode : ℕ) (name : List ℕ) → List Block
with_entry v numbers e inode name = slice_set v (entry_block numbers e) (entry_into (slice_index_or v (entry_block numbers e) []) (entry_place e) inode name)

-- The bytes of block j of a file's contents ..
abbrev pub contents_part : List ℕ → ℕ → List ℕ
contents_part contents j = take 512 (drop (512 * j) contents)

-- .. and the block, filled up with zeros.
unfoldable pub contents_block : List ℕ → ℕ → Block
contents_block contents j = contents_part contents j ++ replicate (512 - length (contents_part contents j)) 0

-- A volume with the first n blocks of the contents laid into the blocks of these numbers.
unfoldable pub laid : List Block → (numbers contents : List ℕ) (n : ℕ) → List Block
laid v numbers contents zero = v
laid v numbers contents (suc n) = slice_set (laid v numbers contents n) (slice_index numbers n) (contents_block contents n)
