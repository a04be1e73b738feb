-- Records written into a block, and blocks of zeros.
use Rattle.std.specs.Prelude.{ℕ, zero, suc, ◌+◌, List, ◌++◌, length, take, drop, replicate, slice_set}
use Rattle.store.specs.Stores.{Block}
use Rattle.layout.specs.Inodes.{inode_bytes}
use Rattle.layout.specs.Words.{with_word}
use Rattle.layout.specs.declared.inode.Inode.{Inode}

-- A block with these bytes from a place on.
unfoldable pub with_bytes : Block → ℕ → List ℕ → Block
with_bytes b at bytes = take at b ++ (bytes ++ drop (at + length bytes) b)

-- A block with an inode from a place on.
unfoldable pub inode_into : Block → ℕ → Inode → Block
inode_into b at i = with_bytes b at (inode_bytes i)

-- A block with a directory entry from a place on: the number of its inode, then its name field.
unfoldable pub entry_into : Block → ℕ → ℕ → List ℕ → Block
entry_into b at inode name = with_bytes (with_word b at inode) (at + 2) name

-- A block of zeros.
unfoldable pub zero_block : Block
zero_block = replicate 512 0

-- A volume with n blocks zeroed from block `low` on.
unfoldable pub cleared : List Block → (low n : ℕ) → List Block
cleared v low zero = v
cleared v low (suc n) = slice_set (cleared v low n) (low + n) zero_block
