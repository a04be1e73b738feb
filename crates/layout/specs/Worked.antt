-- Worked places of inodes.
use Rattle.std.specs.Prelude.{◌≡◌, ℕ}
use Rattle.layout.specs.Inodes.{inode_block, inode_place}

-- Inode i begins at that byte of that block.
abbrev BeginsAt : (i block byte : ℕ) → Type 0
BeginsAt i block byte = (inode_block i ≡ block) × (inode_place i ≡ byte)

-- The first inode, the last of the first block of inodes, and the first of the second.
abbrev pub WorkedPlaces : Type 0
WorkedPlaces = BeginsAt 1 2 0 × BeginsAt 16 2 480 × BeginsAt 17 3 0
