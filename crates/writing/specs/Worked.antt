-- Worked cases of the allotment of blocks, in a volume of 10 blocks with one block of inodes.
use Rattle.std.specs.Prelude.{◌≡◌, ℕ, List, [], ◌∷◌, length}
use Rattle.store.specs.Stores.{Block}
use Rattle.layout.specs.Superblocks.{nfree_of}
use Rattle.layout.specs.declared.inode.Inode.{Inode}
use Rattle.volume.specs.Rules.{super_of}
use Rattle.writing.specs.Creates.{new_inode}
use Rattle.allotment.specs.Formats.{root_inode, new_super, formatted}
use Rattle.allotment.specs.FreeSteps.{next_free}
use Rattle.writing.specs.Writes.{addresses_of, super_rewritten, inode_rewritten}

-- A file written with so many bytes takes the blocks of these numbers, and so many places of the free list are then in use.
abbrev TakesBlocks : (super : Block) (file : Inode) (size : ℕ) (numbers : List ℕ) (nfree : ℕ) → Type 0
TakesBlocks super file size numbers nfree = ((inode_rewritten super file size).addresses ≡ addresses_of numbers) × (nfree_of (super_rewritten super file size) ≡ nfree)

-- The superblock of the new volume, and after the first write of each of two files.
abbrev formatted_super : Block
formatted_super = new_super 10 1

abbrev with_bolt : Block
with_bolt = super_rewritten formatted_super new_inode 600

abbrev with_nut : Block
with_nut = super_rewritten with_bolt new_inode 1

abbrev pub WorkedFiles : Type 0
WorkedFiles =
    ((v : List Block) → length v ≡ 10 → super_of (formatted v 1) ≡ formatted_super)
    × ((root_inode 1).addresses ≡ addresses_of (3 ∷ []))
    × (nfree_of formatted_super ≡ 7)
    × (next_free formatted_super ≡ 4)
    × TakesBlocks formatted_super new_inode 600 (4 ∷ 5 ∷ []) 5
    × TakesBlocks with_bolt new_inode 1 (6 ∷ []) 4
    × TakesBlocks with_nut (inode_rewritten formatted_super new_inode 600) 1 (4 ∷ []) 5
