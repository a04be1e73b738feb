-- What a sound volume has, in the words of those who use it.
use Rattle.std.specs.Prelude.{◌≡◌, ℕ, ◌*◌, ◌<◌, ◌≤◌, true, List, length, slice_index}
use Rattle.store.specs.Stores.{Block}
use Rattle.layout.specs.Inodes.{allocated, inode_of}
use Rattle.layout.specs.Names.{lawful}
use Rattle.layout.specs.Superblocks.{free_list, is_data}
use Rattle.volume.specs.Directories.{used}
use Rattle.volume.specs.Rules.{super_of, isize_in, directory_of, entry_count, is_plain_file}
use Rattle.volume.specs.VolumeFiles.{files_of, file_number}

-- A place where the number of a block can stand: in the free list, or among the addresses of an inode.
pub data Place : Type 0 where
  free : (j : ℕ) → Place
  held : (i j : ℕ) → Place

-- Inode i is in the inode list, and allocated.
abbrev pub Allocated : List Block → ℕ → Type 0
Allocated v i = (1 ≤ i) × (i ≤ 16 * isize_in v) × (allocated (inode_of v i) ≡ true)

-- Block n stands at the place.
abbrev pub Stands : List Block → ℕ → Place → Type 0
Stands v n (free j) = (j < length (free_list (super_of v))) × (slice_index (free_list (super_of v)) j ≡ n)
Stands v n (held i j) = Allocated v i × ((j < length (inode_of v i).addresses) × (slice_index (inode_of v i).addresses j ≡ n))

-- Entry e is a later one of the directory that is not empty.
abbrev pub Used : List Block → ℕ → Type 0
Used v e = (e < entry_count v) × (used (directory_of v) e ≡ true)

-- Entry e is one for inode i.
abbrev pub NamesInode : List Block → (i e : ℕ) → Type 0
NamesInode v i e = Used v e × ((directory_of v e).inode ≡ i)

-- One thing, and no other, has the property.
abbrev pub ExactlyOne : {X : Type 0} → (X → Type 0) → Type 0
ExactlyOne {X} P = (x : X) × P x × ((y : X) → P y → y ≡ x)

pub record SoundVolume (v : List Block) : Type 0 where
  -- No block is in two places, and none is lost.
  pub one_place : (n : ℕ) → is_data (isize_in v) (length v) n ≡ true → ExactlyOne (Stands v n)
  -- No name stands twice.
  pub names_differ : (e k : ℕ) → Used v e → Used v k → (directory_of v e).name ≡ (directory_of v k).name → e ≡ k
  -- Each file has exactly one entry.
  pub one_entry : (i : ℕ) → 2 ≤ i → Allocated v i → ExactlyOne (NamesInode v i)
  -- Each entry names a plain file.
  pub names_a_file : (e : ℕ) → Used v e → Allocated v (directory_of v e).inode × (is_plain_file (inode_of v (directory_of v e).inode) ≡ true)
  -- Each file has a lawful name, which no other file has.
  pub file_lawful : (a : ℕ) → a < length (files_of v) → lawful (file_number v a).name ≡ true
  pub files_differ : (a b : ℕ) → a < length (files_of v) → b < length (files_of v) → (file_number v a).name ≡ (file_number v b).name → a ≡ b
