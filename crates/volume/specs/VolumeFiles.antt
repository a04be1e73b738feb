-- The files of a volume, read off its blocks.
use Rattle.std.specs.Prelude.{ℕ, zero, suc, cond, List, [], ◌∷◌, ◌++◌, map, slice_index_or}
use Rattle.store.specs.Stores.{Block}
use Rattle.layout.specs.Entries.{Entries}
use Rattle.layout.specs.Inodes.{inode_of}
use Rattle.layout.specs.Names.{up_to_zero}
use Rattle.volume.specs.Directories.{used}
use Rattle.volume.specs.Files.{file_bytes}
use Rattle.volume.specs.Rules.{directory_of, entry_count}

-- A file: its name, the number of its inode, and its bytes.
pub record File : Type 0 where
  pub name : List ℕ
  pub inode : ℕ
  pub contents : List ℕ

-- The places of the used entries among the first n, in order.
unfoldable pub used_among : Entries → ℕ → List ℕ
used_among d zero = []
used_among d (suc n) = used_among d n ++ cond (used d n) (n ∷ []) []

-- The file that entry e names.
abbrev pub file_at : List Block → ℕ → File
file_at v e = record {
  name = up_to_zero (directory_of v e).name;
  inode = (directory_of v e).inode;
  contents = file_bytes v (inode_of v (directory_of v e).inode);
}

-- The files of a volume, in the order of its directory.
abbrev pub files_of : List Block → List File
files_of v = map (file_at v) (used_among (directory_of v) (entry_count v))

-- File a of them, counted from 0.
abbrev pub file_number : List Block → ℕ → File
file_number v a = slice_index_or (files_of v) a (record { name = []; inode = 0; contents = [] })
