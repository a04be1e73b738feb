-- The contents of a file, from the blocks of its volume.
use Rattle.std.specs.Prelude.{ℕ, List, [], take, slice_index_or}
use Rattle.std.specs.List.{flat_map}
use Rattle.store.specs.Stores.{Block}
use Rattle.layout.specs.Inodes.{blocks_for}
use Rattle.layout.specs.declared.inode.Inode.{Inode}

-- The first n blocks of a file, one after the other.
abbrev pub file_blocks : List Block → List ℕ → ℕ → List ℕ
file_blocks v addresses n = flat_map (λ a. slice_index_or v a []) (take n addresses)

-- The bytes of a file: as many of its blocks' as its size says.
abbrev pub file_bytes : List Block → Inode → List ℕ
file_bytes v i = take i.size (file_blocks v i.addresses (blocks_for i.size))
