-- Which inodes are allocated, as the code keeps it.
use Rattle.std.specs.Prelude.{ℕ, Bool, false, not, ◌&&◌, ◌||◌, List, nat_le, slice_index_or, slice_set}
use Rattle.layout.specs.Entries.{Entries}
use Rattle.volume.specs.Directories.{used}
use Rattle.layout.specs.Inodes.{allocated}
use Rattle.layout.specs.declared.inode.Inode.{Inode}
use Rattle.volume.specs.declared.map.InodeMap.{InodeMap}

-- A map after one inode more.
abbrev pub map_after : InodeMap → ℕ → Inode → InodeMap
map_after m n i = record { allocated = slice_set m.allocated n (allocated i) }

-- Entry e, if it is used, has a number from 2 to the limit that the map has as allocated.
abbrev pub numbered_by : List Bool → (limit : ℕ) → Entries → ℕ → Bool
numbered_by map limit d e =
    not (used d e) || ((nat_le 2 (d e).inode && nat_le (d e).inode limit) && slice_index_or map (d e).inode false)
