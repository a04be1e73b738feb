-- The entries of a directory, against the rules of a sound volume.
use Rattle.std.specs.Prelude.{ℕ, ◌*◌, Bool, not, ◌&&◌, ◌||◌, List, ◌==◌, count_by, nat_le}
use Rattle.std.specs.List.{range_with_len}
use Rattle.std.specs.Str.{bytes_eq}
use Rattle.store.specs.Stores.{Block}
use Rattle.layout.specs.Entries.{Entries, is_entry, dot, dots}
use Rattle.layout.specs.Inodes.{allocated, inode_of}
use Rattle.layout.specs.Names.{lawful_field}
use Rattle.layout.specs.declared.inode.Inode.{Inode}
use Rattle.volume.specs.Every.{every}

-- The first two entries name the directory itself.
abbrev pub good_dots : Entries → Bool
good_dots d = is_entry 1 dot (d 0) && is_entry 1 dots (d 1)

-- A later entry that is not empty.
abbrev pub used : Entries → ℕ → Bool
used d e = nat_le 2 e && not ((d e).inode == 0)

-- Entries k and e are used, and have the same name.
abbrev pub same_name : Entries → ℕ → ℕ → Bool
same_name d e k = used d k && bytes_eq (d k).name (d e).name

-- No earlier used entry has the name of entry e.
abbrev pub new_name : Entries → ℕ → Bool
new_name d e = every e (λ k. not (same_name d e k))

-- Entry e, if it is used, has a lawful name that no earlier one has.
abbrev pub well_named : Entries → ℕ → Bool
well_named d e = not (used d e) || (lawful_field (d e).name && new_name d e)

-- Entry e, if it is used, has the number of an allocated inode other than 1.
abbrev pub well_numbered : List Block → (isize : ℕ) → Entries → ℕ → Bool
well_numbered v isize d e =
    not (used d e) || ((nat_le 2 (d e).inode && nat_le (d e).inode (16 * isize)) && allocated (inode_of v (d e).inode))

-- Entry e is used and has the number i.
abbrev pub numbered : Entries → (i e : ℕ) → Bool
numbered d i e = used d e && (d e).inode == i

-- How many of the first n entries are used and have the number i.
abbrev pub entries_for : Entries → (n i : ℕ) → ℕ
entries_for d n i = count_by (numbered d i) (range_with_len 0 n)

-- Inode i, if it is allocated and not the first, has exactly one such entry.
abbrev pub entered : Entries → (n i : ℕ) → Inode → Bool
entered d n i inode = (i == 1 || not (allocated inode)) || entries_for d n i == 1
