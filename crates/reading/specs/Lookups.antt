-- Finding an entry of a directory by its name.
use Rattle.std.specs.Prelude.{ℕ, ◌-◌, Bool, ◌&&◌, List, ◌++◌, length, replicate, Option}
use Rattle.std.specs.Str.{bytes_eq}
use Rattle.layout.specs.Entries.{Entries}
use Rattle.volume.specs.Directories.{used}
use Rattle.reading.specs.Lowest.{lowest}

-- A name, filled up with zeros to the 14 bytes of a name field.
abbrev pub field_of : List ℕ → List ℕ
field_of name = name ++ replicate (14 - length name) 0

-- Entry e is used, and has that name field.
abbrev pub is_named : Entries → List ℕ → ℕ → Bool
is_named d field e = used d e && bytes_eq (d e).name field

-- The first used entry, of so many, with that name.
abbrev pub entry_named : Entries → ℕ → List ℕ → Option ℕ
entry_named d n name = lowest n (is_named d (field_of name))
