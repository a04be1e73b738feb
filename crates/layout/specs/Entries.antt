-- Directory entries: 16 bytes each, an inode number and a name field.
use Rattle.std.specs.Prelude.{ℕ, ◌+◌, ◌*◌, Bool, ◌&&◌, List, [], ◌∷◌, ◌==◌}
use Rattle.std.specs.Str.{bytes_eq}
use Rattle.layout.specs.Words.{word_at, bytes_at}
use Rattle.layout.specs.declared.entry.Entry.{Entry}

-- Entry e of a directory's bytes: the number of its inode, 0 where it is empty, then 14 bytes of a name filled up with zeros.
abbrev pub entry_at : List ℕ → ℕ → Entry
entry_at d e = record { inode = word_at d (16 * e); name = bytes_at 14 d (16 * e + 2) }

-- The entries of a directory, each at its place.
abbrev pub Entries : Type 0
Entries = ℕ → Entry

-- An entry for that inode, with that name field.
abbrev pub is_entry : ℕ → List ℕ → Entry → Bool
is_entry i name e = e.inode == i && bytes_eq e.name name

-- The name fields "." and "..".
abbrev pub dot : List ℕ
dot = 46 ∷ (0 ∷ (0 ∷ (0 ∷ (0 ∷ (0 ∷ (0 ∷ (0 ∷ (0 ∷ (0 ∷ (0 ∷ (0 ∷ (0 ∷ (0 ∷ [])))))))))))))

abbrev pub dots : List ℕ
dots = 46 ∷ (46 ∷ (0 ∷ (0 ∷ (0 ∷ (0 ∷ (0 ∷ (0 ∷ (0 ∷ (0 ∷ (0 ∷ (0 ∷ (0 ∷ (0 ∷ [])))))))))))))
