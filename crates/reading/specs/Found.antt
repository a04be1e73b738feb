-- A file of a volume, found by its name.
use Rattle.std.specs.Prelude.{◌≡◌, ℕ, ◌<◌, true, List, Some, None, Ok, Err, Option, Result}
use Rattle.faults.specs.Faults.{bare}
use Rattle.store.specs.Stores.{Block}
use Rattle.faults.specs.declared.Fault.{Fault}
use Rattle.faults.specs.declared.Question.TheVariants.{NamePresent}
use Rattle.layout.specs.Inodes.{inode_of}
use Rattle.volume.specs.Directories.{used}
use Rattle.volume.specs.Rules.{directory_of, entry_count}
use Rattle.reading.specs.Lookups.{entry_named}
use Rattle.reading.specs.declared.file.File.{File}

-- The file of entry e.
abbrev pub file_of_entry : List Block → ℕ → File
file_of_entry v e = record { entry = e; number = (directory_of v e).inode; inode = inode_of v (directory_of v e).inode }

-- A file as it stands in a volume: that of a used entry.
pub record FileIn (v : List Block) (f : File) : Type 0 where
  pub is : f ≡ file_of_entry v f.entry
  pub within : f.entry < entry_count v
  pub listed : used (directory_of v) f.entry ≡ true

-- Question 21, of an entry that was looked for.
abbrev pub present : List Block → Option ℕ → Result File Fault
present v (Some e) = Ok (file_of_entry v e)
present v None = Err (bare NamePresent)

-- Question 21: the file of that name.
abbrev pub file_named : List Block → List ℕ → Result File Fault
file_named v name = present v (entry_named (directory_of v) (entry_count v) name)
