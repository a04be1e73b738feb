-- What read answers, and what it leaves in the caller's buffer.
use Rattle.std.specs.Prelude.{ℕ, List, ◌++◌, length, drop, Ok, Err, Result, nat_le}
use Rattle.faults.specs.Faults.{bare}
use Rattle.store.specs.Stores.{Block, Mark}
use Rattle.faults.specs.declared.Fault.{Fault}
use Rattle.faults.specs.declared.Question.TheVariants.{EnoughPlaces, NameLawful}
use Rattle.layout.specs.Names.{lawful}
use Rattle.layout.specs.declared.inode.Inode.{Inode}
use Rattle.volume.specs.Files.{file_bytes}
use Rattle.volume.specs.Openings.{open_answer}
use Rattle.volume.specs.Soundness.{followed_by}
use Rattle.reading.specs.Found.{file_named}
use Rattle.reading.specs.Questions.{asks, and_then}
use Rattle.reading.specs.declared.file.File.{File}

-- Question 14: has the buffer places enough for the file?
abbrev pub readable : ℕ → File → Result Inode Fault
readable room f = asks (nat_le f.inode.size room) (bare EnoughPlaces) (Ok f.inode)

-- Read asks questions 18, 2, 17, 21 and 14.
abbrev pub read_asked : List Block → List Mark → (name : List ℕ) (room : ℕ) → Result Inode Fault
read_asked v marks name room = asks (lawful name) (bare NameLawful) (followed_by (open_answer v marks) (and_then (file_named v name) (readable room)))

-- It answers the size and fills the front of the buffer with the bytes of the file; later bytes stay.
abbrev pub read_out : List Block → List ℕ → Result Inode Fault → Result ℕ Fault × List ℕ
read_out v buffer (Ok i) = (Ok i.size, file_bytes v i ++ drop i.size buffer)
read_out v buffer (Err f) = (Err f, buffer)

abbrev pub read_call : List Block → List Mark → (name buffer : List ℕ) → Result ℕ Fault × List ℕ
read_call v marks name buffer = read_out v buffer (read_asked v marks name (length buffer))
