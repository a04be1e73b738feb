-- What list answers, and what it leaves in the caller's records.
use Rattle.std.specs.Prelude.{ℕ, cond, List, ◌++◌, map, length, drop, Ok, Err, Result, nat_le}
use Rattle.faults.specs.Faults.{bare}
use Rattle.store.specs.Stores.{Block, Mark}
use Rattle.faults.specs.declared.Fault.{Fault}
use Rattle.faults.specs.declared.Question.TheVariants.{EnoughPlaces}
use Rattle.layout.specs.Entries.{Entries}
use Rattle.layout.specs.Inodes.{inode_of}
use Rattle.volume.specs.Directories.{used}
use Rattle.volume.specs.Openings.{open_answer}
use Rattle.volume.specs.Rules.{directory_of, entry_count}
use Rattle.volume.specs.Soundness.{followed_by}
use Rattle.volume.specs.VolumeFiles.{used_among}
use Rattle.reading.specs.Questions.{asks}
use Rattle.reading.specs.declared.list.FileRecord.{FileRecord}

-- The record of entry e: its name field, the number of its inode, and the size that this has.
abbrev pub record_at : List Block → Entries → ℕ → FileRecord
record_at v d e = record { name = (d e).name; inode = (d e).inode; size = (inode_of v (d e).inode).size }

-- 1 where entry e is used, else 0.
abbrev pub one : Entries → ℕ → ℕ
one d e = cond (used d e) 1 0

-- The records of the used ones among the first n entries, in order.
abbrev pub records_among : List Block → Entries → ℕ → List FileRecord
records_among v d n = map (record_at v d) (used_among d n)

-- The records of the files of a volume, in the order of its directory.
abbrev pub records_of : List Block → List FileRecord
records_of v = records_among v (directory_of v) (entry_count v)

-- List asks questions 2, 17 and 14.
abbrev pub list_asked : List Block → List Mark → (room : ℕ) → Result (List FileRecord) Fault
list_asked v marks room = followed_by (open_answer v marks) (asks (nat_le (length (records_of v)) room) (bare EnoughPlaces) (Ok (records_of v)))

-- It answers how many files there are and fills the front of the caller's records with theirs; later records stay.
abbrev pub list_out : List FileRecord → Result (List FileRecord) Fault → Result ℕ Fault × List FileRecord
list_out records (Ok files) = (Ok (length files), files ++ drop (length files) records)
list_out records (Err f) = (Err f, records)

abbrev pub list_call : List Block → List Mark → List FileRecord → Result ℕ Fault × List FileRecord
list_call v marks records = list_out records (list_asked v marks (length records))
