-- What create answers, and the volume that it leaves.
use Rattle.std.specs.Prelude.{ℕ, ◌+◌, ◌*◌, ◌/◌, ◌%◌, Bool, cond, not, ◌&&◌, ◌||◌, List, length, replicate, is_some, Some, None, Ok, Err, Option, Result, ◌==◌, nat_le, nat_lt, slice_set}
use Rattle.faults.specs.Faults.{bare}
use Rattle.store.specs.Stores.{Block, Mark}
use Rattle.faults.specs.declared.Fault.{Fault}
use Rattle.faults.specs.declared.Question.TheVariants.{EnoughFreeBlocks, EntryFree, InodeFree, NameAbsent, NameLawful}
use Rattle.layout.specs.Entries.{Entries}
use Rattle.layout.specs.Inodes.{allocated, inode_of}
use Rattle.layout.specs.Names.{lawful}
use Rattle.layout.specs.Superblocks.{free_list}
use Rattle.layout.specs.declared.inode.Inode.{Inode}
use Rattle.volume.specs.Openings.{open_answer}
use Rattle.volume.specs.Rules.{super_of, isize_in, directory_of, entry_count}
use Rattle.volume.specs.Soundness.{followed_by}
use Rattle.reading.specs.Lookups.{field_of, entry_named}
use Rattle.reading.specs.Lowest.{or_else, lowest}
use Rattle.reading.specs.Questions.{asks, and_then}
use Rattle.allotment.specs.Calls.{carried_out}
use Rattle.allotment.specs.FreeSteps.{taken, next_free}
use Rattle.allotment.specs.Records.{zero_block}
use Rattle.allotment.specs.Volumes.{with_super, with_inode, with_entry}
use Rattle.writing.specs.Writes.{with_blocks}
use Rattle.writing.specs.declared.vacancy.Vacancy.{Vacancy}

-- What was looked for, or a fault.
abbrev pub or_fault : {X : Type 0} → Fault → Option X → Result X Fault
or_fault f (Some x) = Ok x
or_fault f None = Err f

-- Question 22: the lowest free inode, other than the first.
abbrev pub is_free : ℕ → Inode → Bool
is_free i inode = nat_le 2 i && not (allocated inode)

abbrev pub free_inode : List Block → Option ℕ
free_inode v = lowest (16 * isize_in v + 1) (λ i. is_free i (inode_of v i))

-- Question 23: the first empty entry from 2 on, else one more at the end, if there are fewer than 256.
abbrev pub is_empty : Entries → ℕ → Bool
is_empty d e = nat_le 2 e && (d e).inode == 0

abbrev pub free_entry : Entries → ℕ → Option ℕ
free_entry d n = or_else (lowest n (is_empty d)) (cond (nat_lt n 256) (Some n) None)

-- Entry e of a directory of n needs a new block: it is one more, and the blocks so far are full.
abbrev pub needs_block : (n e : ℕ) → Bool
needs_block n e = nat_le n e && e % 32 == 0

-- Question 24: where a new block is needed, is one free?
abbrev pub has_room : Block → (n e : ℕ) → Bool
has_room b n e = not (needs_block n e) || nat_le 1 (length (free_list b))

-- The new file's inode and entry, from the inode found ..
abbrev pub vacant_at : List Block → (i e : ℕ) → Result Vacancy Fault
vacant_at v i e = asks (has_room (super_of v) (entry_count v) e) (bare EnoughFreeBlocks) (Ok (record { inode = i; entry = e }))

abbrev pub vacant_entry : List Block → (i : ℕ) → Result Vacancy Fault
vacant_entry v i = and_then (or_fault (bare EntryFree) (free_entry (directory_of v) (entry_count v))) (vacant_at v i)

-- .. and from the start.
abbrev pub vacancy_in : List Block → Result Vacancy Fault
vacancy_in v = and_then (or_fault (bare InodeFree) (free_inode v)) (vacant_entry v)

-- A new file: mode 0x81b6, linked once, all else zero.
abbrev pub new_inode : Inode
new_inode = record {
  mode = 0x81b6;
  links = 1;
  user = 0;
  group = 0;
  size = 0;
  addresses = replicate 8 0;
  times = replicate 8 0;
}

-- The blocks of the directory once there is room for entry e.
unfoldable pub directory_blocks : List Block → (e : ℕ) → List ℕ
directory_blocks v e = cond (needs_block (entry_count v) e) (slice_set (inode_of v 1).addresses (e / 32) (next_free (super_of v))) (inode_of v 1).addresses

-- The volume with a block taken for the directory, and zeroed.
unfoldable pub with_new_block : List Block → List Block
with_new_block v = slice_set (with_super v (taken (super_of v))) (next_free (super_of v)) zero_block

-- The directory with one entry more.
unfoldable pub lengthened : List Block → (numbers : List ℕ) → Inode
lengthened v numbers = with_blocks (inode_of v 1) ((inode_of v 1).size + 16) numbers

-- The volume once there is room for entry e: as it was if there is such an entry; else with one more, in a new block where one is needed.
unfoldable pub with_room : List Block → (e : ℕ) → List Block
with_room v e = cond (nat_lt e (entry_count v)) v (with_inode (cond (needs_block (entry_count v) e) (with_new_block v) v) 1 (lengthened v (directory_blocks v e)))

-- The volume with a new file.
unfoldable pub created : List Block → (name : List ℕ) → Vacancy → List Block
created v name at = with_entry (with_inode (with_room v at.entry) at.inode new_inode) (directory_blocks v at.entry) at.entry at.inode (field_of name)

-- Create asks questions 18, 2, 17, 20, 22, 23 and 24.
abbrev pub create_asked : List Block → List Mark → (name : List ℕ) → Result Vacancy Fault
create_asked v marks name =
    asks (lawful name) (bare NameLawful) (followed_by (open_answer v marks) (asks (not (is_some (entry_named (directory_of v) (entry_count v) name))) (bare NameAbsent) (vacancy_in v)))

abbrev pub create_call : List Block → List Mark → (name : List ℕ) → Result (Unit {0}) Fault × List Block
create_call v marks name = carried_out (create_asked v marks name) (created v name) v
