-- What remove answers, and the volume that it leaves.
use Rattle.std.specs.Prelude.{ℕ, List, replicate, Result}
use Rattle.faults.specs.Faults.{bare}
use Rattle.store.specs.Stores.{Block, Mark}
use Rattle.faults.specs.declared.Fault.{Fault}
use Rattle.faults.specs.declared.Question.TheVariants.{NameLawful}
use Rattle.layout.specs.Inodes.{inode_of}
use Rattle.layout.specs.Names.{lawful}
use Rattle.layout.specs.declared.inode.Inode.{Inode}
use Rattle.volume.specs.Openings.{open_answer}
use Rattle.volume.specs.Rules.{super_of}
use Rattle.volume.specs.Soundness.{followed_by}
use Rattle.reading.specs.Found.{file_named}
use Rattle.reading.specs.Questions.{asks}
use Rattle.reading.specs.declared.file.File.{File}
use Rattle.allotment.specs.Calls.{carried_out}
use Rattle.allotment.specs.Volumes.{with_super, with_inode, with_entry_number}
use Rattle.writing.specs.Writes.{given_back}

-- An inode of zeros.
abbrev pub zero_inode : Inode
zero_inode = record {
  mode = 0;
  links = 0;
  user = 0;
  group = 0;
  size = 0;
  addresses = replicate 8 0;
  times = replicate 8 0;
}

-- The volume without a file: its blocks given back, its inode zeroed, and the number in its entry 0; the name stays in the entry.
unfoldable pub removed : List Block → File → List Block
removed v f = with_entry_number (with_inode (with_super v (given_back (super_of v) f.inode)) f.number zero_inode) (inode_of v 1).addresses f.entry 0

-- Remove asks questions 18, 2, 17 and 21.
abbrev pub remove_asked : List Block → List Mark → (name : List ℕ) → Result File Fault
remove_asked v marks name = asks (lawful name) (bare NameLawful) (followed_by (open_answer v marks) (file_named v name))

abbrev pub remove_call : List Block → List Mark → (name : List ℕ) → Result (Unit {0}) Fault × List Block
remove_call v marks name = carried_out (remove_asked v marks name) (removed v) v
