-- What opening a volume asks, and what it has then read.
use Rattle.std.specs.Prelude.{◌≡◌, ◌*◌, List, length, take, Some, None, Ok, Err, Option, Result}
use Rattle.faults.specs.Faults.{unsound}
use Rattle.store.specs.Stores.{Block, Mark, all_live}
use Rattle.faults.specs.declared.Fault.{Fault}
use Rattle.layout.specs.Entries.{entry_at}
use Rattle.layout.specs.Inodes.{blocks_for, inode_of}
use Rattle.volume.specs.Files.{file_blocks}
use Rattle.volume.specs.RuleNumbers.{rule_number}
use Rattle.volume.specs.Rules.{super_of, directory_of, entry_count}
use Rattle.volume.specs.Soundness.{first_broken, followed_by}
use Rattle.volume.specs.declared.directory.Directory.{Directory}
use Rattle.volume.specs.declared.loaded.Volume.{Volume}
use Rattle.volume.specs.declared.rule.Rule.{Rule}

-- Question 17, from the first broken rule.
abbrev pub soundness : Option Rule → Result (Unit {0}) Fault
soundness None = Ok tt
soundness (Some rule) = Err (unsound (rule_number rule))

-- Questions 2 and 17: is every block live, and is the volume sound?
abbrev pub open_answer : List Block → List Mark → Result (Unit {0}) Fault
open_answer v marks = followed_by (all_live marks) (soundness (first_broken v))

-- A directory that was loaded is that of the volume, and its bytes begin with its blocks.
pub record LoadedDirectory (v : List Block) (d : Directory) : Type 0 where
  pub entries : d.len ≡ entry_count v
  pub directory : entry_at d.bytes ≡ directory_of v
  pub front : take (512 * blocks_for (inode_of v 1).size) d.bytes ≡ file_blocks v (inode_of v 1).addresses (blocks_for (inode_of v 1).size)
  pub long : length d.bytes ≡ 4096

-- What was read of a volume is what its blocks hold.
pub record Loaded (v : List Block) (o : Volume) : Type 0 where
  pub superblock : o.superblock ≡ super_of v
  pub root : o.root ≡ inode_of v 1
  pub entries : o.directory.len ≡ entry_count v
  pub directory : entry_at o.directory.bytes ≡ directory_of v
  pub front : take (512 * blocks_for (inode_of v 1).size) o.directory.bytes ≡ file_blocks v (inode_of v 1).addresses (blocks_for (inode_of v 1).size)
  pub long : length o.directory.bytes ≡ 4096

-- The rules from some rule on were asked of a volume: the first broken one came, or none and what was read.
abbrev pub Inspected : List Block → Option Rule → Result Volume Rule → Type 0
Inspected v broken (Ok o) = (broken ≡ None) × Loaded v o
Inspected v broken (Err rule) = broken ≡ Some rule

-- An opened volume is sound, and loaded; a refusal is that of question 2 or 17.
abbrev pub Opened : List Block → List Mark → Result Volume Fault → Type 0
Opened v marks (Ok o) = (open_answer v marks ≡ Ok tt) × (first_broken v ≡ None) × Loaded v o
Opened v marks (Err f) = open_answer v marks ≡ Err f
