-- What write answers, and the volume that it leaves.
use Rattle.std.specs.Prelude.{ℕ, ◌+◌, ◌-◌, Bool, List, ◌++◌, reverse, length, take, replicate, Ok, Result, nat_le}
use Rattle.faults.specs.Faults.{bare}
use Rattle.store.specs.Stores.{Block, Mark}
use Rattle.faults.specs.declared.Fault.{Fault}
use Rattle.faults.specs.declared.Question.TheVariants.{EnoughFreeBlocks, LengthWithinLimit, NameLawful}
use Rattle.layout.specs.Inodes.{blocks_for}
use Rattle.layout.specs.Names.{lawful}
use Rattle.layout.specs.Superblocks.{free_list}
use Rattle.layout.specs.declared.inode.Inode.{Inode}
use Rattle.volume.specs.Openings.{open_answer}
use Rattle.volume.specs.Rules.{super_of}
use Rattle.volume.specs.Soundness.{followed_by}
use Rattle.reading.specs.Found.{file_named}
use Rattle.reading.specs.Questions.{asks, and_then}
use Rattle.reading.specs.declared.file.File.{File}
use Rattle.allotment.specs.Calls.{carried_out}
use Rattle.allotment.specs.FreeSteps.{gives, takes, numbers_taken}
use Rattle.allotment.specs.Volumes.{with_super, with_inode, laid}

-- The blocks of a file, in order.
abbrev pub own_blocks : Inode → List ℕ
own_blocks i = take (blocks_for i.size) i.addresses

-- The superblock once the blocks of a file are given back, from last to first.
unfoldable pub given_back : Block → Inode → Block
given_back b i = gives b (reverse (own_blocks i))

-- An inode with another size and other addresses; all else stays.
abbrev pub with_blocks : Inode → (size : ℕ) (addresses : List ℕ) → Inode
with_blocks i size addresses = record {
  mode = i.mode;
  links = i.links;
  user = i.user;
  group = i.group;
  size = size;
  addresses = addresses;
  times = i.times;
}

-- The addresses of a file with blocks of these numbers: eight, the others 0.
abbrev pub addresses_of : List ℕ → List ℕ
addresses_of numbers = numbers ++ replicate (8 - length numbers) 0

-- A rewritten file of that size: the superblock once its old blocks are given back and new ones taken in order ..
unfoldable pub super_rewritten : Block → Inode → (size : ℕ) → Block
super_rewritten b i size = takes (given_back b i) (blocks_for size)

-- .. and its inode with those.
unfoldable pub inode_rewritten : Block → Inode → (size : ℕ) → Inode
inode_rewritten b i size = with_blocks i size (addresses_of (numbers_taken (given_back b i) (blocks_for size)))

-- The volume with the whole contents of a file replaced.
unfoldable pub written : List Block → (contents : List ℕ) → File → List Block
written v contents f =
    with_inode (laid (with_super v (super_rewritten (super_of v) f.inode (length contents))) (inode_rewritten (super_of v) f.inode (length contents)).addresses contents (blocks_for (length contents))) f.number (inode_rewritten (super_of v) f.inode (length contents))

-- Are there free blocks enough for a file of that size, the file's own included?
abbrev pub enough_blocks : Block → Inode → (size : ℕ) → Bool
enough_blocks b i size = nat_le (blocks_for size) (length (free_list b) + blocks_for i.size)

-- Question 24, of a file that was found.
abbrev pub writable : Block → (size : ℕ) → File → Result File Fault
writable b size f = asks (enough_blocks b f.inode size) (bare EnoughFreeBlocks) (Ok f)

-- Write asks questions 18, 19, 2, 17, 21 and 24.
abbrev pub write_asked : List Block → List Mark → (name contents : List ℕ) → Result File Fault
write_asked v marks name contents =
    asks (lawful name) (bare NameLawful) (asks (nat_le (length contents) 4096) (bare LengthWithinLimit) (followed_by (open_answer v marks) (and_then (file_named v name) (writable (super_of v) (length contents)))))

abbrev pub write_call : List Block → List Mark → (name contents : List ℕ) → Result (Unit {0}) Fault × List Block
write_call v marks name contents = carried_out (write_asked v marks name contents) (written v contents) v
