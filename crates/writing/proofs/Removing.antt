-- A file removed, block by block, and the questions that remove asks.
use Rattle.std.proofs.Common.{◌≡◌, ℕ, ◌/◌, ◌<◌, true, List, length, get_or, set, replicate, Ok, Err, Result, sym, ap, ◌∙◌, arith}
use Rattle.std.proofs.lemmas.List.{ext_get_or, get_or-replicate}
use Rattle.std.specs.Array.{AllOfLen}
use Rattle.faults.specs.Faults.{bare}
use Rattle.store.specs.Stores.{Block, Mark}
use Rattle.faults.specs.declared.Fault.{Fault}
use Rattle.faults.specs.declared.Question.TheVariants.{NameLawful}
use Rattle.layout.specs.Inodes.{inode_of}
use Rattle.layout.specs.Names.{lawful}
use Rattle.layout.specs.declared.inode.Inode.{Inode}
use Rattle.volume.proofs.RuleFacts.{directory_there}
use Rattle.volume.proofs.SoundFacts.{RulesHold}
use Rattle.volume.specs.Openings.{open_answer}
use Rattle.volume.specs.Rules.{super_of, entry_count}
use Rattle.volume.specs.Soundness.{followed_by}
use Rattle.reading.specs.Found.{file_named}
use Rattle.reading.specs.Questions.{asks}
use Rattle.reading.specs.declared.file.File.{File}
use Rattle.writing.specs.Removes.{zero_inode, removed, remove_asked}
use Rattle.allotment.specs.Volumes.{with_inode, with_entry_number}
use Rattle.writing.specs.Writes.{given_back}

-- the default inode is that of zeros
eight_zeros : (xs : List ℕ) → AllOfLen (λ x. x ≡ 0) xs 8 → xs ≡ replicate 8 0
eight_zeros xs all = ext_get_or 0 xs (replicate 8 0) all.long (λ j lt. all.at j 0 (omega (arith, all.long)) ∙ sym (get_or-replicate 8 j 0 0 (omega (arith, all.long))))

pub zeros-default : (i : Inode) → (i.mode ≡ 0) × ((i.links ≡ 0) × ((i.user ≡ 0) × ((i.group ≡ 0) × ((i.size ≡ 0) × (AllOfLen (λ x. x ≡ 0) i.addresses 8 × AllOfLen (λ x. x ≡ 0) i.times 8))))) → i ≡ zero_inode
zeros-default i is =
    let addresses = eight_zeros i.addresses is.1.1.1.1.1.0 in
    let times = eight_zeros i.times is.1.1.1.1.1.1 in
    let all : ◌≡◌ {A = Inode} (record { mode = i.mode; links = i.links; user = i.user; group = i.group; size = i.size; addresses = i.addresses; times = i.times }) zero_inode = cc in
    all

-- the block of an entry is in the volume
pub entry-there : (v : List Block) → RulesHold v → (e : ℕ) → e < entry_count v → get_or (inode_of v 1).addresses (e / 32) 0 < length v
entry-there v sound e within = directory_there v sound.sizes sound.root sound.addresses (e / 32) (omega arith)

pub removed-by : (v v₁ v₂ : List Block) (b super : Block) (zeros : Inode) (numbers : List ℕ) (f : File) → b ≡ super_of v → super ≡ given_back b f.inode → zeros ≡ zero_inode → numbers ≡ (inode_of v 1).addresses → v₁ ≡ set v 1 super → v₂ ≡ with_inode v₁ f.number zeros → with_entry_number v₂ numbers f.entry 0 ≡ removed v f
unfolding removed
removed-by v v₁ v₂ b super zeros numbers f read super-is zeros-is numbers-is e₁ e₂ = cc

module _ (v : List Block) (marks : List Mark) (name : List ℕ) where
  abbrev from_open : Result (Unit {0}) Fault → Result File Fault
  from_open opened = followed_by opened (file_named v name)

  module _ (named : lawful name ≡ true) where
    past_name : remove_asked v marks name ≡ from_open (open_answer v marks)
    past_name = ap (λ b. asks b (bare NameLawful) (from_open (open_answer v marks))) named

    pub remove_unopened : (f : Fault) → open_answer v marks ≡ Err f → remove_asked v marks name ≡ Err f
    remove_unopened f is = past_name ∙ ap from_open is

    -- past the first questions, the answer is that of the last
    pub remove_last : (r : Result File Fault) → open_answer v marks ≡ Ok tt → file_named v name ≡ r → remove_asked v marks name ≡ r
    remove_last r opened is = past_name ∙ ap from_open opened ∙ is
