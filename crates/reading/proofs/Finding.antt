-- What is known of a file that was found by its name.
use Rattle.std.proofs.Common.{◌≡◌, ℕ, ◌<◌, ◌≤◌, true, List, length, get_or, Some, None, Ok, Option, sym, refl, ap, ◌∙◌, subst, arith}
use Rattle.std.proofs.lemmas.Bool.{and_parts}
use Rattle.std.specs.Str.{bytes_eq}
use Rattle.store.specs.Stores.{Block}
use Rattle.layout.specs.Entries.{entry_at}
use Rattle.layout.specs.Inodes.{blocks_for, inode_block, inode_of}
use Rattle.layout.specs.declared.entry.Entry.{Entry}
use Rattle.layout.specs.Superblocks.{is_data}
use Rattle.layout.specs.declared.inode.Inode.{Inode}
use Rattle.volume.specs.Directories.{used}
use Rattle.volume.specs.Openings.{Loaded}
use Rattle.volume.specs.declared.loaded.Volume.{Volume}
use Rattle.volume.specs.Rules.{isize_in, directory_of, entry_count}
use Rattle.reading.proofs.Lowests.{lowest-some}
use Rattle.volume.specs.Soundness.{first_broken}
use Rattle.volume.proofs.SoundFacts.{RulesHold, rules_hold}
use Rattle.reading.proofs.FileFacts.{FileFacts, file_facts, data_there}
use Rattle.reading.specs.Found.{file_of_entry, FileIn, present, file_named}
use Rattle.reading.specs.Lookups.{field_of, is_named, entry_named}
use Rattle.reading.specs.declared.file.File.{File}

-- what was looked up in a loaded directory is what the volume has
pub looked_up : (v : List Block) (o : Volume) (name : List ℕ) → Loaded v o → entry_named (entry_at o.directory.bytes) o.directory.len name ≡ entry_named (directory_of v) (entry_count v) name
looked_up v o name loaded = ap (λ d. entry_named d o.directory.len name) loaded.directory ∙ ap (λ n. entry_named (directory_of v) n name) loaded.entries

-- an entry that was found is used
pub entry-used : (v : List Block) (name : List ℕ) (e : ℕ) → entry_named (directory_of v) (entry_count v) name ≡ Some e → (e < entry_count v) × (used (directory_of v) e ≡ true)
entry-used v name e found =
    let is = lowest-some (is_named (directory_of v) (field_of name)) (entry_count v) e found in
    (is.0, (and_parts (used (directory_of v) e) (bytes_eq (directory_of v e).name (field_of name)) is.1).0)

-- the entry that was read is the volume's, and the inode of a used one is in the volume
pub entry_there : (v : List Block) (o : Volume) (e : ℕ) (x : Entry) → first_broken v ≡ None → Loaded v o → x ≡ entry_at o.directory.bytes e → e < o.directory.len → used (directory_of v) e ≡ true → (x ≡ directory_of v e) × (inode_block x.inode < length v)
entry_there v o e x sound loaded is within listed =
    let same = is ∙ ap (λ d. d e) loaded.directory in
    let number = ap (λ y. y.inode) same in
    let facts = file_facts v (rules_hold v sound) e (omega (arith, loaded.entries)) listed in
    (same, omega (arith, facts.there))

module _ (v : List Block) (f : File) (sound : RulesHold v) (stands : FileIn v f) where
  pub inode_is : f.inode ≡ inode_of v f.number
  inode_is = ap (λ x. x.inode) stands.is ∙ ap (inode_of v) (sym (ap (λ x. x.number) stands.is))

  pub number_facts : FileFacts v f.number
  number_facts = let P : ℕ → Type 0 = FileFacts v in subst P (sym (ap (λ x. x.number) stands.is)) (file_facts v sound f.entry stands.within stands.listed)

  -- its blocks are data blocks
  pub file_data : (f.inode.size ≤ 4096) × ((j : ℕ) → j < blocks_for f.inode.size → is_data (isize_in v) (length v) (get_or f.inode.addresses j 0) ≡ true)
  file_data =
      let P : Inode → Type 0 = λ i. (i.size ≤ 4096) × ((j : ℕ) → j < blocks_for i.size → is_data (isize_in v) (length v) (get_or i.addresses j 0) ≡ true) in
      subst P (sym inode_is) (number_facts.small, number_facts.data_blocks)

  -- so they are in the volume
  pub blocks_there : (j : ℕ) → j < blocks_for f.inode.size → get_or f.inode.addresses j 0 < length v
  blocks_there j lt = (data_there v sound (get_or f.inode.addresses j 0) (file_data.1 j lt)).1

file_in_at : (v : List Block) (o : Option ℕ) (f : File) → ((e : ℕ) → o ≡ Some e → (e < entry_count v) × (used (directory_of v) e ≡ true)) → present v o ≡ Ok f → FileIn v f
file_in_at v (Some e) f known is =
    let same : file_of_entry v e ≡ f = cc in
    let entry = known e refl in
    let P : File → Type 0 = FileIn v in
    subst P same (record { is = refl; within = entry.0; listed = entry.1 })
file_in_at v None f known is = let z : ◌≡◌ {A = ℕ} 0 1 = cc in absurd (omega arith)

-- a file that was found by its name stands in the volume
pub file_in : (v : List Block) (name : List ℕ) (f : File) → file_named v name ≡ Ok f → FileIn v f
file_in v name f is = file_in_at v (entry_named (directory_of v) (entry_count v) name) f (entry-used v name) is
