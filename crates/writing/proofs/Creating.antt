-- A created file, put block by block, and the questions that create asks.
use Rattle.std.proofs.Common.{◌≡◌, ℕ, ◌+◌, ◌/◌, ◌%◌, ◌<◌, ◌≤◌, true, false, cond, not, ◌&&◌, ◌||◌, eqb, ltb, leb, List, [], length, get_or, set, is_some, Ok, Err, Option, Result, sym, ap, ◌∙◌, ⊎_elim, arith}
use lib.Bits.{bit_and}
use Rattle.std.proofs.lemmas.List.{get_or-set_same}
use Rattle.std.proofs.lemmas.Bool.{and_parts, and_left, and_from, both_ways, eqb-true, leb-true, lt-ltb, le-ltb, le-leb, lt-leb, eq-eqb, cases_lt, cases_Bool, cond-true, cond-false}
use Rattle.faults.specs.Faults.{bare}
use Rattle.store.specs.Stores.{Block, Mark}
use Rattle.faults.specs.declared.Fault.{Fault}
use Rattle.faults.specs.declared.Question.TheVariants.{NameAbsent, NameLawful}
use Rattle.layout.specs.Names.{lawful}
use Rattle.volume.specs.Openings.{open_answer}
use Rattle.volume.specs.Soundness.{followed_by}
use Rattle.reading.specs.Questions.{asks}
use Rattle.layout.proofs.Reading.{length-words_at}
use Rattle.layout.specs.Inodes.{blocks_for, inode_of}
use Rattle.layout.specs.Superblocks.{nfree_of, free_list, is_data}
use Rattle.layout.specs.declared.inode.Inode.{Inode}
use Rattle.volume.proofs.FreeLists.{length-free_list}
use Rattle.volume.proofs.RuleFacts.{directory_there}
use Rattle.volume.proofs.SoundFacts.{RulesHold}
use Rattle.volume.specs.Rules.{super_of, isize_in, directory_of, entry_count}
use Rattle.reading.proofs.FileFacts.{data_there}
use Rattle.reading.specs.Lookups.{field_of, entry_named}
use Rattle.allotment.proofs.FreeLaws.{numbers_taken-one}
use Rattle.writing.proofs.Removing.{entry-there}
use Rattle.writing.proofs.Room.{taken_from, free_data}
use Rattle.writing.specs.Creates.{needs_block, has_room, vacancy_in, new_inode, directory_blocks, with_new_block, lengthened, with_room, created, create_asked}
use Rattle.allotment.specs.FreeSteps.{taken, next_free, numbers_taken}
use Rattle.allotment.specs.Records.{zero_block}
use Rattle.allotment.specs.Volumes.{with_inode, with_entry}
use Rattle.writing.specs.Writes.{with_blocks}
use Rattle.writing.specs.declared.vacancy.Vacancy.{Vacancy}

pub new_block_by : (v v₁ : List Block) (b super zeros : Block) (number : ℕ) → b ≡ super_of v → super ≡ taken b → number ≡ next_free b → zeros ≡ zero_block → v₁ ≡ set v 1 super → set v₁ number zeros ≡ with_new_block v
unfolding with_new_block
new_block_by v v₁ b super zeros number read super-is number_is zeros-is e₁ = cc

pub created-by : (v v₁ v₂ : List Block) (inode : Inode) (numbers name field : List ℕ) (at : Vacancy) → inode ≡ new_inode → numbers ≡ directory_blocks v at.entry → field ≡ field_of name → v₁ ≡ with_room v at.entry → v₂ ≡ with_inode v₁ at.inode inode → with_entry v₂ numbers at.entry at.inode field ≡ created v name at
unfolding created
created-by v v₁ v₂ inode numbers name field at inode_is numbers-is field_is e₁ e₂ = cc

module _ (v : List Block) (e : ℕ) where
  -- no new block is needed
  module _ (need : needs_block (entry_count v) e ≡ false) where
    pub blocks_same : (inode_of v 1).addresses ≡ directory_blocks v e
    unfolding directory_blocks
    blocks_same = sym (cond-false (needs_block (entry_count v) e) _ (inode_of v 1).addresses need)

  -- the entry is there
  module _ (there : e < entry_count v) where
    pub needs_none : needs_block (entry_count v) e ≡ false
    needs_none = and_left (leb (entry_count v) e) (eqb (e % 32) 0) (lt-leb (entry_count v) e there)

    pub room_there : v ≡ with_room v e
    unfolding with_room
    room_there = sym (cond-true (ltb e (entry_count v)) v _ (lt-ltb e (entry_count v) there))

  -- it is one more
  module _ (past : entry_count v ≤ e) where
    pub room_past : with_room v e ≡ with_inode (cond (needs_block (entry_count v) e) (with_new_block v) v) 1 (lengthened v (directory_blocks v e))
    unfolding with_room
    room_past = cond-false (ltb e (entry_count v)) v _ (le-ltb e (entry_count v) past)

    -- it is inside the last block
    inside : needs_block (entry_count v) e ≡ false → e % 32 ≡ 0 → ⊥
    inside need full = both_ways (needs_block (entry_count v) e) need (and_from (leb (entry_count v) e) (eqb (e % 32) 0) (le-leb (entry_count v) e past) (eq-eqb (e % 32) 0 full))

  module _ (need : needs_block (entry_count v) e ≡ true) where
    pub blocks-new : set (inode_of v 1).addresses (e / 32) (next_free (super_of v)) ≡ directory_blocks v e
    unfolding directory_blocks
    blocks-new = sym (cond-true (needs_block (entry_count v) e) _ (inode_of v 1).addresses need)

    -- question 24 was answered by yes, so a block is free
    pub block_free : has_room (super_of v) (entry_count v) e ≡ true → 2 ≤ nfree_of (super_of v)
    block_free room =
        let some = leb-true 1 (length (free_list (super_of v))) (sym (ap (λ b. not b || leb 1 (length (free_list (super_of v)))) need) ∙ room) in
        omega (arith, length-free_list (super_of v))

-- at least two places in use, so at least one free block
pub two_places : (b : Block) (n e : ℕ) → needs_block n e ≡ true → leb 2 (nfree_of b) ≡ has_room b n e
two_places b n e need =
    let long = length-free_list b in
    let rest : has_room b n e ≡ leb 1 (length (free_list b)) = ap (λ x. not x || leb 1 (length (free_list b))) need in
    ⊎_elim
    (λ few. lt-leb 2 (nfree_of b) few ∙ sym (rest ∙ lt-leb 1 (length (free_list b)) (omega arith)))
    (λ two. le-leb 2 (nfree_of b) two ∙ sym (rest ∙ le-leb 1 (length (free_list b)) (omega arith)))
    (cases_lt (nfree_of b) 2)

module _ (v : List Block) (sound : RulesHold v) where
  -- the block that would be taken next is in the volume
  pub next_there : length (super_of v) ≡ 512 → 2 ≤ nfree_of (super_of v) → next_free (super_of v) < length v
  next_there long some =
      let P : ℕ → Type 0 = λ x. is_data (isize_in v) (length v) x ≡ true in
      let is = taken_from P (super_of v) long 1 (omega arith) (free_data v sound) 0 (omega arith) in
      let there = data_there v sound (get_or (numbers_taken (super_of v) 1) 0 0) is in
      omega (arith, there.1, ap (λ xs. get_or xs 0 0) (numbers_taken-one (super_of v)))

  -- the block of a new entry is in the volume
  pub slot_there : (e : ℕ) → length (super_of v) ≡ 512 → e < 256 → e ≤ entry_count v → has_room (super_of v) (entry_count v) e ≡ true → get_or (directory_blocks v e) (e / 32) 0 < length v
  slot_there e long few next room =
      ⊎_elim
      (λ new.
      let size = length-words_at 8 (get_or v 2 []) 8 in
      let here = get_or-set_same (inode_of v 1).addresses (e / 32) (next_free (super_of v)) 0 (omega arith) in
      let same = ap (λ xs. get_or xs (e / 32) 0) (blocks-new v e new) in
      omega (arith, next_there long (block_free v e new room)))
      (λ old.
      let same = ap (λ xs. get_or xs (e / 32) 0) (blocks_same v e old) in
      ⊎_elim
      (λ there. omega (arith, entry-there v sound e there))
      (λ past.
      let within = inside_block (inode_of v 1).size e directory_whole (omega arith) (inside v e past old) in
      omega (arith, directory_there v sound.sizes sound.root sound.addresses (e / 32) within))
      (cases_lt e (entry_count v)))
      (cases_Bool (needs_block (entry_count v) e))
    where
      directory_whole : (inode_of v 1).size % 16 ≡ 0
      directory_whole = eqb-true ((inode_of v 1).size % 16) 0 (and_parts (leb 32 (inode_of v 1).size && leb (inode_of v 1).size 4096) (eqb ((inode_of v 1).size % 16) 0) (and_parts (eqb (bit_and (inode_of v 1).mode 0xf000) 0xc000 && eqb (inode_of v 1).links 2) ((leb 32 (inode_of v 1).size && leb (inode_of v 1).size 4096) && eqb ((inode_of v 1).size % 16) 0) sound.root).1).1

      inside_block : (size e : ℕ) → size % 16 ≡ 0 → e ≡ size / 16 → (e % 32 ≡ 0 → ⊥) → e / 32 < blocks_for size
      inside_block size e whole is within = ⊎_elim (λ lt. lt) (λ ge. absurd (within (omega arith))) (cases_lt (e / 32) (blocks_for size))

-- the directory's inode, put with one entry more
pub lengthened-by : (v w : List Block) (root : Inode) (numbers blocks : List ℕ) {x : List Block} → root ≡ inode_of v 1 → numbers ≡ blocks → x ≡ w → with_inode x 1 (with_blocks root (root.size + 16) numbers) ≡ with_inode w 1 (lengthened v blocks)
unfolding lengthened
lengthened-by v w root numbers blocks {x} root_is numbers-is x-is =
    ap (λ y. with_inode y 1 (with_blocks root (root.size + 16) numbers)) x-is ∙ ap (λ xs. with_inode w 1 (with_blocks root (root.size + 16) xs)) numbers-is ∙ ap (λ i. with_inode w 1 (with_blocks i (i.size + 16) blocks)) root_is

module _ (v : List Block) (marks : List Mark) (name : List ℕ) where
  abbrev from_name : Option ℕ → Result Vacancy Fault
  from_name found = asks (not (is_some found)) (bare NameAbsent) (vacancy_in v)

  abbrev from_open : Result (Unit {0}) Fault → Result Vacancy Fault
  from_open opened = followed_by opened (from_name (entry_named (directory_of v) (entry_count v) name))

  module _ (named : lawful name ≡ true) where
    past_name : create_asked v marks name ≡ from_open (open_answer v marks)
    past_name = ap (λ b. asks b (bare NameLawful) (from_open (open_answer v marks))) named

    pub create_unopened : (f : Fault) → open_answer v marks ≡ Err f → create_asked v marks name ≡ Err f
    create_unopened f is = past_name ∙ ap from_open is

    module _ (opened : open_answer v marks ≡ Ok tt) where
      pub create-present : is_some (entry_named (directory_of v) (entry_count v) name) ≡ true → create_asked v marks name ≡ Err (bare NameAbsent)
      create-present is = past_name ∙ ap from_open opened ∙ ap (λ b. asks (not b) (bare NameAbsent) (vacancy_in v)) is

      -- past the first questions, the answer is that of the last ones
      pub create_last : (r : Result Vacancy Fault) → is_some (entry_named (directory_of v) (entry_count v) name) ≡ false → vacancy_in v ≡ r → create_asked v marks name ≡ r
      create_last r absent is = past_name ∙ ap from_open opened ∙ ap (λ b. asks (not b) (bare NameAbsent) (vacancy_in v)) absent ∙ is
