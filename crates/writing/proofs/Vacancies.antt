-- Where a new file goes, and what is known of that place.
use Rattle.std.proofs.Common.{◌≡◌, ℕ, zero, suc, ◌+◌, ◌*◌, ◌<◌, ◌≤◌, Bool, true, false, cond, ltb, List, length, Some, None, Ok, Err, Option, Result, refl, ap, subst, ⊎_elim, arith}
use Rattle.std.proofs.lemmas.Bool.{ltb-true}
use Rattle.faults.specs.Faults.{bare}
use Rattle.store.specs.Stores.{Block}
use Rattle.faults.specs.declared.Fault.{Fault}
use Rattle.faults.specs.declared.Question.TheVariants.{EnoughFreeBlocks, EntryFree, InodeFree}
use Rattle.layout.specs.Inodes.{inode_block, inode_of}
use Rattle.volume.proofs.RuleFacts.{sizes_from}
use Rattle.volume.proofs.SoundFacts.{RulesHold}
use Rattle.volume.specs.Rules.{super_of, isize_in, directory_of, entry_count}
use Rattle.volume.specs.Visits.{visited}
use Rattle.reading.proofs.FileFacts.{few_entries}
use Rattle.reading.proofs.Lowests.{last_or_before, lowest-some}
use Rattle.reading.specs.Lowest.{or_else, lowest}
use Rattle.reading.specs.Questions.{asks, and_then}
use Rattle.writing.specs.Creates.{or_fault, is_free, free_inode, is_empty, free_entry, has_room, vacant_at, vacant_entry, vacancy_in}
use Rattle.writing.specs.FreeInodes.{free_after}
use Rattle.writing.specs.declared.vacancy.Vacancy.{Vacancy}

-- going through the inodes finds the lowest free one
pub visited-free : (v : List Block) (n : ℕ) → (visited free_after v n (record { found = None })).found ≡ lowest (suc n) (λ i. is_free i (inode_of v i))
unfolding visited lowest
visited-free v zero = refl
visited-free v (suc n) = ap (λ o. or_else o (cond (is_free (suc n) (inode_of v (suc n))) (Some (suc n)) None)) (visited-free v n)

-- what questions that were answered by yes have found
and_then_ok : {X Y : Type 0} (r : Result X Fault) (later : X → Result Y Fault) (y : Y) → and_then r later ≡ Ok y → (x : X) × (r ≡ Ok x) × (later x ≡ Ok y)
and_then_ok (Ok x) later y is = (x, refl, is)
and_then_ok (Err f) later y is = let z : ◌≡◌ {A = ℕ} 0 1 = cc in absurd (omega arith)

or_fault-ok : {X : Type 0} (f : Fault) (o : Option X) (x : X) → or_fault f o ≡ Ok x → o ≡ Some x
or_fault-ok f (Some y) x is = let same : y ≡ x = cc in ap Some same
or_fault-ok f None x is = let z : ◌≡◌ {A = ℕ} 0 1 = cc in absurd (omega arith)

asks-ok : {X : Type 0} (b : Bool) (f : Fault) (later : Result X Fault) (x : X) → asks b f later ≡ Ok x → (b ≡ true) × (later ≡ Ok x)
asks-ok true f later x is = (refl, is)
asks-ok false f later x is = let z : ◌≡◌ {A = ℕ} 0 1 = cc in absurd (omega arith)

-- A free inode of the volume, and an entry that is there or the next.
pub record Vacant (v : List Block) (at : Vacancy) : Type 0 where
  pub numbered : inode_block at.inode < length v
  pub few : at.entry < 256
  pub next : at.entry ≤ entry_count v
  pub room : has_room (super_of v) (entry_count v) at.entry ≡ true

inode_there : (v : List Block) → RulesHold v → (i : ℕ) → free_inode v ≡ Some i → inode_block i < length v
inode_there v sound i found =
    let is = lowest-some (λ k. is_free k (inode_of v k)) (16 * isize_in v + 1) i found in
    let sizes = sizes_from (super_of v) (length v) sound.sizes in
    omega (arith, is.0)

entry_next : (v : List Block) → RulesHold v → (e : ℕ) → free_entry (directory_of v) (entry_count v) ≡ Some e → (e < 256) × (e ≤ entry_count v)
entry_next v sound e found =
    let n = entry_count v in
    let most = few_entries v sound in
    ⊎_elim
    (λ empty. let is = lowest-some (is_empty (directory_of v)) n e empty in (omega (arith, is.0), omega (arith, is.0)))
    (λ last. let few = ltb-true n 256 last.0 in (omega (arith, last.1), omega (arith, last.1)))
    (last_or_before (is_empty (directory_of v)) (lowest n (is_empty (directory_of v))) (ltb n 256) n e found)

pub vacancy_is : (v : List Block) (at : Vacancy) → RulesHold v → vacancy_in v ≡ Ok at → Vacant v at
vacancy_is v at sound is =
    let inode = and_then_ok (or_fault (bare InodeFree) (free_inode v)) (vacant_entry v) at is in
    let i = inode.0 in
    let entry = and_then_ok (or_fault (bare EntryFree) (free_entry (directory_of v) (entry_count v))) (vacant_at v i) at inode.2 in
    let e = entry.0 in
    let last = asks-ok (has_room (super_of v) (entry_count v) e) (bare EnoughFreeBlocks) (Ok (record { inode = i; entry = e })) at entry.2 in
    let same : ◌≡◌ {A = Vacancy} (record { inode = i; entry = e }) at = cc in
    let there = inode_there v sound i (or_fault-ok (bare InodeFree) (free_inode v) i inode.1) in
    let next = entry_next v sound e (or_fault-ok (bare EntryFree) (free_entry (directory_of v) (entry_count v)) e entry.1) in
    let P : Vacancy → Type 0 = Vacant v in
    subst P same (record { numbered = there; few = next.0; next = next.1; room = last.0 })
