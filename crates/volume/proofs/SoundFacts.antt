-- A volume that breaks no rule has what the rules are for.
use Rattle.std.proofs.Common.{◌≡◌, ℕ, zero, suc, ◌+◌, ◌*◌, ◌<◌, ◌≤◌, Bool, true, false, cond, not, ◌&&◌, ◌||◌, eqb, leb, List, length, get_or, drop, None, Option, sym, refl, ap, ◌∙◌, ⊎_elim, arith}
use Rattle.std.proofs.lemmas.List.{length-map, get_or-map}
use Rattle.std.proofs.lemmas.Slice.Eq.{bytes_eq-Decides}
use Rattle.std.proofs.lemmas.Bool.{and_parts, and_from, cases_eq, cases_lt, eq-eqb, ne_eqb, eqb-true, cond-true, true≢false}
use Rattle.std.proofs.lemmas.Bool.Decides.{nat_tests}
use Rattle.std.specs.Str.{bytes_eq}
use Rattle.store.specs.Stores.{Block}
use Rattle.layout.proofs.Fields.{same_field}
use Rattle.layout.proofs.Reading.{length-bytes_at}
use Rattle.layout.specs.Inodes.{allocated, inode_of}
use Rattle.layout.specs.Names.{lawful, lawful_field, up_to_zero, all_zero}
use Rattle.layout.specs.Superblocks.{free_list, is_data}
use Rattle.layout.specs.declared.inode.Inode.{Inode}
use Rattle.volume.proofs.Everys.{every-at}
use Rattle.volume.proofs.Exactly.{total_nothing, total-one, stands-nowhere, stands-once}
use Rattle.volume.proofs.Totals.{count_by-range}
use Rattle.volume.proofs.UsedEntries.{used-at, used-once}
use Rattle.volume.specs.Directories.{used, same_name, new_name, well_named, well_numbered, numbered, entries_for, entered}
use Rattle.volume.specs.Every.{every}
use Rattle.volume.specs.Numbers.{occurrences, total}
use Rattle.volume.specs.Rules.{every_inode, super_of, isize_in, directory_of, entry_count, is_plain_file, free_or_plain, held_by, standings, s1, s2, s3, s4, s5, s6, s7, s8}
use Rattle.volume.specs.SoundVolumes.{Place, free, held, Allocated, Stands, Used, NamesInode, ExactlyOne, SoundVolume}
use Rattle.volume.specs.Soundness.{unless, broken_entries, broken_addresses, broken_inodes, first_broken}
use Rattle.volume.specs.VolumeFiles.{file_at, files_of, file_number, used_among}
use Rattle.volume.specs.declared.rule.Rule.{Rule}
use Rattle.volume.specs.declared.rule.Rule.TheVariants.{Sizes, FreeList, Root, Inodes, Addresses, Blocks, Dots, Entries}

-- every rule holds
pub record RulesHold (v : List Block) : Type 0 where
  pub sizes : s1 v ≡ true
  pub free_places : s2 v ≡ true
  pub root : s3 v ≡ true
  pub inodes : s4 v ≡ true
  pub addresses : s5 v ≡ true
  pub blocks_once : s6 v ≡ true
  pub dots : s7 v ≡ true
  pub entries : s8 v ≡ true

not_broken : (holds : Bool) (rule : Rule) (later : Option Rule) → unless holds rule later ≡ None → (holds ≡ true) × (later ≡ None)
not_broken true rule later e = (refl, e)
not_broken false rule later e = absurd (cc)

pub rules_hold : (v : List Block) → first_broken v ≡ None → RulesHold v
rules_hold v none =
    let a = not_broken (s1 v) Sizes (unless (s2 v) FreeList (broken_inodes v)) none in
    let b = not_broken (s2 v) FreeList (broken_inodes v) a.1 in
    let c = not_broken (s3 v) Root (unless (s4 v) Inodes (broken_addresses v)) b.1 in
    let d = not_broken (s4 v) Inodes (broken_addresses v) c.1 in
    let e = not_broken (s5 v) Addresses (unless (s6 v) Blocks (broken_entries v)) d.1 in
    let f = not_broken (s6 v) Blocks (broken_entries v) e.1 in
    let g = not_broken (s7 v) Dots (unless (s8 v) Entries None) f.1 in
    let h = not_broken (s8 v) Entries None g.1 in
    record { sizes = a.0; free_places = b.0; root = c.0; inodes = d.0; addresses = e.0; blocks_once = f.0; dots = g.0; entries = h.0 }

-- what is asked of a case that is not excepted
asked_of : (excepted asked : Bool) → (excepted || asked) ≡ true → excepted ≡ false → asked ≡ true
asked_of excepted asked holds not_so = cc

-- of a case that is not excepted two things are asked
both_of : (case first second : Bool) → (not case || (first && second)) ≡ true → case ≡ true → (first ≡ true) × (second ≡ true)
both_of case first second holds is = (grind arith, grind arith)

-- every inode that is in the list passes
pub inode_passes : (p : ℕ → Inode → Bool) (v : List Block) (isize : ℕ) → every_inode p v isize ≡ true → (i : ℕ) → 1 ≤ i → i ≤ 16 * isize → p i (inode_of v i) ≡ true
inode_passes p v isize all zero least most = absurd (omega arith)
inode_passes p v isize all (suc j) least most = every-at (λ k. p (suc k) (inode_of v (suc k))) (16 * isize) j (omega arith) all

-- one of two summands is all of a sum of one
other_none : (a b : ℕ) → a + b ≡ 1 → (a ≡ 0 → ⊥) → (a ≡ 1) × (b ≡ 0)
other_none a b sum some = (omega arith, omega arith)

-- a block is held once by an inode that is allocated and has it once among its addresses
held_one : (a : Bool) (x : ℕ) → cond a x 0 ≡ 1 → (a ≡ true) × (x ≡ 1)
held_one a x e = (grind arith, grind arith)

-- 1 is counted for what passes a test
counted-one : (b : Bool) → ◌≡◌ {A = ℕ} (cond b 1 0) 1 → b ≡ true
counted-one b e = grind arith

counted_none : (b : Bool) → ◌≡◌ {A = ℕ} (cond b 1 0) 0 → b ≡ true → ⊥
counted_none b e passes = grind arith

module _ (v : List Block) (rules : RulesHold v) where
  module _ (n : ℕ) where
    -- an inode that holds the block at no time has it nowhere among its addresses
    not_held : (i j : ℕ) → held_by n (inode_of v i) ≡ 0 → Stands v n (held i j) → ⊥
    not_held i j none stands =
        stands-nowhere n (inode_of v i).addresses (sym (cond-true (allocated (inode_of v i)) (occurrences n (inode_of v i).addresses) 0 stands.0.2) ∙ none) j stands.1.0 stands.1.1

    in_free_list : occurrences n (free_list (super_of v)) ≡ 1 → total (16 * isize_in v) (λ j. held_by n (inode_of v (suc j))) ≡ 0 → ExactlyOne (Stands v n)
    in_free_list once nowhere = let at = stands-once n (free_list (super_of v)) once in (free at.0, at.1, only)
      where
        only : (q : Place) → Stands v n q → q ≡ free (stands-once n (free_list (super_of v)) once).0
        only (free j) stands = ap free ((stands-once n (free_list (super_of v)) once).2 j stands.0 stands.1)
        only (held zero j) stands = absurd (omega (arith, stands.0.0))
        only (held (suc i) j) stands = absurd (not_held (suc i) j (total_nothing (λ k. held_by n (inode_of v (suc k))) (16 * isize_in v) nowhere i (omega (arith, stands.0.1))) stands)

    in_an_inode : occurrences n (free_list (super_of v)) ≡ 0 → total (16 * isize_in v) (λ j. held_by n (inode_of v (suc j))) ≡ 1 → ExactlyOne (Stands v n)
    in_an_inode nowhere once =
        let of = total-one (λ k. held_by n (inode_of v (suc k))) (16 * isize_in v) once in
        let inode = inode_of v (suc of.0) in
        let holds = held_one (allocated inode) (occurrences n inode.addresses) of.2 in
        let at = stands-once n inode.addresses holds.1 in
        (held (suc of.0) at.0, ((omega arith, omega (arith, of.1), holds.0), at.1), only of.0 of.3 at.0 at.2)
      where
        only : (i : ℕ) → ((k : ℕ) → k < 16 * isize_in v → (k ≡ i → ⊥) → held_by n (inode_of v (suc k)) ≡ 0) → (j : ℕ) → ((k : ℕ) → k < length (inode_of v (suc i)).addresses → get_or (inode_of v (suc i)).addresses k 0 ≡ n → k ≡ j) → (q : Place) → Stands v n q → q ≡ held (suc i) j
        only i others j unique (free k) stands = absurd (stands-nowhere n (free_list (super_of v)) nowhere k stands.0 stands.1)
        only i others j unique (held zero k) stands = absurd (omega (arith, stands.0.0))
        only i others j unique (held (suc l) k) stands =
            ⊎_elim
            (λ same. rw same (ap (held (suc i)) (unique k (rw same at stands.1.0) (rw same at stands.1.1))))
            (λ other. absurd (not_held (suc l) k (others l (omega (arith, stands.0.1)) other) stands))
            (cases_eq l i)

    stands-somewhere : is_data (isize_in v) (length v) n ≡ true → ExactlyOne (Stands v n)
    stands-somewhere is-data =
        let within : n < length v = grind (arith, nat_tests) in
        let here = every-at (λ m. not (is_data (isize_in v) (length v) m) || eqb (standings v m) 1) (length v) n within rules.blocks_once in
        let once = eqb-true (standings v n) 1 (cc) in
        let frees = occurrences n (free_list (super_of v)) in
        let helds = total (16 * isize_in v) (λ j. held_by n (inode_of v (suc j))) in
        ⊎_elim
        (λ none. in_an_inode none (omega arith))
        (λ some. let both = other_none frees helds once some in in_free_list both.0 both.1)
        (cases_eq frees 0)

  -- the parts of the eighth rule
  well-named : (e : ℕ) → Used v e → (lawful_field (directory_of v e).name ≡ true) × (new_name (directory_of v) e ≡ true)
  well-named e is =
      let names = (and_parts (every (entry_count v) (well_named (directory_of v))) _ rules.entries).0 in
      let here = every-at (well_named (directory_of v)) (entry_count v) e is.0 names in
      both_of (used (directory_of v) e) (lawful_field (directory_of v e).name) (new_name (directory_of v) e) here is.1

  numbered_well : (e : ℕ) → Used v e → (2 ≤ (directory_of v e).inode) × Allocated v (directory_of v e).inode
  numbered_well e is =
      let i = (directory_of v e).inode in
      let rest = (and_parts (every (entry_count v) (well_named (directory_of v))) _ rules.entries).1 in
      let numbers = (and_parts (every (entry_count v) (well_numbered v (isize_in v) (directory_of v))) _ rest).0 in
      let here = every-at (well_numbered v (isize_in v) (directory_of v)) (entry_count v) e is.0 numbers in
      let passes = asked_of (not (used (directory_of v) e)) ((leb 2 i && leb i (16 * isize_in v)) && allocated (inode_of v i)) here (ap not is.1) in
      (grind (arith, nat_tests), (grind (arith, nat_tests), grind (arith, nat_tests), grind (arith, nat_tests)))

  -- an earlier used entry has another name
  not_before : (e k : ℕ) → k < e → Used v e → Used v k → (directory_of v k).name ≡ (directory_of v e).name → ⊥
  not_before e k before is was same =
      let d = directory_of v in
      let new = every-at (λ m. not (same_name d e m)) e k before (well-named e is).1 in
      let equal : bytes_eq (d k).name (d e).name ≡ true = (bytes_eq-Decides (d k).name (d e).name).1 same in
      let again : same_name d e k ≡ true = and_from (used d k) (bytes_eq (d k).name (d e).name) was.1 equal in
      true≢false (sym new ∙ ap not again)

  names_once : (e k : ℕ) → Used v e → Used v k → (directory_of v e).name ≡ (directory_of v k).name → e ≡ k
  names_once e k is was same =
      ⊎_elim
      (λ equal. equal)
      (λ other. absurd (⊎_elim (λ before. not_before k e before was is same) (λ after. not_before e k (omega arith) is was (sym same)) (cases_lt e k)))
      (cases_eq e k)

  entered-once : (i : ℕ) → 2 ≤ i → Allocated v i → ExactlyOne (NamesInode v i)
  entered-once i least is =
      let d = directory_of v in
      let n = entry_count v in
      let f : ℕ → ℕ = λ e. cond (used d e && eqb (d e).inode i) 1 0 in
      let rest = (and_parts (every n (well_named d)) _ rules.entries).1 in
      let all = (and_parts (every n (well_numbered v (isize_in v) d)) _ rest).1 in
      let here = inode_passes (entered d n) v (isize_in v) all i is.0 is.1 in
      let other = ne_eqb i 1 (λ e. omega arith) in
      let once : entries_for d n i ≡ 1 = eqb-true (entries_for d n i) 1 (cc (here, other, is.2)) in
      let at = total-one f n (sym (count_by-range (numbered d i) n) ∙ once) in
      let passes = and_parts (used d at.0) (eqb (d at.0).inode i) (counted-one (used d at.0 && eqb (d at.0).inode i) at.2) in (
        at.0,
        ((at.1, passes.0), eqb-true (d at.0).inode i passes.1),
        λ k names.
            ⊎_elim
            (λ same. same)
            (λ other. absurd (counted_none (used d k && eqb (d k).inode i) (at.3 k names.0.0 other) (and_from _ _ names.0.1 (eq-eqb (d k).inode i names.1))))
            (cases_eq k at.0),
      )

  plain_file : (i : ℕ) → 2 ≤ i → Allocated v i → is_plain_file (inode_of v i) ≡ true
  plain_file i least is =
      let here = inode_passes free_or_plain v (isize_in v) rules.inodes i is.0 is.1 in
      let other = ne_eqb i 1 (λ e. omega arith) in
      cc (here, other, is.2)

  -- file a is that of the a-th used entry
  file_is : (a : ℕ) → a < length (files_of v) → (a < length (used_among (directory_of v) (entry_count v))) × (file_number v a ≡ file_at v (get_or (used_among (directory_of v) (entry_count v)) a 0))
  file_is a lt =
      let places = used_among (directory_of v) (entry_count v) in
      let within : a < length places = omega (arith, length-map places (file_at v)) in
      (within, get_or-map (file_at v) places a 0 _ within)

  -- a name field holds the name and zeros behind it
  named_by : (e : ℕ) → Used v e → (lawful (up_to_zero (directory_of v e).name) ≡ true) × (all_zero (drop (length (up_to_zero (directory_of v e).name)) (directory_of v e).name) ≡ true)
  named_by e is = let f = (directory_of v e).name in and_parts (lawful (up_to_zero f)) (all_zero (drop (length (up_to_zero f)) f)) (well-named e is).0

  lawful-file : (a : ℕ) → a < length (files_of v) → lawful (file_number v a).name ≡ true
  lawful-file a lt = let is = file_is a lt in ap (λ f. lawful f.name) is.1 ∙ (named_by _ (used-at (directory_of v) (entry_count v) a is.0)).0

  file_once : (a b : ℕ) → a < length (files_of v) → b < length (files_of v) → (file_number v a).name ≡ (file_number v b).name → a ≡ b
  file_once a b p q same =
      let d = directory_of v in
      let places = used_among d (entry_count v) in
      let is = file_is a p in
      let was = file_is b q in
      let e = get_or places a 0 in
      let k = get_or places b 0 in
      let e-used = used-at d (entry_count v) a is.0 in
      let k-used = used-at d (entry_count v) b was.0 in
      let names : up_to_zero (d e).name ≡ up_to_zero (d k).name = sym (ap (λ f. f.name) is.1) ∙ same ∙ ap (λ f. f.name) was.1 in
      let long : length (d e).name ≡ length (d k).name = length-bytes_at 14 _ (16 * e + 2) ∙ sym (length-bytes_at 14 _ (16 * k + 2)) in
      let fields = same_field (d e).name (d k).name long (named_by e e-used).1 (named_by k k-used).1 names in
      used-once d (entry_count v) a b is.0 was.0 (names_once e k e-used k-used fields)

  pub sound_volume : SoundVolume v
  sound_volume = record {
    one_place = stands-somewhere;
    names_differ = names_once;
    one_entry = entered-once;
    names_a_file = λ e is. let named = numbered_well e is in (named.1, plain_file (directory_of v e).inode named.0 named.1);
    file_lawful = lawful-file;
    files_differ = file_once;
  }
