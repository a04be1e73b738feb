-- What the counts of a tally say.
use Rattle.std.proofs.Common.{◌≡◌, ℕ, zero, suc, ◌+◌, ◌*◌, ◌<◌, ◌≤◌, min, Bool, true, false, cond, not, ◌||◌, eqb, List, [], ◌∷◌, length, get_or, replicate, sym, refl, ap, ◌∙◌, ⊎_elim, arith}
use Rattle.std.proofs.lemmas.List.{length-set, get_or-set_same, get_or-set_other, length-replicate, get_or-replicate}
use Rattle.std.proofs.lemmas.Bool.{cases_eq}
use Rattle.std.proofs.lemmas.Bool.Decides.{nat_tests}
use Rattle.store.specs.Stores.{Block}
use Rattle.volume.proofs.Everys.{every-same}
use Rattle.volume.specs.Every.{every}
use Rattle.layout.specs.Inodes.{allocated, inode_of}
use Rattle.volume.specs.Numbers.{occurrences, total}
use Rattle.volume.specs.Rules.{held_by, super_of, isize_in, standings, s6}
use Rattle.layout.specs.Superblocks.{free_list, is_data}
use Rattle.volume.specs.Tallies.{bumped, tallied, tally_after, once_in}
use Rattle.volume.specs.Visits.{visited}
use Rattle.volume.specs.declared.tally.Tally.{Tally}

pub length-tallied : (counts xs : List ℕ) → length (tallied counts xs) ≡ length counts
length-tallied counts [] = refl
length-tallied counts (x ∷ xs) = length-tallied (bumped counts x) xs ∙ length-set counts x (min 255 (get_or counts x 0 + 1))

module _ (n : ℕ) where
  get_or-bumped : (counts : List ℕ) (x : ℕ) → n < length counts → get_or counts n 0 ≤ 255 → get_or (bumped counts x) n 0 ≡ min 255 (get_or counts n 0 + cond (eqb x n) 1 0)
  get_or-bumped counts x within most =
      ⊎_elim
      (λ (same : n ≡ x).
      let one : ◌≡◌ {A = ℕ} (cond (eqb x n) 1 0) 1 = grind (arith, nat_tests) in
      ap (λ i. get_or (bumped counts x) i 0) same ∙ get_or-set_same counts x (min 255 (get_or counts x 0 + 1)) 0 (rw (sym same) within) ∙ ap (λ i. min 255 (get_or counts i 0 + 1)) (sym same) ∙ ap (λ k. min 255 (get_or counts n 0 + k)) (sym one))
      (λ (other : n ≡ x → ⊥).
      let none : ◌≡◌ {A = ℕ} (cond (eqb x n) 1 0) 0 = grind (arith, nat_tests) in
      get_or-set_other counts x n (min 255 (get_or counts x 0 + 1)) 0 other ∙ omega arith)
      (cases_eq n x)

  -- a count is how often the number stands there, up to 255
  pub get_or-tallied : (counts xs : List ℕ) → n < length counts → get_or counts n 0 ≤ 255 → get_or (tallied counts xs) n 0 ≡ min 255 (get_or counts n 0 + occurrences n xs)
  get_or-tallied counts [] within most = omega arith
  get_or-tallied counts (x ∷ xs) within most =
      let here = get_or-bumped counts x within most in
      let long = length-set counts x (min 255 (get_or counts x 0 + 1)) in
      get_or-tallied (bumped counts x) xs (omega arith) (omega arith) ∙ omega arith

  -- one inode more, which counts if it is allocated
  get_or-held : (a : Bool) (counts xs : List ℕ) → n < length counts → get_or counts n 0 ≤ 255 → (length (cond a (tallied counts xs) counts) ≡ length counts) × (get_or (cond a (tallied counts xs) counts) n 0 ≡ min 255 (get_or counts n 0 + cond a (occurrences n xs) 0))
  get_or-held true counts xs within most = (length-tallied counts xs, get_or-tallied counts xs within most)
  get_or-held false counts xs within most = (refl, omega arith)

  -- what is added to what went no higher than 255
  min-min : (a b c d e : ℕ) → e ≡ min 255 (d + c) → d ≡ min 255 (a + b) → e ≡ min 255 (a + (c + b))
  min-min a b c d e p q = omega arith

  -- and after the inodes so far, how often they hold the block too
  pub get_or-visited : (v : List Block) (m : ℕ) (t : Tally) → n < length t.counts → get_or t.counts n 0 ≤ 255 → (length (visited tally_after v m t).counts ≡ length t.counts) × (get_or (visited tally_after v m t).counts n 0 ≡ min 255 (get_or t.counts n 0 + total m (λ j. held_by n (inode_of v (suc j)))))
  unfolding visited total
  get_or-visited v zero t within most = (refl, omega arith)
  get_or-visited v (suc m) t within most =
      let sofar = get_or-visited v m t within most in
      let i = inode_of v (suc m) in
      let step = get_or-held (allocated i) (visited tally_after v m t).counts i.addresses (omega arith) (omega arith) in
      (step.0 ∙ sofar.0, min-min (get_or t.counts n 0) (total m (λ j. held_by n (inode_of v (suc j)))) (held_by n i) _ _ step.1 sofar.1)

-- exactly one is exactly one, also where it is counted up to 255 only
one-is : (x y : ℕ) → x ≡ min 255 y → eqb x 1 ≡ eqb y 1
one-is x y e = grind (arith, nat_tests)

module _ (v : List Block) (few : length v ≤ 100) where
  abbrev begun : Tally
  begun = record { counts = tallied (replicate 100 0) (free_list (super_of v)) }

  abbrev ended : Tally
  ended = visited tally_after v (16 * isize_in v) begun

  counted : (n : ℕ) → n < length v → get_or ended.counts n 0 ≡ min 255 (standings v n)
  counted n within =
      let zeros = length-replicate {A = ℕ} 100 0 in
      let none = get_or-replicate {A = ℕ} 100 n 0 0 (omega arith) in
      let long = length-tallied (replicate 100 0) (free_list (super_of v)) in
      let free = get_or-tallied n (replicate 100 0) (free_list (super_of v)) (omega arith) (omega arith) in
      let held = get_or-visited n v (16 * isize_in v) begun (omega arith) (omega arith) in
      added (get_or ended.counts n 0) (get_or begun.counts n 0) (get_or (replicate 100 0) n 0) (occurrences n (free_list (super_of v))) (total (16 * isize_in v) (λ j. held_by n (inode_of v (suc j)))) none free held.1
    where
      added : (e d z a b : ℕ) → z ≡ 0 → d ≡ min 255 (z + a) → e ≡ min 255 (d + b) → e ≡ min 255 (a + b)
      added e d z a b p q r = omega arith

  -- the tests that the code makes of its counts are those of the rule
  pub stands-once : every (length v) (once_in ended.counts (isize_in v) (length v)) ≡ s6 v
  stands-once =
      every-same (once_in ended.counts (isize_in v) (length v)) (λ n. not (is_data (isize_in v) (length v) n) || eqb (standings v n) 1) (length v)
      (λ n lt. ap (λ t. not (is_data (isize_in v) (length v) n) || t) (one-is (get_or ended.counts n 0) (standings v n) (counted n lt)))

  -- the same, of values that the code has
  pub stands-once_by : (b : Block) (isize isize' count : ℕ) (counts : List ℕ) (t : Tally) (r : Bool) → b ≡ super_of v → isize ≡ isize_in v → isize' ≡ isize_in v → count ≡ length v → counts ≡ tallied (replicate 100 0) (free_list b) → t ≡ visited tally_after v (16 * isize) (record { counts = counts }) → r ≡ every count (once_in t.counts isize' count) → r ≡ s6 v
  stands-once_by b isize isize' count counts t r b-is isize-is isize'-is count-is counts-is t-is r-is =
      let start : counts ≡ begun.counts = counts-is ∙ ap (λ x. tallied (replicate 100 0) (free_list x)) b-is in
      let last : t ≡ ended = t-is ∙ ap (λ k. visited tally_after v (16 * k) (record { counts = counts })) isize-is ∙ ap (λ cs. visited tally_after v (16 * isize_in v) (record { counts = cs })) start in
      r-is ∙ rw (last, isize'-is, count-is) stands-once
