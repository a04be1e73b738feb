-- The mark of a level's block, found by asking its covers in order.
use Rattle.std.proofs.lemmas.Grind.{common_steps}
use Rattle.std.proofs.Common.{◌≡◌, ℕ, zero, suc, ◌+◌, ◌-◌, ◌<◌, ◌≤◌, Bool, true, false, cond, List, length, is_ok, Ok, Err, sym, refl, ap, ◌∙◌, ⊎_elim, arith}
use Rattle.std.proofs.lemmas.Bool.{cases_Bool, true≢false, false≢true}
use Rattle.keys.specs.Bits.{bits}
use Rattle.faults.specs.Faults.{past_count}
use Rattle.faults.specs.declared.Fault.{Fault}
use Rattle.store.specs.Stores.{Mark, live, dead, judged, asked}
use Rattle.store.proofs.Asking.{asked-past, asked-within, within_from_ok}
use Rattle.wallet.specs.Each.{length-each, get_or-each}
use Rattle.wallet.specs.Levels.{spoils, lowest_dead, cover_fine, level_mark, level_marks}
use Rattle.wallet.specs.Places.{place}
use Rattle.wallet.specs.Standing.{covers_of, key_of, level_marks_of, cover_answer}
use Rattle.wallet.specs.declared.level.Level.{Level}
use Rattle.wallet.proofs.Covering.{in_key-bits}

module _ (l : Level) (ms : List Mark) (b : ℕ) where
  -- The lowest of so many covers from i on that makes block b dead.
  abbrev pub lowest : ℕ → ℕ → Mark
  lowest many i = lowest_dead bits l.number (key_of l) (cover_fine (covers_of l) ms b) many i

  abbrev spoiled : ℕ → Bool
  spoiled i = spoils bits (key_of l) (cover_fine (covers_of l) ms b) i

  -- The covers from i on decide, those before having answered.
  abbrev pub Passed : ℕ → Type 0
  Passed i = lowest (l.covers - i) i ≡ lowest l.covers 0

  pub passed_none : Passed 0
  passed_none = ap (λ n. lowest n 0) (let e : l.covers - 0 ≡ l.covers = omega arith in e)

  fine_cover : (i : ℕ) → is_ok (cover_answer l ms b i) ≡ true → spoiled i ≡ false
  fine_cover i ok = ⊎_elim (λ bad. absurd (false≢true (ap (λ x. is_ok (judged b (cond x (dead l.number i) live))) (sym bad) ∙ ok))) (λ fine. fine) (cases_Bool (spoiled i))

  bad_cover : (i : ℕ) → is_ok (cover_answer l ms b i) ≡ false → spoiled i ≡ true
  bad_cover i refused = ⊎_elim (λ bad. bad) (λ fine. absurd (true≢false (ap (λ x. is_ok (judged b (cond x (dead l.number i) live))) (sym fine) ∙ refused))) (cases_Bool (spoiled i))

  module _ (i : ℕ) (more : i < l.covers) where
    one_left : l.covers - i ≡ suc (l.covers - (i + 1))
    one_left = omega arith

    pub passed_more : Passed i → is_ok (cover_answer l ms b i) ≡ true → Passed (i + 1)
    passed_more was ok = grind (arith, common_steps, fine_cover, one_left)

    -- the first cover that refuses is the lowest that makes the block dead
    stopped : Passed i → is_ok (cover_answer l ms b i) ≡ false → cover_answer l ms b i ≡ judged b (lowest l.covers 0)
    stopped was refused = grind (arith, common_steps, bad_cover, one_left)

  pub level_past : l.blocks ≤ b → Err (past_count b) ≡ asked (level_marks_of l ms) b
  unfolding level_marks
  level_past past = sym (asked-past (level_marks_of l ms) b (omega (arith, length-each l.blocks (level_mark bits (covers_of l) l.number (key_of l) ms))))

  level-asked : b < l.blocks → judged b (lowest l.covers 0) ≡ asked (level_marks_of l ms) b
  unfolding level_marks level_mark
  level-asked within = grind (arith, common_steps, asked-within, get_or-each, length-each)

  -- the first cover that refuses gives the level's answer
  pub refused_at : (i : ℕ) → i < l.covers → b < l.blocks → Passed i → (f : Fault) → Err f ≡ cover_answer l ms b i → Err f ≡ asked (level_marks_of l ms) b
  refused_at i more within was f came = came ∙ stopped i more was (ap is_ok (sym came)) ∙ level-asked within

  -- and where none does the block is live
  pub accepted_by : (i : ℕ) → l.covers ≤ i → b < l.blocks → Passed i → Ok tt ≡ asked (level_marks_of l ms) b
  accepted_by i end within was = ap (λ n. judged b (lowest n i)) (let z : 0 ≡ l.covers - i = omega arith in z) ∙ ap (judged b) was ∙ level-asked within

  -- where no cover makes the block dead, each one is accepted
  lowest-live : (many i : ℕ) → lowest many i ≡ live → (j : ℕ) → i ≤ j → j < i + many → is_ok (cover_answer l ms b j) ≡ true
  lowest-live zero i e j from below = absurd (omega arith)
  lowest-live (suc many) i e j from below = grind (arith, common_steps, lowest-live many (suc i))

  live_from_ok : (m : Mark) → is_ok (judged b m) ≡ true → m ≡ live
  live_from_ok live ok = refl
  live_from_ok (dead level cover) wrong = absurd (false≢true wrong)

  -- in an accepted block each cover is accepted
  pub covers_accepted : b < l.blocks → is_ok (asked (level_marks_of l ms) b) ≡ true → (j : ℕ) → j < l.covers → is_ok (cover_answer l ms b j) ≡ true
  covers_accepted within ok j lt =
      lowest-live l.covers 0 (live_from_ok (lowest l.covers 0) (ap is_ok (level-asked within) ∙ ok)) j (omega arith) (omega arith)

  -- a cover of the key that is accepted has its block in the store
  pub cover_within : (i : ℕ) → key_of l i ≡ true → is_ok (cover_answer l ms b i) ≡ true → place (covers_of l) i b < length ms
  cover_within i in' ok = grind (arith, common_steps, fine_cover, in_key-bits, within_from_ok)
