-- The blocks of a level's covers, fetched one after another, added up and held.
use Rattle.std.proofs.lemmas.Grind.{common_steps}
use Rattle.std.proofs.Common.{◌≡◌, ℕ, ◌+◌, ◌<◌, ◌≤◌, true, cond, ◌&&◌, List, [], length, get_or, set, is_ok, Ok, Err, sym, ap, ◌∙◌, arith}
use Rattle.std.proofs.lemmas.List.{get_or-set_same, get_or-set_other}
use Rattle.faults.specs.declared.Fault.{Fault}
use Rattle.store.specs.Stores.{Block, Mark, asked}
use Rattle.wallet.specs.Levels.{xor_block}
use Rattle.wallet.specs.Places.{place}
use Rattle.wallet.specs.Standing.{covers_of, key_of, level_marks_of, cover_answer}
use Rattle.wallet.specs.declared.level.Level.{Level}
use Rattle.wallet.proofs.Marking.{Passed, passed_none, passed_more, refused_at, accepted_by}
use Rattle.wallet.proofs.Summing.{summed, summed-none, summed-more}

-- The covers below i were accepted, and the sum s has been added to by them.
pub record Added (l : Level) (ms : List Mark) (bs : List Block) (b : ℕ) (s : Block) (i : ℕ) (sum : Block) : Type 0 where
  pub passed : Passed l ms b i
  pub total : sum ≡ summed l bs b s i

module _ (l : Level) (ms : List Mark) (bs : List Block) (b : ℕ) (s : Block) where
  pub added_none : length s ≡ 512 → Added l ms bs b s 0 s
  added_none size = record { passed = passed_none l ms b; total = summed-none l bs b s size }

  module _ (i : ℕ) (sum : Block) (was : Added l ms bs b s i sum) where
    -- one cover more, whether in the key or not
    pub added_more : (sum' : Block) → i < l.covers → Ok tt ≡ cover_answer l ms b i → sum' ≡ cond (key_of l i && true) (xor_block sum (get_or bs (place (covers_of l) i b) [])) sum → Added l ms bs b s (i + 1) sum'
    added_more sum' more answer is = record {
      passed = passed_more l ms b i more was.passed (ap is_ok (sym answer));
      total = summed-more l bs b s i sum sum' was.total is;
    }

    -- the first cover that refuses gives the level's answer
    pub added-refused : (f : Fault) → i < l.covers → b < l.blocks → Err f ≡ cover_answer l ms b i → Err f ≡ asked (level_marks_of l ms) b
    added-refused f more within answer = refused_at l ms b i more within was.passed f answer

    -- and where none does the block is live, and the sum is of all covers
    pub added-accepted : l.covers ≤ i → b < l.blocks → Ok tt ≡ asked (level_marks_of l ms) b
    added-accepted end within = accepted_by l ms b i end within was.passed

    pub added_all : l.covers ≡ i → sum ≡ summed l bs b s l.covers
    added_all end = was.total ∙ ap (summed l bs b s) (sym end)

-- The blocks of the covers below i are held in their places.
abbrev pub HoldsBelow : Level → List Block → (b i : ℕ) → List Block → Type 0
HoldsBelow l bs b i held = (j : ℕ) → j < i → key_of l j ≡ true → get_or held j [] ≡ get_or bs (place (covers_of l) j b) []

-- one cover more is held
pub holds_more : (l : Level) (bs : List Block) (b i : ℕ) (held : List Block) (old new : Block) → i < length held → HoldsBelow l bs b i held
    → new ≡ cond (key_of l i && true) (get_or bs (place (covers_of l) i b) []) old → HoldsBelow l bs b (i + 1) (set held i new)
holds_more l bs b i held old new room before is j lt in' = grind (arith, common_steps, get_or-set_other, get_or-set_same)
