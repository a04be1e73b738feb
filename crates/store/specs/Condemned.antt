-- The condemned blocks of a plain store: which there are, when one more is taken, and the marks they give.
use Rattle.std.specs.Prelude.{◌≡◌, ℕ, ◌<◌, Bool, cond, ◌||◌, List, [], ◌∷◌, ◌++◌, map, length, is_ok, Ok, Err, Result, ◌==◌, nat_lt, slice_index_or, slice_set}
use Rattle.std.proofs.Common.{arith}
use Rattle.std.proofs.lemmas.List.FromFn.{length-map-range_with_len, get_or-map-range_with_len}
use Rattle.std.specs.List.{list_any, range_with_len}
use Rattle.store.specs.declared.condemned.Condemned.{Condemned}
use Rattle.faults.specs.declared.Fault.{Fault}
use Rattle.faults.specs.declared.Question.TheVariants.{RoomToCondemn}
use Rattle.faults.specs.Faults.{bare, past_count}
use Rattle.store.specs.Stores.{Mark, live, dead}

-- The numbers condemned so far.
abbrev pub listed : Condemned → List ℕ
listed c = c.numbers.items

-- Whether n is among them.
abbrev pub holds : ℕ → List ℕ → Bool
holds n xs = list_any (λ x. x == n) xs

-- Question 3: is n condemned already, or are fewer than eight?
abbrev pub room_for : ℕ → List ℕ → Result (Unit {0}) Fault
room_for n xs = cond (holds n xs || nat_lt (length xs) 8) (Ok tt) (Err (bare RoomToCondemn))

-- What condemning block n of a plain store of count blocks answers: question 1, then question 3.
abbrev pub may_condemn : (count n : ℕ) → List ℕ → Result (Unit {0}) Fault
may_condemn count n xs = cond (nat_lt n count) (room_for n xs) (Err (past_count n))

-- The numbers once n is condemned: one more, unless it was among them.
abbrev pub joined_by : ℕ → List ℕ → List ℕ
joined_by n xs = cond (holds n xs) xs (xs ++ n ∷ [])

-- The mark of block n: dead if it was condemned, with no level and no cover to name.
abbrev pub mark_of : List ℕ → ℕ → Mark
mark_of xs n = cond (holds n xs) (dead 0 0) live

-- The marks of the first count blocks.
unfoldable pub marked : List ℕ → ℕ → List Mark
marked xs count = map (mark_of xs) (range_with_len 0 count)

-- Condemning block n of a plain store of count blocks, answered by r, makes of the condemned xs the condemned ys:
-- accepted, it marks that one block dead; refused, it changes nothing.
pub record Condemns (count n : ℕ) (xs ys : List ℕ) (r : Result (Unit {0}) Fault) : Type 0 where
  pub answer : r ≡ may_condemn count n xs
  pub after : ys ≡ cond (is_ok r) (joined_by n xs) xs
  pub marks : marked ys count ≡ cond (is_ok r) (slice_set (marked xs count) n (dead 0 0)) (marked xs count)

pub length_marked : (xs : List ℕ) (count : ℕ) → length (marked xs count) ≡ count
unfolding marked
length_marked xs count = length-map-range_with_len (mark_of xs) 0 count

pub get_or_marked : (xs : List ℕ) (count n : ℕ) (m : Mark) → n < count → slice_index_or (marked xs count) n m ≡ mark_of xs n
unfolding marked
get_or_marked xs count n m within = get_or-map-range_with_len (mark_of xs) 0 count n n m within (omega arith)
