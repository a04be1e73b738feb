-- What a store means: its blocks, a mark for each, and what the store calls answer.
use Rattle.std.specs.Prelude.{◌≡◌, ℕ, ◌+◌, ◌<◌, ◌≤◌, false, cond, List, [], ◌∷◌, length, is_ok, Ok, Err, Result, nat_lt, slice_index_or, slice_set}
use Rattle.faults.specs.declared.Fault.{Fault}
use Rattle.faults.specs.Faults.{past_count, dead_block}

-- The bytes of one block.
abbrev pub Block : Type 0
Block = List ℕ

-- A block is live, or dead with the level and the cover that its fault names.
pub data Mark : Type 0 where
  live : Mark
  dead : (level cover : ℕ) → Mark

-- Question 2, of a block with its mark.
abbrev pub judged : ℕ → Mark → Result (Unit {0}) Fault
judged n live = Ok tt
judged n (dead level cover) = Err (dead_block n level cover)

-- Questions 1 and 2 of block n: is there one, and is it live?
unfoldable pub asked : List Mark → ℕ → Result (Unit {0}) Fault
asked ms n = cond (nat_lt n (length ms)) (judged n (slice_index_or ms n live)) (Err (past_count n))

-- The lowest dead block, where the marks are those of block n onward.
abbrev pub first_dead : ℕ → List Mark → Result (Unit {0}) Fault
first_dead n [] = Ok tt
first_dead n (live ∷ ms) = first_dead (n + 1) ms
first_dead n (dead level cover ∷ ms) = Err (dead_block n level cover)

-- Question 2 of a call on the whole store: is every block live?
unfoldable pub all_live : List Mark → Result (Unit {0}) Fault
all_live ms = first_dead 0 ms

-- A fetch of block n, answered by r: accepted, it fills the buffer with the block; refused, it leaves the buffer as brought.
pub record Fetched (blocks : List Block) (marks : List Mark) (n : ℕ) (before after : Block) (r : Result (Unit {0}) Fault) : Type 0 where
  pub answer : r ≡ asked marks n
  pub buffer : after ≡ cond (is_ok r) (slice_index_or blocks n []) before

-- A put of block n, answered by r, leads from the store s to t: accepted, it makes that block equal to the contents
-- and leaves every other; refused, it leaves the whole store as it was.
pub record Placed {S : Type 0} (blocks : S → List Block) (marks : S → List Mark) (moved : S → S → Type 0) (n : ℕ) (contents : Block) (s t : S) (r : Result (Unit {0}) Fault) : Type 0 where
  pub answer : r ≡ asked (marks s) n
  pub after : blocks t ≡ cond (is_ok r) (slice_set (blocks s) n contents) (blocks s)
  pub moves : moved s t
  pub refused : is_ok r ≡ false → t ≡ s

-- What holds of every store: as many marks as blocks, at most 1,048,576 of them, 512 bytes in each block;
-- no puts lead from a state to itself, puts after puts are puts, and no put changes a mark.
pub record Laws {S : Type 0} (blocks : S → List Block) (marks : S → List Mark) (moved : S → S → Type 0) : Type 0 where
  pub paired : (s : S) → length (marks s) ≡ length (blocks s)
  pub bounded : (s : S) → length (blocks s) ≤ 1048576
  pub sized : (s : S) (n : ℕ) → n < length (blocks s) → length (slice_index_or (blocks s) n []) ≡ 512
  pub stays : (s : S) → moved s s
  pub joins : (s t u : S) → moved s t → moved t u → moved s u
  pub keeps : (s t : S) → moved s t → marks t ≡ marks s
