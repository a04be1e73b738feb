-- What the calls on standing keys answer and leave: k covers, the keys in the order of their levels, the argument.
use Rattle.std.specs.Prelude.{◌≡◌, ℕ, ◌^◌, ◌<◌, Bool, true, false, if◌then◌else◌, ◌&&◌, List, [], ◌∷◌, ◌++◌, length, take, drop, Some, None, Ok, Err, Decides, Option, Result, ◌==◌, nat_le, nat_lt, slice_index}
use Rattle.std.specs.Result.{result_and}
use Rattle.faults.specs.Faults.{bare}
use Rattle.faults.specs.declared.Fault.{Fault}
use Rattle.faults.specs.declared.Question.TheVariants.{CoversWithinLimits, RoomForLevel, KeySumOpen, CandidateBelowLimit, RemainderOdd, KeyOrthonormal, EnoughLevels, EnoughPlaces}
use Rattle.keys.specs.Keys.{parity, remainder, full, fits, Fits, Orthonormal}

-- At most sixteen levels stand.
abbrev pub max_levels : ℕ
max_levels = 16

-- Question 5 of the number of covers: is it 2 to 32?
abbrev pub covers_answer : ℕ → Result (Unit {0}) Fault
covers_answer k = if nat_le 2 k && nat_le k 32 then Ok tt else Err (bare CoversWithinLimits)

-- Questions 8, 9 and 10 of a number v that is brought: is there room for a level, may a key still fit, is v below 2 ^ k?
abbrev pub admitted : (k : ℕ) → List ℕ → ℕ → Result (Unit {0}) Fault
admitted k keys v =
    if nat_lt (length keys) max_levels then
    (if full k keys then Err (bare KeySumOpen) else (if nat_lt v (2 ^ k) then Ok tt else Err (bare CandidateBelowLimit)))
    else Err (bare RoomForLevel)

-- The keys after a call that appends v where it is accepted.
abbrev pub extended : List ℕ → ℕ → Result ℕ Fault → List ℕ
extended keys v (Ok level) = keys ++ v ∷ []
extended keys v (Err f) = keys

-- Adding asks last, by question 11, whether the remainder is odd, and answers the new level's number.
abbrev pub add_answer : (k : ℕ) → List ℕ → ℕ → Result ℕ Fault
add_answer k keys v = result_and (admitted k keys v) (if parity (remainder keys v) == 1 then Ok (length keys) else Err (bare RemainderOdd))

-- Taking asks last, by question 12, whether the key is orthonormal to the standing ones.
abbrev pub take_answer : (k : ℕ) → List ℕ → ℕ → Result ℕ Fault
take_answer k keys v = result_and (admitted k keys v) (if fits keys v then Ok (length keys) else Err (bare KeyOrthonormal))

-- Adding appends the remainder of the candidate.
abbrev pub add_call : (k : ℕ) → List ℕ → ℕ → Result ℕ Fault × List ℕ
add_call k keys v = (add_answer k keys v, extended keys (remainder keys v) (add_answer k keys v))

-- Taking appends the key unaltered.
abbrev pub take_call : (k : ℕ) → List ℕ → ℕ → Result ℕ Fault × List ℕ
take_call k keys v = (take_answer k keys v, extended keys v (take_answer k keys v))

-- Disclosing d keys into so many places asks questions 13 and 14: do d levels stand, are there d places?
abbrev pub disclose_answer : (d : ℕ) → List ℕ → (places : ℕ) → Result ℕ Fault
disclose_answer d keys places =
    if nat_le d (length keys) then (if nat_le d places then Ok d else Err (bare EnoughPlaces)) else Err (bare EnoughLevels)

-- The list brought, once the first d keys stand in its first places.
abbrev pub disclosed : List ℕ → List ℕ → Result ℕ Fault → List ℕ
disclosed keys list (Ok d) = take d keys ++ drop d list
disclosed keys list (Err f) = list

abbrev pub disclose_call : (d : ℕ) → List ℕ → List ℕ → Result ℕ Fault × List ℕ
disclose_call d keys list = (disclose_answer d keys (length list), disclosed keys list (disclose_answer d keys (length list)))

-- The key of a level that stands.
abbrev pub key_of : List ℕ → ℕ → Option ℕ
key_of keys level = if nat_lt level (length keys) then Some (slice_index keys level) else None

-- A call, answered by r, that leads from the standing keys to others, which are orthonormal again.
pub record Leads (call : Result ℕ Fault × List ℕ) (after : List ℕ) (r : Result ℕ Fault) : Type 0 where
  pub answer : r ≡ call.0
  pub standing : after ≡ call.1
  pub orthonormal : Orthonormal after

-- Question 12's test says whether v is orthonormal to the keys.
pub record SaysFits (keys : List ℕ) (v : ℕ) (r : Bool) : Type 0 where
  pub answer : r ≡ fits keys v
  pub decides : Decides r (Fits keys v)

-- The keys sum to the key of all covers exactly when no number below 2 ^ k is orthonormal to all of them.
pub record SaysFull (k : ℕ) (keys : List ℕ) (r : Bool) : Type 0 where
  pub answer : r ≡ full k keys
  pub none : r ≡ true → (v : ℕ) → v < 2 ^ k → Fits keys v → ⊥
  pub some : r ≡ false → (v : ℕ) × (v < 2 ^ k) × Fits keys v

-- The remainder r of the candidate v is orthonormal to the keys exactly when it is odd.
pub record Remains (keys : List ℕ) (v r : ℕ) : Type 0 where
  pub answer : r ≡ remainder keys v
  pub fits_if_odd : parity r ≡ 1 → Fits keys r
  pub odd_if_fits : Fits keys r → parity r ≡ 1
