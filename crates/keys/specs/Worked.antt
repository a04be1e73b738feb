-- Worked cases of the calls on keys over four covers.
use Rattle.std.specs.Prelude.{◌≡◌, ℕ, List, [], ◌∷◌, Ok, Err, Result}
use Rattle.faults.specs.Faults.{bare}
use Rattle.faults.specs.declared.Fault.{Fault}
use Rattle.faults.specs.declared.Question.{Question}
use Rattle.faults.specs.declared.Question.TheVariants.{KeySumOpen, CandidateBelowLimit, RemainderOdd, KeyOrthonormal, EnoughLevels, EnoughPlaces}
use Rattle.keys.specs.Calls.{add_call, take_call, disclose_call}

-- Candidate v, or key v, becomes the next of the keys.
abbrev Accepted : (ℕ → List ℕ → ℕ → Result ℕ Fault × List ℕ) → List ℕ → ℕ → (level : ℕ) → List ℕ → Type 0
Accepted call keys v level after = call 4 keys v ≡ (Ok level, after)

-- It is refused by a question, and the keys stay.
abbrev Refused : (ℕ → List ℕ → ℕ → Result ℕ Fault × List ℕ) → List ℕ → ℕ → Question → Type 0
Refused call keys v question = call 4 keys v ≡ (Err (bare question), keys)

abbrev one_key : List ℕ
one_key = 7 ∷ []

abbrev two_keys : List ℕ
two_keys = 7 ∷ 14 ∷ []

abbrev three_keys : List ℕ
three_keys = 7 ∷ 14 ∷ 11 ∷ []

abbrev four_keys : List ℕ
four_keys = 7 ∷ 14 ∷ 11 ∷ 13 ∷ []

-- Two keys after which no further one fits.
abbrev closed_early : List ℕ
closed_early = 7 ∷ 8 ∷ []

abbrev pub WorkedKeys : Type 0
WorkedKeys =
    Accepted add_call [] 7 0 one_key
    × Refused add_call one_key 3 RemainderOdd
    × Accepted add_call one_key 9 1 two_keys
    × Accepted add_call two_keys 2 2 three_keys
    × Accepted add_call three_keys 4 3 four_keys
    × ((v : ℕ) → Refused add_call four_keys v KeySumOpen)
    × ((v : ℕ) → Refused take_call four_keys v KeySumOpen)
    × Accepted add_call one_key 8 1 closed_early
    × ((v : ℕ) → Refused add_call closed_early v KeySumOpen)
    × ((v : ℕ) → Refused take_call closed_early v KeySumOpen)
    × Refused add_call one_key 16 CandidateBelowLimit
    × Accepted take_call one_key 14 1 two_keys
    × Refused take_call one_key 9 KeyOrthonormal
    × Refused take_call one_key 10 KeyOrthonormal
    × (disclose_call 2 three_keys (0 ∷ 1 ∷ 2 ∷ []) ≡ (Ok 2, 7 ∷ 14 ∷ 2 ∷ []))
    × (disclose_call 4 three_keys (0 ∷ []) ≡ (Err (bare EnoughLevels), 0 ∷ []))
    × (disclose_call 3 three_keys (0 ∷ 1 ∷ []) ≡ (Err (bare EnoughPlaces), 0 ∷ 1 ∷ []))
