-- What the facts that a key table carries say of the keys that stand in it.
use Rattle.std.proofs.Common.{◌≡◌, ℕ, ◌+◌, ◌^◌, ◌<◌, ◌≤◌, Bool, List, [], ◌∷◌, ◌++◌, length, get_or, take, drop, set, Some, Ok, arith, length-take}
use Rattle.std.proofs.lemmas.Bool.Decides.{nat_tests}
use Rattle.std.proofs.lemmas.List.{get_or-take, take-take, take_more_set}
use Rattle.keys.specs.Calls.{disclose_answer, disclose_call, key_of, SaysFull, Remains}
use Rattle.keys.specs.Keys.{remainder, full, Fits, Own, Others, Below, Orthonormal, Sound}
use Rattle.keys.specs.Tables.{standing, covers_of}
use Rattle.keys.specs.declared.table.KeyTable.{KeyTable}
use Rattle.keys.proofs.Standing as keys

module _ (t : KeyTable) where
  pub length-standing : length (standing t) ≡ t.count
  length-standing = omega (arith, length-take {A = ℕ})

  pub orthonormal_standing : Orthonormal (standing t)
  orthonormal_standing = record { own = t.own; others = t.others }

  pub sound_standing : Sound (covers_of t) (standing t)
  sound_standing = record { few = omega (arith, length-standing); orthonormal = orthonormal_standing; below = t.below }

  pub key_standing : (level : ℕ) → level < t.count → Some (get_or t.keys level 0) ≡ key_of (standing t) level
  key_standing level lt = grind (arith, nat_tests, length-standing, get_or-take {A = ℕ})

  pub says-full : (r : Bool) → r ≡ full t.covers (standing t) → SaysFull t.covers (standing t) r
  says-full = keys.says_full t.covers (standing t) t.below orthonormal_standing

  pub remains : (v r : ℕ) → r ≡ remainder (standing t) v → Remains (standing t) v r
  remains = keys.remains t.covers (standing t) t.below orthonormal_standing

  -- one key more
  module _ (key : ℕ) (room : t.count < 16) where
    pub take-appended : take (t.count + 1) (set t.keys t.count key) ≡ standing t ++ key ∷ []
    take-appended = take_more_set t.keys t.count key (omega arith)

    module _ (fits : Fits (standing t) key) where
      pub own_appended : Own (take (t.count + 1) (set t.keys t.count key))
      own_appended = rw take-appended (keys.Own-push (standing t) key fits t.own)

      pub others_appended : Others (take (t.count + 1) (set t.keys t.count key))
      others_appended = rw take-appended (keys.Others-push (standing t) key fits t.others)

    pub below-appended : key < 2 ^ t.covers → Below t.covers (take (t.count + 1) (set t.keys t.count key))
    below-appended lt = rw take-appended (keys.Below-push (standing t) key t.covers t.below lt)

  -- a disclosure that is accepted
  module _ (d : ℕ) (list : List ℕ) (levels : d ≤ t.count) (places : d ≤ length list) where
    pub disclose_accepted : disclose_answer d (standing t) (length list) ≡ Ok d
    disclose_accepted = grind (arith, nat_tests, length-standing)

    pub disclose_places : take d t.keys ++ drop d list ≡ (disclose_call d (standing t) list).1
    disclose_places = rw (disclose_accepted, take-take d t.count t.keys levels)
