-- The calls that bring a key keep the standing keys sound.
use Rattle.std.proofs.Common.{◌≡◌, ℕ, ◌^◌, ◌<◌, Bool, true, eqb, List, [], ◌∷◌, ◌++◌, length, Ok, Err, arith}
use Rattle.std.specs.Prelude.{if◌then◌else◌}
use Rattle.std.specs.Result.{result_and}
use Rattle.std.proofs.lemmas.Bool.Decides.{nat_tests}
use Rattle.std.proofs.lemmas.List.{length_push}
use Rattle.faults.specs.declared.Fault.{Fault}
use Rattle.keys.specs.Calls.{admitted, extended, add_call, take_call}
use Rattle.keys.specs.Keys.{parity, remainder, fits, Fits, Sound}
use Rattle.keys.proofs.Standing.{Decides-fits, odd-fits, remainder-below, Own-push, Others-push, Below-push}

module _ (k : ℕ) (keys : List ℕ) (sound : Sound k keys) where
  -- one key more that is below 2 ^ k and orthonormal to the others
  sound_push : (u : ℕ) → length keys < 16 → u < 2 ^ k → Fits keys u → Sound k (keys ++ u ∷ [])
  sound_push u room lt h = record {
    few = omega (arith, length_push keys u);
    orthonormal = record { own = Own-push keys u h sound.orthonormal.own; others = Others-push keys u h sound.orthonormal.others };
    below = Below-push keys u k sound.below lt;
  }

  -- a key u is appended only where v is admitted and the last question is answered by yes
  sound-extended : (v u level : ℕ) (last : Bool) (f : Fault) → (length keys < 16 → v < 2 ^ k → last ≡ true → Sound k (keys ++ u ∷ [])) → Sound k (extended keys u (result_and (admitted k keys v) (if last then Ok level else Err f)))
  sound-extended v u level last f appended = grind (arith, nat_tests, appended, sound)

  pub sound-added : (v : ℕ) → Sound k (add_call k keys v).1
  sound-added v =
      sound-extended v (remainder keys v) (length keys) (eqb (parity (remainder keys v)) 1) _
      (λ room lt odd. sound_push (remainder keys v) room (remainder-below k keys sound.below v lt) (odd-fits k keys sound.below sound.orthonormal v (grind (arith, nat_tests))))

  pub sound_taken : (v : ℕ) → Sound k (take_call k keys v).1
  sound_taken v = sound-extended v v (length keys) (fits keys v) _ (λ room lt e. sound_push v room lt ((Decides-fits keys v).0 e))
