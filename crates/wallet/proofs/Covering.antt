-- A cover in a key, and the place of its blocks.
use Rattle.std.proofs.lemmas.Grind.{common_steps}
use Rattle.std.proofs.Common.{◌≡◌, ℕ, zero, suc, ◌/◌, ◌%◌, ◌^◌, Bool, true, false, cond, not, ◌&&◌, eqb, ◌⊎◌, List, is_ok, Result, sym, refl, ap, ◌∙◌, inl, inr, ⊎_elim, one-add, arith}
use Rattle.std.proofs.lemmas.Nat.{shr-shr}
use Rattle.std.proofs.lemmas.Bool.{true≢false}
use Rattle.keys.specs.Bits.{bits, entry}
use Rattle.keys.specs.Field.{Field}
use Rattle.faults.specs.declared.Fault.{Fault}
use Rattle.store.specs.Stores.{Mark, live, dead, judged, asked}
use Rattle.wallet.specs.Levels.{in_key, cover_fine}
use Rattle.wallet.specs.Places.{place}
use Rattle.wallet.specs.Standing.{covers_of, key_of, placed_at, cover_answer}
use Rattle.wallet.specs.declared.level.Level.{Level}

-- entry i of a number is the lowest bit of the number shifted by i places
pub entry-shifted : (i n : ℕ) → eqb ((n / 2 ^ i) % 2) 1 ≡ entry n i
entry-shifted zero n = let e : n / 2 ^ 0 ≡ n = omega arith in ap (λ m. eqb (m % 2) 1) e
entry-shifted (suc i) n = ap (λ m. eqb (m % 2) 1) half ∙ entry-shifted i (n / 2)
  where
    half : n / 2 ^ suc i ≡ n / 2 / 2 ^ i
    half = ap (λ m. n / 2 ^ m) (sym (one-add i)) ∙ sym (shr-shr n 1 i)

-- a cover is in the key exactly where its entry isn't 0
module _ {F : Type 0} (f : Field F) (x : F) where
  by_zero : (d : (x ≡ f.zero) ⊎ (x ≡ f.zero → ⊥)) → x ≡ f.zero → ⊎_elim (λ _. false) (λ _. true) d ≡ false
  by_zero (inl e) z = refl
  by_zero (inr other) z = absurd (other z)

  by_other : (d : (x ≡ f.zero) ⊎ (x ≡ f.zero → ⊥)) → (x ≡ f.zero → ⊥) → ⊎_elim (λ _. false) (λ _. true) d ≡ true
  by_other (inl e) other = absurd (other e)
  by_other (inr e) other = refl

  pub in_key-zero : x ≡ f.zero → in_key f x ≡ false
  in_key-zero = by_zero (f.decides x)

  pub in_key-other : (x ≡ f.zero → ⊥) → in_key f x ≡ true
  in_key-other = by_other (f.decides x)

pub in_key-bits : (x : Bool) → in_key bits x ≡ x
in_key-bits true = in_key-other bits true true≢false
in_key-bits false = in_key-zero bits false refl

-- what the store answers of a block comes up as a dead block of the level, whichever of its questions refused it
placed-asked : (level i b : ℕ) (ms : List Mark) (n : ℕ) → placed_at level i b (asked ms n) ≡ judged b (cond (not (is_ok (asked ms n))) (dead level i) live)
unfolding asked
placed-asked level i b ms n = grind (arith, common_steps)

module _ (l : Level) (ms : List Mark) (b i : ℕ) where
  answer_is : cover_answer l ms b i ≡ judged b (cond (key_of l i && not (cover_fine (covers_of l) ms b i)) (dead l.number i) live)
  answer_is = grind (arith, common_steps, in_key-bits)

  pub answer_inside : (n : ℕ) (r : Result (Unit {0}) Fault) → key_of l i ≡ true → n ≡ place (covers_of l) i b → r ≡ asked ms n → placed_at l.number i b r ≡ cover_answer l ms b i
  answer_inside n r in' e answer = grind (arith, common_steps, answer_is, placed-asked)
