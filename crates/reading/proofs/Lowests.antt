-- Laws of the lowest number that passes a test.
use Rattle.std.proofs.Common.{◌≡◌, ℕ, zero, suc, ◌<◌, ◌≤◌, Bool, true, false, cond, ◌⊎◌, Some, None, Option, sym, refl, ap, ◌∙◌, inl, inr, ⊎_elim, arith}
use Rattle.std.specs.Option.{MatchOption}
use Rattle.std.proofs.lemmas.Bool.{cases_eq}
use Rattle.reading.specs.Lowest.{or_else, lowest}

module _ (p : ℕ → Bool) where
  lowest-absent : (n : ℕ) → ((k : ℕ) → k < n → p k ≡ false) → lowest n p ≡ None
  unfolding lowest
  lowest-absent zero fails = refl
  lowest-absent (suc n) fails = ap (λ o. or_else o (cond (p n) (Some n) None)) (lowest-absent n (λ k lt. fails k (omega arith))) ∙ ap (λ b. cond b (Some n) None) (fails n (omega arith))

  -- all below k fail and k passes
  pub lowest-at : (n k : ℕ) → k < n → lowest k p ≡ None → p k ≡ true → lowest n p ≡ Some k
  unfolding lowest
  lowest-at zero k lt sofar here = absurd (omega arith)
  lowest-at (suc n) k lt sofar here =
      ⊎_elim
      (λ same. ap (λ o. or_else o (cond (p n) (Some n) None)) (ap (λ m. lowest m p) (sym same) ∙ sofar) ∙ ap (λ b. cond b (Some n) None) (ap p (sym same) ∙ here) ∙ ap Some (sym same))
      (λ other. ap (λ o. or_else o (cond (p n) (Some n) None)) (lowest-at n k (omega arith) sofar here))
      (cases_eq k n)

  -- what a search through the numbers below n finds
  pub lowest-found : (n : ℕ) (r : Option ℕ) → MatchOption r ((k : ℕ) → 0 ≤ k → k < n → p k ≡ false) (λ i. (0 ≤ i) × (i < n) × (p i ≡ true) × ((k : ℕ) → 0 ≤ k → k < i → p k ≡ false)) → r ≡ lowest n p
  lowest-found n (Some i) found = sym (lowest-at n i found.1 (lowest-absent i (λ k lt. found.3 k (omega arith) lt)) found.2)
  lowest-found n None none = sym (lowest-absent n (λ k lt. none k (omega arith) lt))

  -- what is there, or else the last number
  pub last_or_before : (o : Option ℕ) (b : Bool) (n k : ℕ) → or_else o (cond b (Some n) None) ≡ Some k → (o ≡ Some k) ⊎ ((b ≡ true) × (n ≡ k))
  last_or_before (Some x) b n k is = inl is
  last_or_before None true n k is = inr (refl, cc)
  last_or_before None false n k is = let z : ◌≡◌ {A = ℕ} 0 1 = cc in absurd (omega arith)

  -- what was found passes
  pub lowest-some : (n k : ℕ) → lowest n p ≡ Some k → (k < n) × (p k ≡ true)
  unfolding lowest
  lowest-some zero k found = let z : ◌≡◌ {A = ℕ} 0 1 = cc in absurd (omega arith)
  lowest-some (suc n) k found =
      ⊎_elim
      (λ before. let is = lowest-some n k before in (omega arith, is.1))
      (λ last. (omega arith, sym (ap p last.1) ∙ last.0))
      (last_or_before (lowest n p) (p n) n k found)
