-- Laws of the tests of all the numbers below a bound.
use Rattle.std.proofs.Common.{◌≡◌, ℕ, zero, suc, ◌+◌, ◌<◌, ◌≤◌, Bool, true, false, not, ◌&&◌, ◌||◌, List, [], ◌∷◌, ◌++◌, length, get_or, take, sym, refl, ap, ◌∙◌, ⊎_elim, arith}
use Rattle.std.proofs.Math.Bool.{and-true, and_comm}
use mathlib.Core.List.{map-id}
use Rattle.std.proofs.lemmas.List.Folds.{list_all-append, list_any_more}
use Rattle.std.proofs.lemmas.List.FromFn.{map-range_with_len_more}
use Rattle.std.specs.List.{list_all, list_any, range_with_len}
use Rattle.std.proofs.lemmas.Bool.{and_from, and_parts, cases_eq}
use Rattle.volume.specs.Every.{every}

-- the numbers below a bound that is one higher
pub range-more : (n : ℕ) → range_with_len 0 (n + 1) ≡ range_with_len 0 n ++ n ∷ []
range-more n = sym (map-id (range_with_len 0 (n + 1))) ∙ map-range_with_len_more (λ k. k) 0 n n (omega arith) ∙ ap (λ xs. xs ++ n ∷ []) (map-id (range_with_len 0 n))

module _ (p : ℕ → Bool) where
  -- one number more
  pub every-suc : (n : ℕ) → every (suc n) p ≡ (p n && every n p)
  every-suc n =
      let one : suc n ≡ n + 1 = omega arith in
      ap (λ k. list_all p (range_with_len 0 k)) one ∙ ap (list_all p) (range-more n) ∙ list_all-append p (range_with_len 0 n) (n ∷ []) ∙ ap (λ b. every n p && b) (and-true (p n)) ∙ and_comm (every n p) (p n)

  -- what passes as a whole passes at each number
  pub every-at : (n k : ℕ) → k < n → every n p ≡ true → p k ≡ true
  every-at zero k lt all = absurd (omega arith)
  every-at (suc n) k lt all =
      let both = and_parts (p n) (every n p) (sym (every-suc n) ∙ all) in
      ⊎_elim (λ e. ap p e ∙ both.0) (λ ne. every-at n k (omega arith) both.1) (cases_eq k n)

  pub every-from : (n : ℕ) → ((k : ℕ) → k < n → p k ≡ true) → every n p ≡ true
  every-from zero all = refl
  every-from (suc n) all = every-suc n ∙ and_from (p n) (every n p) (all n (omega arith)) (every-from n (λ k lt. all k (omega arith)))

-- tests that agree below the bound
pub every-same : (p q : ℕ → Bool) (n : ℕ) → ((k : ℕ) → k < n → p k ≡ q k) → every n p ≡ every n q
every-same p q zero same = refl
every-same p q (suc n) same =
    every-suc p n ∙ ap (λ b. b && every n p) (same n (omega arith)) ∙ ap (λ b. q n && b) (every-same p q n (λ k lt. same k (omega arith))) ∙ sym (every-suc q n)

neither : (a b : Bool) → not (a || b) ≡ (not b && not a)
neither true true = refl
neither true false = refl
neither false true = refl
neither false false = refl

-- that none of the first n elements passes, place by place
pub every-none_of : (p : ℕ → Bool) (xs : List ℕ) (n : ℕ) → n ≤ length xs → not (list_any p (take n xs)) ≡ every n (λ i. not (p (get_or xs i 0)))
every-none_of p xs zero few = refl
every-none_of p xs (suc n) few =
    let one : suc n ≡ n + 1 = omega arith in
    let fails : ℕ → Bool = λ i. not (p (get_or xs i 0)) in
    ap (λ k. not (list_any p (take k xs))) one ∙ ap not (list_any_more p xs n 0 (omega arith)) ∙ neither (list_any p (take n xs)) (p (get_or xs n 0)) ∙
    ap (λ b. fails n && b) (every-none_of p xs n (omega arith)) ∙ sym (every-suc fails n)
