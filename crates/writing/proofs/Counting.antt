-- Lists of numbers below a bound, counted number by number.
use Rattle.std.proofs.Common.{◌≡◌, ℕ, zero, suc, ◌+◌, ◌<◌, ◌≤◌, cond, eqb, List, [], ◌∷◌, length, get_or, take, refl, ap, ◌∙◌, ⊎_elim, arith}
use Rattle.std.proofs.lemmas.Bool.{cases_eq, eq-eqb, ne_eqb}
use Rattle.volume.specs.Numbers.{occurrences, total}

pub total-add : (f g : ℕ → ℕ) (n : ℕ) → total n (λ k. f k + g k) ≡ total n f + total n g
unfolding total
total-add f g zero = refl
total-add f g (suc n) = let rest = total-add f g n in omega arith

-- one summand is no more than the sum
pub total_at : (f : ℕ → ℕ) (n k : ℕ) → k < n → f k ≤ total n f
unfolding total
total_at f zero k lt = absurd (omega arith)
total_at f (suc n) k lt = ⊎_elim (λ same. let e = ap f same in omega arith) (λ other. let rest = total_at f n k (omega arith) in omega arith) (cases_eq k n)

-- summands of at most 1, the first of them 0
pub total_most : (f : ℕ → ℕ) (n : ℕ) → f 0 ≡ 0 → ((k : ℕ) → k < suc n → f k ≤ 1) → total (suc n) f ≤ n
unfolding total
total_most f zero first most = omega arith
total_most f (suc n) first most = let rest = total_most f n first (λ k lt. most k (omega arith)) in let here = most (suc n) (omega arith) in omega arith

total-zero : (n : ℕ) → total n (λ _. 0) ≡ 0
unfolding total
total-zero zero = refl
total-zero (suc n) = let rest = total-zero n in omega arith

not_counted : (x n : ℕ) → (x ≡ n → ⊥) → ◌≡◌ {A = ℕ} (cond (eqb x n) 1 0) 0
not_counted x n other = ap (λ b. cond b 1 0) (ne_eqb x n other)

total_past : (x n : ℕ) → n ≤ x → total n (λ k. cond (eqb x k) 1 0) ≡ 0
unfolding total
total_past x zero past = refl
total_past x (suc n) past = let here = not_counted x n (λ e. omega arith) in let rest = total_past x n (omega arith) in omega arith

-- a number below the bound is counted once
total_hit : (x n : ℕ) → x < n → total n (λ k. cond (eqb x k) 1 0) ≡ 1
unfolding total
total_hit x zero lt = absurd (omega arith)
total_hit x (suc n) lt =
    ⊎_elim
    (λ same. let here : ◌≡◌ {A = ℕ} (cond (eqb x n) 1 0) 1 = ap (λ b. cond b 1 0) (eq-eqb x n same) in let rest = total_past x n (omega arith) in omega arith)
    (λ other. let here = not_counted x n other in let rest = total_hit x n (omega arith) in omega arith)
    (cases_eq x n)

-- so a list of numbers below the bound is as long as its numbers are counted
pub total-occurrences : (n : ℕ) (xs : List ℕ) → ((j : ℕ) → j < length xs → get_or xs j 0 < n) → total n (λ k. occurrences k xs) ≡ length xs
total-occurrences n [] below = total-zero n
total-occurrences n (x ∷ xs) below =
    let hit = total_hit x n (below 0 (omega arith)) in
    let rest = total-occurrences n xs (λ j lt. below (suc j) (omega arith)) in
    total-add (λ k. cond (eqb x k) 1 0) (λ k. occurrences k xs) n ∙ omega arith

pub occurrences-none : (n : ℕ) (xs : List ℕ) → ((j : ℕ) → j < length xs → get_or xs j 0 ≡ n → ⊥) → occurrences n xs ≡ 0
occurrences-none n [] other = refl
occurrences-none n (x ∷ xs) other =
    let here = not_counted x n (other 0 (omega arith)) in
    let rest = occurrences-none n xs (λ j lt. other (suc j) (omega arith)) in
    omega arith

pub occurrences-take : (n m : ℕ) (xs : List ℕ) → occurrences n (take m xs) ≤ occurrences n xs
occurrences-take n zero xs = omega arith
occurrences-take n (suc m) [] = omega arith
occurrences-take n (suc m) (x ∷ xs) = let rest = occurrences-take n m xs in omega arith
