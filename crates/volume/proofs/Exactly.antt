-- Counts that come to one: exactly one thing was counted.
use Rattle.std.proofs.Common.{◌≡◌, ℕ, zero, suc, ◌+◌, ◌<◌, false, cond, eqb, List, [], ◌∷◌, length, get_or, sym, refl, ap, ◌∙◌, ⊎_elim, arith}
use Rattle.std.proofs.lemmas.Bool.{cases_Bool, cases_eq, eq-eqb, eqb-true, true≢false}
use Rattle.std.proofs.lemmas.Bool.Decides.{nat_tests}
use Rattle.volume.specs.Numbers.{occurrences, total}

-- a sum of nothing
pub total_nothing : (f : ℕ → ℕ) (n : ℕ) → total n f ≡ 0 → (k : ℕ) → k < n → f k ≡ 0
unfolding total
total_nothing f zero e k lt = absurd (omega arith)
total_nothing f (suc n) e k lt =
    ⊎_elim (λ same. ap f same ∙ omega arith) (λ other. total_nothing f n (omega arith) k (omega arith)) (cases_eq k n)

-- a sum of one: one summand is 1, and the others are 0
pub total-one : (f : ℕ → ℕ) (n : ℕ) → total n f ≡ 1 → (i : ℕ) × (i < n) × (f i ≡ 1) × ((k : ℕ) → k < n → (k ≡ i → ⊥) → f k ≡ 0)
unfolding total
total-one f zero e = absurd (omega arith)
total-one f (suc n) e =
    ⊎_elim
    (λ none.
    let below = total-one f n (omega arith) in
    (below.0, omega (arith, below.1), below.2, λ k lt other. ⊎_elim (λ last. ap f last ∙ none) (λ before. below.3 k (omega arith) other) (cases_eq k n)))
    (λ some.
    let here : f n ≡ 1 = omega arith in
    (n, omega arith, here, λ k lt other. total_nothing f n (omega arith) k (omega arith)))
    (cases_eq (f n) 0)

module _ (n : ℕ) where
  counted_here : (x rest : ℕ) → x ≡ n → cond (eqb x n) 1 0 + rest ≡ 0 → ⊥
  counted_here x rest is e = grind (arith, nat_tests)

  -- a number that does not stand in a list
  pub stands-nowhere : (xs : List ℕ) → occurrences n xs ≡ 0 → (j : ℕ) → j < length xs → get_or xs j 0 ≡ n → ⊥
  stands-nowhere [] e j lt is = omega arith
  stands-nowhere (x ∷ xs) e zero lt is = counted_here x (occurrences n xs) is e
  stands-nowhere (x ∷ xs) e (suc j) lt is = stands-nowhere xs (omega arith) j (omega arith) is

  -- a number that stands there once
  pub stands-once : (xs : List ℕ) → occurrences n xs ≡ 1 → (j : ℕ) × ((j < length xs) × (get_or xs j 0 ≡ n)) × ((k : ℕ) → k < length xs → get_or xs k 0 ≡ n → k ≡ j)
  stands-once [] e = absurd (omega arith)
  stands-once (x ∷ xs) e =
      ⊎_elim
      (λ here.
      let one : ◌≡◌ {A = ℕ} (cond (eqb x n) 1 0) 1 = ap (λ b. cond b 1 0) here in
      (0, (omega arith, eqb-true x n here), only_first (omega arith)))
      (λ later.
      let none : ◌≡◌ {A = ℕ} (cond (eqb x n) 1 0) 0 = ap (λ b. cond b 1 0) later in
      let rest = stands-once xs (omega arith) in
      (suc rest.0, (omega (arith, rest.1.0), rest.1.1), not_first later rest.0 rest.2))
      (cases_Bool (eqb x n))
    where
      only_first : occurrences n xs ≡ 0 → (k : ℕ) → k < length (x ∷ xs) → get_or (x ∷ xs) k 0 ≡ n → k ≡ 0
      only_first none zero lt is = refl
      only_first none (suc k) lt is = absurd (stands-nowhere xs none k (omega arith) is)

      not_first : eqb x n ≡ false → (j : ℕ) → ((k : ℕ) → k < length xs → get_or xs k 0 ≡ n → k ≡ j) → (k : ℕ) → k < length (x ∷ xs) → get_or (x ∷ xs) k 0 ≡ n → k ≡ suc j
      not_first later j unique zero lt is = absurd (true≢false (sym (eq-eqb x n is) ∙ later))
      not_first later j unique (suc k) lt is = ap suc (unique k (omega arith) is)
