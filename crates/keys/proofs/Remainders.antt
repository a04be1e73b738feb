-- Remainders of vectors, and when a further orthonormal vector is to be had, over any field in which 1 + 1 is 0.
use Rattle.std.proofs.Common.{◌≡◌, ℕ, zero, suc, ◌<◌, eqb, ◌⊎◌, sym, refl, ap, ◌∙◌, ap₂, inl, inr, ⊎_elim, arith}
use Rattle.std.proofs.lemmas.Bool.{eq-eqb, ne_eqb, cond-true, cond-false}
use Rattle.keys.specs.Algebra.{KeyAlgebra}
use Rattle.keys.specs.Field.{Field}
use Rattle.keys.specs.Vectors.{sum, dot, unit, Orthonormal-vectors, Fits-vectors, left_over, Closed}
use Rattle.keys.proofs.Sums.{one-mul, mul-zero, same_from-sum, one-from_square, sum_same, sum-none, sum-single, sum-add, sum-mul, sum-swap, sum-square, dot-comm, dot-add, dot-mul, dot-sum}

module _ {F : Type 0} (f : Field F) where
  -- the product of a vector with itself is the square of the sum of its entries
  pub dot-self : (k : ℕ) (u : ℕ → F) → dot f k u u ≡ f.mul (sum f k u) (sum f k u)
  dot-self k u = sum-square f k u

  -- the product with a unit vector is the entry
  pub dot-unit : (k i : ℕ) (u : ℕ → F) → i < k → dot f k u (unit f i) ≡ u i
  dot-unit k i u lt =
      sum-single f k i _ lt
      (λ p below other. ap (f.mul (u p)) (cond-false _ f.one f.zero (ne_eqb p i other)) ∙ mul-zero f (u p)) ∙
      ap (f.mul (u i)) (cond-true (eqb i i) f.one f.zero (eq-eqb i i refl)) ∙ f.mul-one (u i)

  -- a unit vector's entries sum to 1
  pub sum-unit : (k i : ℕ) → i < k → sum f k (unit f i) ≡ f.one
  sum-unit k i lt =
      sum-single f k i (unit f i) lt (λ p below other. cond-false (eqb p i) f.one f.zero (ne_eqb p i other)) ∙
      cond-true (eqb i i) f.one f.zero (eq-eqb i i refl)

  -- either every entry is 1 or some entry is not
  pub ones_or-place : (k : ℕ) (u : ℕ → F) → ((i : ℕ) → i < k → u i ≡ f.one) ⊎ ((i : ℕ) × (i < k) × (u i ≡ f.one → ⊥))
  ones_or-place zero u = inl (λ i lt. absurd (omega arith))
  ones_or-place (suc k) u =
      ⊎_elim
      (λ z.
      ⊎_elim
      (λ all. inl (first_and_rest (sym (same_from-sum f (u 0) f.one z)) all))
      (λ place. inr (suc place.0, omega (arith, place.1), place.2))
      (ones_or-place k (λ i. u (suc i))))
      (λ other. inr (0, omega arith, λ e. other (ap (λ x. f.add x f.one) e ∙ f.add_self f.one)))
      (f.decides (f.add (u 0) f.one))
    where
      first_and_rest : u 0 ≡ f.one → ((i : ℕ) → i < k → u (suc i) ≡ f.one) → (i : ℕ) → i < suc k → u i ≡ f.one
      first_and_rest e h zero lt = e
      first_and_rest e h (suc i) lt = h i (omega arith)

  module _ (k n : ℕ) (us : ℕ → ℕ → F) where
    -- if the vectors sum to ones, what is orthogonal to all of them has product 0 with itself
    pub closed_none : Closed f k n us → (v : ℕ → F) → Fits-vectors f k n us v → ⊥
    closed_none closed v fits =
        f.one_zero (sym fits.own ∙ dot-self k v ∙ ap (λ x. f.mul x x) entries ∙ mul-zero f f.zero)
      where
        entries : sum f k v ≡ f.zero
        entries =
            sum_same f k v _
            (λ p lt. sym (f.mul-one (v p)) ∙ ap (f.mul (v p)) (sym (closed p lt) ∙ sum_same f n _ _ (λ j below. sym (one-mul f (us j p))))) ∙
            dot-sum f k n v _ us ∙
            sum-none f n _ (λ j below. ap (f.mul f.one) (dot-comm f k v (us j) ∙ fits.others j below) ∙ mul-zero f f.one)

    module _ (orthonormal : Orthonormal-vectors f k n us) where
      -- the remainder is orthogonal to every one of the vectors
      pub left_over_orthogonal : (v : ℕ → F) (m : ℕ) → m < n → dot f k (us m) (left_over f k n us v) ≡ f.zero
      left_over_orthogonal v m lt =
          dot-add f k (us m) v _ ∙
          ap (f.add (dot f k (us m) v))
          (dot-sum f k n (us m) _ us ∙
          sum-single f n m _ lt
          (λ j below other. ap (f.mul (dot f k (us j) v)) (orthonormal.others m j lt below (λ e. other (sym e))) ∙ mul-zero f (dot f k (us j) v)) ∙
          ap (f.mul (dot f k (us m) v)) (orthonormal.own m lt) ∙ f.mul-one (dot f k (us m) v)) ∙
          f.add_self (dot f k (us m) v)

      -- so it is orthonormal to them when its product with itself is 1
      pub left_over_fits : (v : ℕ → F) → dot f k (left_over f k n us v) (left_over f k n us v) ≡ f.one → Fits-vectors f k n us (left_over f k n us v)
      left_over_fits v e = record { own = e; others = left_over_orthogonal v }

      -- the remainder of unit vector i has as sum of its entries 1 plus entry i of the sum of the vectors
      sum-left_over : (i : ℕ) → i < k → sum f k (left_over f k n us (unit f i)) ≡ f.add f.one (sum f n (λ j. us j i))
      sum-left_over i lt =
          sum-add f k (unit f i) _ ∙
          ap₂ f.add (sum-unit k i lt)
          (sum-swap f k n _ ∙
          sum_same f n _ _
          (λ j below.
          sum-mul f k (dot f k (us j) (unit f i)) (us j) ∙
          ap₂ f.mul (dot-unit k i (us j) lt) (one-from_square f (sum f k (us j)) (sym (dot-self k (us j)) ∙ orthonormal.own j below)) ∙
          f.mul-one (us j i)))

      -- a remainder whose entries do not sum to 0 is orthonormal to the vectors once it is divided by that sum
      pub divided_fits : (v : ℕ → F) → (sum f k (left_over f k n us v) ≡ f.zero → ⊥) → Fits-vectors f k n us (λ p. f.mul (f.inv (sum f k (left_over f k n us v))) (left_over f k n us v p))
      divided_fits v some =
          let r = left_over f k n us v in
          let c = sum f k r in
          let unity : f.mul (f.inv c) c ≡ f.one = f.mul_comm (f.inv c) c ∙ f.mul-inv c some in
          record {
            own =
                dot-self k _ ∙ ap (λ x. f.mul x x) (sum-mul f k (f.inv c) r ∙ unity) ∙ f.mul-one f.one;
            others = λ m lt. dot-mul f k (f.inv c) (us m) r ∙ ap (f.mul (f.inv c)) (left_over_orthogonal v m lt) ∙ mul-zero f (f.inv c);
          }

      -- where the sum of the vectors is not 1, the remainder of that unit vector has a sum other than 0
      pub unit-left_over : (i : ℕ) → i < k → (sum f n (λ j. us j i) ≡ f.one → ⊥) → sum f k (left_over f k n us (unit f i)) ≡ f.zero → ⊥
      unit-left_over i lt differs e = differs (same_from-sum f f.one _ (sym (sum-left_over i lt) ∙ e))

      -- the vectors sum to ones, or a further vector is orthonormal to all of them
      pub closed_or_fits : Closed f k n us ⊎ ((v : ℕ → F) × Fits-vectors f k n us v)
      closed_or_fits =
          ⊎_elim inl
          (λ place. inr (_, divided_fits (unit f place.0) (unit-left_over place.0 place.1 place.2)))
          (ones_or-place k _)

-- all of it, over any such field
pub key_algebra : {F : Type 0} (f : Field F) → KeyAlgebra f
key_algebra f = record {
  own_product = dot-self f;
  orthogonal = left_over_orthogonal f;
  fits = left_over_fits f;
  divided = divided_fits f;
  none = closed_none f;
  some = λ k n us orthonormal not-closed. ⊎_elim (λ closed. absurd (not-closed closed)) (λ found. found) (closed_or_fits f k n us orthonormal);
}
