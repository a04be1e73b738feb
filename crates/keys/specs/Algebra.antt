-- What holds of orthonormal vectors, remainders and sums over a field in which 1 + 1 is 0.
use Rattle.std.specs.Prelude.{◌≡◌, ℕ, ◌<◌, ◌≢◌}
use Rattle.keys.specs.Field.{Field}
use Rattle.keys.specs.Vectors.{sum, dot, left_over, Orthonormal-vectors, Fits-vectors, Closed}

pub record KeyAlgebra {F : Type 0} (f : Field F) : Type 0 where
  -- A vector's product with itself is the square of the sum of its entries.
  pub own_product : (k : ℕ) (v : ℕ → F) → dot f k v v ≡ f.mul (sum f k v) (sum f k v)
  -- The remainder is orthogonal to each of the vectors.
  pub orthogonal : (k n : ℕ) (us : ℕ → ℕ → F) → Orthonormal-vectors f k n us → (v : ℕ → F) (m : ℕ) → m < n → dot f k (us m) (left_over f k n us v) ≡ f.zero
  -- So it is orthonormal to them if, and by definition only if, its product with itself is 1.
  pub fits : (k n : ℕ) (us : ℕ → ℕ → F) → Orthonormal-vectors f k n us → (v : ℕ → F) → dot f k (left_over f k n us v) (left_over f k n us v) ≡ f.one → Fits-vectors f k n us (left_over f k n us v)
  -- Where its entries do not sum to 0 it is orthonormal to them once it is divided by that sum.
  pub divided : (k n : ℕ) (us : ℕ → ℕ → F) → Orthonormal-vectors f k n us → (v : ℕ → F) → (sum f k (left_over f k n us v) ≢ f.zero) → Fits-vectors f k n us (λ p. f.mul (f.inv (sum f k (left_over f k n us v))) (left_over f k n us v p))
  -- No vector is orthonormal to vectors that sum to ones.
  pub none : (k n : ℕ) (us : ℕ → ℕ → F) → Closed f k n us → (v : ℕ → F) → Fits-vectors f k n us v → ⊥
  -- Some vector is orthonormal to vectors that do not.
  pub some : (k n : ℕ) (us : ℕ → ℕ → F) → Orthonormal-vectors f k n us → (Closed f k n us → ⊥) → (v : ℕ → F) × Fits-vectors f k n us v
