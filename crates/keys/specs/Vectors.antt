-- Vectors over a field: an entry for each place below k, sums, products and what a list of orthonormal vectors is.
use Rattle.std.specs.Prelude.{◌≡◌, ℕ, zero, suc, ◌<◌, if◌then◌else◌, ◌==◌, ◌≢◌}
use Rattle.keys.specs.Field.{Field}

module _ {F : Type 0} (f : Field F) where
  -- The sum of the first k entries.
  abbrev pub sum : ℕ → (ℕ → F) → F
  sum zero u = f.zero
  sum (suc k) u = f.add (u 0) (sum k (λ i. u (suc i)))

  -- The product of two vectors of k entries.
  abbrev pub dot : ℕ → (ℕ → F) → (ℕ → F) → F
  dot k u v = sum k (λ i. f.mul (u i) (v i))

  -- The vector that is 1 at one place.
  abbrev pub unit : ℕ → ℕ → F
  unit i p = if p == i then f.one else f.zero

  -- Of n vectors us: each has product 1 with itself and 0 with every other.
  pub record Orthonormal-vectors (k n : ℕ) (us : ℕ → ℕ → F) : Type 0 where
    pub own : (i : ℕ) → i < n → dot k (us i) (us i) ≡ f.one
    pub others : (i j : ℕ) → i < n → j < n → (i ≢ j) → dot k (us i) (us j) ≡ f.zero

  -- A further vector v is orthonormal to them.
  pub record Fits-vectors (k n : ℕ) (us : ℕ → ℕ → F) (v : ℕ → F) : Type 0 where
    pub own : dot k v v ≡ f.one
    pub others : (i : ℕ) → i < n → dot k (us i) v ≡ f.zero

  -- The remainder of v: v plus each of the vectors times its product with v.
  abbrev pub left_over : (k n : ℕ) → (ℕ → ℕ → F) → (ℕ → F) → ℕ → F
  left_over k n us v p = f.add (v p) (sum n (λ j. f.mul (dot k (us j) v) (us j p)))

  -- The vectors sum to the vector of ones.
  abbrev pub Closed : (k n : ℕ) → (ℕ → ℕ → F) → Type 0
  Closed k n us = (p : ℕ) → p < k → sum n (λ j. us j p) ≡ f.one
