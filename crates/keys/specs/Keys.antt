-- Keys as numbers: their product, the remainder of a candidate, their sum, and when they are orthonormal.
use Rattle.std.specs.Prelude.{◌≡◌, ℕ, ◌-◌, ◌%◌, ◌^◌, ◌<◌, ◌≤◌, Bool, true, if◌then◌else◌, ◌&&◌, List, [], ◌∷◌, length, ◌==◌, ◌≢◌, bit_and, bit_xor, count_ones, slice_index}

-- 1 for an odd number of ones, else 0.
abbrev pub parity : ℕ → ℕ
parity n = count_ones n % 2

-- The product of two keys is 1 when they share an odd number of ones, else 0.
abbrev pub product : ℕ → ℕ → ℕ
product a b = parity (bit_and a b)

-- What r becomes when each key whose product with v is 1 is added to it.
abbrev pub reduced : (v r : ℕ) → List ℕ → ℕ
reduced v r [] = r
reduced v r (u ∷ us) = reduced v (if product u v == 1 then bit_xor r u else r) us

-- The remainder of a candidate v.
abbrev pub remainder : List ℕ → ℕ → ℕ
remainder keys v = reduced v v keys

abbrev pub key_sum : List ℕ → ℕ
key_sum [] = 0
key_sum (u ∷ us) = bit_xor u (key_sum us)

-- The keys of k covers sum to the key of all covers.
abbrev pub full : ℕ → List ℕ → Bool
full k keys = key_sum keys == 2 ^ k - 1

-- v has product 0 with each of the keys.
abbrev pub orthogonal : List ℕ → ℕ → Bool
orthogonal [] v = true
orthogonal (u ∷ us) v = product u v == 0 && orthogonal us v

-- v is odd and has product 0 with each of the keys.
abbrev pub fits : List ℕ → ℕ → Bool
fits keys v = parity v == 1 && orthogonal keys v

-- v is orthonormal to the keys: it has product 1 with itself and 0 with each of them.
pub record Fits (keys : List ℕ) (v : ℕ) : Type 0 where
  pub own : product v v ≡ 1
  pub others : (i : ℕ) → i < length keys → product (slice_index keys i) v ≡ 0

-- Each key has product 1 with itself.
abbrev pub Own : List ℕ → Type 0
Own keys = (i : ℕ) → i < length keys → product (slice_index keys i) (slice_index keys i) ≡ 1

-- Each key has product 0 with every other.
abbrev pub Others : List ℕ → Type 0
Others keys = (i j : ℕ) → (i < length keys) × (j < length keys) × (i ≢ j) → product (slice_index keys i) (slice_index keys j) ≡ 0

-- Each key names only covers below k.
abbrev pub Below : ℕ → List ℕ → Type 0
Below k keys = (i : ℕ) → i < length keys → slice_index keys i < 2 ^ k

pub record Orthonormal (keys : List ℕ) : Type 0 where
  pub own : Own keys
  pub others : Others keys

-- What always holds of the keys that stand over k covers.
pub record Sound (k : ℕ) (keys : List ℕ) : Type 0 where
  pub few : length keys ≤ 16
  pub orthonormal : Orthonormal keys
  pub below : Below k keys
