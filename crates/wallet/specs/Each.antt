-- Lists by their places: what stands at each number below a length.
use Rattle.std.specs.Prelude.{◌≡◌, ℕ, ◌<◌, List, [], map, length, slice_index, slice_index_or}
use Rattle.std.proofs.Common.{arith}
use Rattle.std.proofs.lemmas.List.FromFn.{length-map-range_with_len, get_or-map-range_with_len, fill_by_all}
use Rattle.std.specs.List.{range_with_len}
use Rattle.store.specs.Stores.{Block}

-- The list of g 0 to g (n - 1).
unfoldable pub each : {X : Type 0} → ℕ → (ℕ → X) → List X
each n g = map g (range_with_len 0 n)

-- Byte p of block n.
abbrev pub byte_at : List Block → ℕ → ℕ → ℕ
byte_at bs n p = slice_index (slice_index_or bs n []) p

module _ {X : Type 0} (n : ℕ) (g : ℕ → X) where
  pub length-each : length (each n g) ≡ n
  unfolding each
  length-each = length-map-range_with_len g 0 n

  pub get_or-each : (i : ℕ) (d : X) → i < n → slice_index_or (each n g) i d ≡ g i
  unfolding each
  get_or-each i d lt = get_or-map-range_with_len g 0 n i i d lt (omega arith)

  -- a list is known by what stands at its places
  pub each-is : (xs : List X) (d : X) → length xs ≡ n → ((i : ℕ) → i < n → slice_index_or xs i d ≡ g i) → xs ≡ each n g
  unfolding each
  each-is xs d size at = fill_by_all g xs n d size at
