-- How a text lies in the blocks of a store.
use Rattle.std.specs.Prelude.{◌≡◌, ℕ, ◌<◌, ◌≤◌, false, List, [], is_ok, Ok, slice_index_or, slice_set}
use Rattle.std.specs.List.{flat_map}
use Rattle.store.specs.Stores.{Block, Mark, asked}

-- The contents lie in block n, the first from `from` on that took them.
pub record Laid (marks : List Mark) (before after : List Block) (from : ℕ) (contents : Block) (n : ℕ) : Type 0 where
  pub from_there : from ≤ n
  pub passed : (m : ℕ) → from ≤ m → m < n → is_ok (asked marks m) ≡ false
  pub taken : asked marks n ≡ Ok tt
  pub blocks : after ≡ slice_set before n contents

-- The blocks at the places, one after the other.
abbrev pub gathered : List Block → List ℕ → List ℕ
gathered blocks places = flat_map (λ n. slice_index_or blocks n []) places
