-- Where the blocks of the covers lie in a store.
use Rattle.std.specs.Prelude.{ℕ, ◌+◌, ◌*◌, ◌/◌, ◌%◌, Bool, nat_lt}

-- So many covers of so many blocks each; none of none before they are laid out.
pub record Covers : Type 0 where
  pub count : ℕ
  pub blocks : ℕ

-- The store block that is block b of cover i: the covers stand end to end.
unfoldable pub place : Covers → (i b : ℕ) → ℕ
place c i b = i * c.blocks + b

-- Whether a store block belongs to a cover, to which one, and as which of its blocks.
unfoldable pub is_covered : Covers → ℕ → Bool
is_covered c n = nat_lt n (c.count * c.blocks)

unfoldable pub cover_at : Covers → ℕ → ℕ
cover_at c n = n / c.blocks

unfoldable pub block_at : Covers → ℕ → ℕ
block_at c n = n % c.blocks
