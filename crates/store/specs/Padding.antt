-- Bytes as they stand in a block.
use Rattle.std.specs.Prelude.{ℕ, ◌-◌, List, ◌++◌, length, take, replicate}
use Rattle.store.specs.Stores.{Block}

-- The first 512 bytes of a text, filled up with zeros.
abbrev pub padded_to : List ℕ → Block
padded_to text = take 512 text ++ replicate (512 - length text) 0
