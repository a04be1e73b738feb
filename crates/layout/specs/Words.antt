-- Words of 16 bits in a block, low byte first.
use Rattle.std.specs.Prelude.{ℕ, ◌+◌, ◌*◌, ◌/◌, ◌%◌, List, map, slice_index, slice_set}
use Rattle.std.specs.List.{range_with_len}
use Rattle.store.specs.Stores.{Block}

-- The byte at a place; past the end it is 0.
abbrev pub byte_at : Block → ℕ → ℕ
byte_at b at = slice_index b at

-- The word whose low byte is at a place.
abbrev pub word_at : Block → ℕ → ℕ
word_at b at = byte_at b at + 256 * byte_at b (at + 1)

-- The n bytes from a place on.
unfoldable pub bytes_at : ℕ → Block → ℕ → List ℕ
bytes_at n b at = map (λ j. byte_at b (at + j)) (range_with_len 0 n)

-- The n words from a place on.
unfoldable pub words_at : ℕ → Block → ℕ → List ℕ
words_at n b at = map (λ j. word_at b (at + 2 * j)) (range_with_len 0 n)

-- A block with a word written at a place.
abbrev pub with_word : Block → ℕ → ℕ → Block
with_word b at w = slice_set (slice_set b at (w % 256)) (at + 1) (w / 256)
