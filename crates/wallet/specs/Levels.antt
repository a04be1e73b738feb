-- What a level shows of a store's blocks and marks under its key, and what a write to it makes of the blocks.
use Rattle.std.specs.Prelude.{ℕ, zero, suc, Bool, true, false, if◌then◌else◌, not, ◌&&◌, List, length, is_ok, bit_xor, slice_index}
use Rattle.std.proofs.Common.{⊎_elim}
use Rattle.keys.specs.Field.{Field}
use Rattle.store.specs.Stores.{Block, Mark, live, dead, asked}
use Rattle.wallet.specs.Each.{each, byte_at}
use Rattle.wallet.specs.Places.{Covers, place, is_covered, cover_at, block_at}

-- The exclusive or of two blocks.
unfoldable pub xor_block : Block → Block → Block
xor_block a b = each 512 (λ p. bit_xor (slice_index a p) (slice_index b p))

-- The blocks with byte p of block b of cover i changed by the exclusive or with `change i b p`; blocks of no cover stay.
unfoldable pub changed : Covers → (ℕ → ℕ → ℕ → ℕ) → List Block → List Block
changed c change bs = each (length bs) (λ n. each 512 (λ p. bit_xor (byte_at bs n p) (if is_covered c n then change (cover_at c n) (block_at c n) p else 0)))

-- Whether block b of cover i is live; one past the store's end is not.
abbrev pub cover_fine : Covers → List Mark → (b i : ℕ) → Bool
cover_fine c ms b i = is_ok (asked ms (place c i b))

-- A key is a vector u with an entry for each cover.
module _ {F : Type 0} (f : Field F) where
  -- The sum over the first k places of what each entry makes of the byte there.
  abbrev pub byte_sum : ℕ → (ℕ → F) → (ℕ → ℕ) → ℕ
  byte_sum zero u bytes = 0
  byte_sum (suc k) u bytes = bit_xor (f.act (u 0) (bytes 0)) (byte_sum k (λ i. u (suc i)) (λ i. bytes (suc i)))

  -- Byte p of block b of a level: the sum over the covers of what the key's entry makes of their byte.
  unfoldable pub shown_byte : Covers → (ℕ → F) → List Block → (b p : ℕ) → ℕ
  shown_byte c u bs b p = byte_sum c.count u (λ i. byte_at bs (place c i b) p)

  unfoldable pub shown_block : Covers → (ℕ → F) → List Block → ℕ → Block
  shown_block c u bs b = each 512 (shown_byte c u bs b)

  -- The blocks of a level.
  unfoldable pub shown : Covers → (ℕ → F) → List Block → List Block
  shown c u bs = each c.blocks (shown_block c u bs)

  -- The store's blocks once the level takes new contents: to each cover is added what its entry makes of old and new together.
  unfoldable pub refilled : Covers → (ℕ → F) → List Block → List Block → List Block
  refilled c u new bs = changed c (λ i b p. f.act (u i) (bit_xor (shown_byte c u bs b p) (byte_at new b p))) bs

  -- A cover is in a key where its entry isn't 0.
  abbrev pub in_key : F → Bool
  in_key x = ⊎_elim (λ _. false) (λ _. true) (f.decides x)

  -- Cover i makes a level's block dead where it is in the key and isn't fine there.
  abbrev pub spoils : (ℕ → F) → (fine : ℕ → Bool) → ℕ → Bool
  spoils u fine i = in_key (u i) && not (fine i)

  -- The mark of the lowest cover, among so many from cover i on, that makes the block dead; live where there is none.
  abbrev pub lowest_dead : (level : ℕ) → (ℕ → F) → (fine : ℕ → Bool) → (many i : ℕ) → Mark
  lowest_dead level u fine zero i = live
  lowest_dead level u fine (suc many) i = if spoils u fine i then dead level i else lowest_dead level u fine many (suc i)

  -- A level's block is dead where a cover in its key isn't live there: its mark has the level and the lowest such cover.
  unfoldable pub level_mark : Covers → (level : ℕ) → (ℕ → F) → List Mark → ℕ → Mark
  level_mark c level u ms b = lowest_dead level u (cover_fine c ms b) c.count 0

  unfoldable pub level_marks : Covers → (level : ℕ) → (ℕ → F) → List Mark → List Mark
  level_marks c level u ms = each c.blocks (level_mark c level u ms)
