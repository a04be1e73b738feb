-- The steps of the free list, on the superblock that holds it.
use Rattle.std.specs.Prelude.{ℕ, zero, suc, ◌+◌, ◌-◌, ◌*◌, List, [], ◌∷◌, map}
use Rattle.std.specs.List.{range_with_len}
use Rattle.store.specs.Stores.{Block}
use Rattle.layout.specs.Superblocks.{nfree_of, free_at}
use Rattle.layout.specs.Words.{with_word}

-- Giving a block back stores its number at free[nfree] and raises nfree by one.
unfoldable pub given : Block → ℕ → Block
given b n = with_word (with_word b (2 * (3 + nfree_of b)) n) 4 (nfree_of b + 1)

-- Giving back one block after the other.
unfoldable pub gives : Block → List ℕ → Block
gives b [] = b
gives b (n ∷ ns) = gives (given b n) ns

-- Taking a block lowers nfree by one ..
unfoldable pub taken : Block → Block
taken b = with_word b 4 (nfree_of b - 1)

-- .. and yields the number then at free[nfree].
unfoldable pub next_free : Block → ℕ
next_free b = free_at b (nfree_of b - 1)

-- Taking n blocks, one after the other ..
unfoldable pub takes : Block → ℕ → Block
takes b zero = b
takes b (suc n) = taken (takes b n)

-- .. yields these, in order.
unfoldable pub numbers_taken : Block → ℕ → List ℕ
numbers_taken b n = map (λ j. next_free (takes b j)) (range_with_len 0 n)
