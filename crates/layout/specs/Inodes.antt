-- Inode records: where each is, and how its bytes are read and written.
use Rattle.std.specs.Prelude.{◌≡◌, ℕ, ◌+◌, ◌*◌, ◌/◌, ◌%◌, ◌<◌, Bool, not, List, [], ◌∷◌, ◌++◌, map, length, take, drop, ◌==◌, bit_and, slice_index, slice_index_or}
use Rattle.std.specs.List.{range_with_len}
use Rattle.store.specs.Stores.{Block}
use Rattle.layout.specs.Words.{byte_at, word_at, words_at}
use Rattle.layout.specs.declared.inode.Inode.{Inode}

-- The record that begins at a byte of a block: mode, link count, user, group, the size with its high byte before its
-- low word, eight addresses, and two times that nothing here reads.
abbrev pub inode_at : Block → ℕ → Inode
inode_at b at = record {
  mode = word_at b at;
  links = byte_at b (at + 2);
  user = byte_at b (at + 3);
  group = byte_at b (at + 4);
  size = 65536 * byte_at b (at + 5) + word_at b (at + 6);
  addresses = words_at 8 b (at + 8);
  times = take 8 (drop (at + 24) b);
}

-- Words as bytes, low byte first.
abbrev pub word_bytes : List ℕ → List ℕ
word_bytes [] = []
word_bytes (w ∷ ws) = (w % 256) ∷ ((w / 256) ∷ word_bytes ws)

-- The first eight of a list, 0 where it is shorter.
abbrev pub eight : List ℕ → List ℕ
eight xs = map (λ j. slice_index xs j) (range_with_len 0 8)

-- The bytes of a record, in the same order.
abbrev pub inode_bytes : Inode → List ℕ
inode_bytes i =
    word_bytes (i.mode ∷ []) ++ ((i.links ∷ (i.user ∷ (i.group ∷ ((i.size / 65536 % 256) ∷ word_bytes ((i.size % 65536) ∷ []))))) ++ (word_bytes (eight i.addresses) ++ eight i.times))

-- A record whose parts have their places in the bytes: a size of 24 bits, eight addresses, eight bytes of times.
pub record Recorded (i : Inode) : Type 0 where
  pub size_fits : i.size < 16777216
  pub addresses_long : length i.addresses ≡ 8
  pub times_long : length i.times ≡ 8

-- Inode i, from 1 on, is in this block, ..
abbrev pub inode_block : ℕ → ℕ
inode_block i = (i + 31) / 16

-- .. from this byte on.
abbrev pub inode_place : ℕ → ℕ
inode_place i = 32 * ((i + 31) % 16)

-- Inode i of a volume.
abbrev pub inode_of : List Block → ℕ → Inode
inode_of v i = inode_at (slice_index_or v (inode_block i) []) (inode_place i)

-- An inode is allocated when its mode has the bit 0x8000.
abbrev pub allocated : Inode → Bool
allocated i = not (bit_and i.mode 0x8000 == 0)

-- The blocks that a file of that size takes.
abbrev pub blocks_for : ℕ → ℕ
blocks_for size = (size + 511) / 512
