-- What a plain store means: the whole blocks of a memory, some of them condemned.
use Rattle.std.specs.Prelude.{◌≡◌, ℕ, ◌*◌, ◌/◌, ◌<◌, ◌≤◌, min, List, [], map, length, take, drop, slice_index_or, slice_set, refl}
use Rattle.std.proofs.Common.{sym, ap, ◌∙◌, arith}
use Rattle.std.specs.List.{range_with_len}
use Rattle.std.proofs.lemmas.List.FromFn.{length-map-range_with_len, get_or-map-range_with_len}
use Rattle.std.proofs.lemmas.List.{length-take, length-drop}
use Rattle.std.specs.Borrow.{GName}
use Rattle.store.specs.declared.plain.Plain.{Plain}
use Rattle.store.specs.Condemned.{listed, marked, length_marked}
use Rattle.store.specs.Stores.{Block, Mark, Laws}

-- How many blocks a memory of that length shows: the whole ones, up to the greatest number.
abbrev pub whole_blocks : ℕ → ℕ
whole_blocks len = min (len / 512) 1048576

-- Block n of a memory: its bytes from 512·n to 512·n + 511.
abbrev pub block_of : List ℕ → ℕ → Block
block_of bytes n = take 512 (drop (512 * n) bytes)

-- The blocks that a memory shows.
unfoldable pub cut : List ℕ → List Block
cut bytes = map (block_of bytes) (range_with_len 0 (whole_blocks (length bytes)))

pub length_cut : (bytes : List ℕ) → length (cut bytes) ≡ whole_blocks (length bytes)
unfolding cut
length_cut bytes = length-map-range_with_len (block_of bytes) 0 (whole_blocks (length bytes))

pub get_or_cut : (bytes : List ℕ) (n : ℕ) (b : Block) → n < whole_blocks (length bytes) → slice_index_or (cut bytes) n b ≡ block_of bytes n
unfolding cut
get_or_cut bytes n b within = get_or-map-range_with_len (block_of bytes) 0 (whole_blocks (length bytes)) n n b within (omega arith)

-- a block that is shown has all its bytes
pub length_block_of : (bytes : List ℕ) (n : ℕ) → n < whole_blocks (length bytes) → length (block_of bytes n) ≡ 512
length_block_of bytes n within = simp (length-take, length-drop) (omega arith)

-- The bytes past the blocks.
abbrev pub tail : List ℕ → List ℕ
tail bytes = drop (512 * whole_blocks (length bytes)) bytes

-- The marks of the blocks that a memory shows, from the numbers condemned.
abbrev pub plain_marks : List ℕ → List ℕ → List Mark
plain_marks condemned bytes = marked condemned (whole_blocks (length bytes))

module _ (condemned bytes : List ℕ) where
  pub plain_paired : length (plain_marks condemned bytes) ≡ length (cut bytes)
  plain_paired = length_marked condemned (whole_blocks (length bytes)) ∙ sym (length_cut bytes)

  pub plain_bounded : length (cut bytes) ≤ 1048576
  plain_bounded = omega (arith, length_cut bytes)

  pub plain_sized : (n : ℕ) → n < length (cut bytes) → length (slice_index_or (cut bytes) n []) ≡ 512
  plain_sized n within =
      let inside : n < whole_blocks (length bytes) = omega (arith, length_cut bytes) in
      ap length (get_or_cut bytes n [] inside) ∙ length_block_of bytes n inside

-- the marks depend on the condemned numbers and the length alone
pub marks_kept : (xs ys bytes after : List ℕ) → ys ≡ xs → length after ≡ length bytes → plain_marks ys after ≡ plain_marks xs bytes
marks_kept xs ys bytes after same len = ap (λ zs. marked zs (whole_blocks (length after))) same ∙ ap (λ n. marked xs (whole_blocks n)) len

-- A write of block n leads from one state of a memory to another: it makes that block equal to the contents and leaves every other byte.
pub record Overwritten (n : ℕ) (contents : Block) (before after : List ℕ) : Type 0 where
  pub blocks : cut after ≡ slice_set (cut before) n contents
  pub len : length after ≡ length before
  pub rest : tail after ≡ tail before

abbrev pub plain_condemned : {M : Type 0} → Plain M → List ℕ
plain_condemned p = listed p.condemned

-- A store over a memory of any kind: `items` are its bytes, and `reference` names the caller's reference to it, if it is the caller's.
module _ {M : Type 0} (items : M → List ℕ) where
  abbrev pub plain_bytes : Plain M → List ℕ
  plain_bytes p = items p.memory

  abbrev pub shown_blocks : Plain M → List Block
  shown_blocks p = cut (plain_bytes p)

  abbrev pub shown_marks : Plain M → List Mark
  shown_marks p = plain_marks (plain_condemned p) (plain_bytes p)

-- Puts leave a plain store over the same memory, of the same length, with the bytes past the blocks and the condemned blocks as they were.
pub record PlainMoved {M : Type 0} (items : M → List ℕ) (reference : M → GName) (p q : Plain M) : Type 0 where
  pub memory : reference q.memory ≡ reference p.memory
  pub len : length (items q.memory) ≡ length (items p.memory)
  pub rest : tail (items q.memory) ≡ tail (items p.memory)
  pub same : plain_condemned q ≡ plain_condemned p

module _ {M : Type 0} (items : M → List ℕ) (reference : M → GName) where
  pub plain_laws : Laws (shown_blocks items) (shown_marks items) (PlainMoved items reference)
  plain_laws = record {
    paired = λ p. plain_paired (plain_condemned p) (plain_bytes items p);
    bounded = λ p. plain_bounded (plain_condemned p) (plain_bytes items p);
    sized = λ p. plain_sized (plain_condemned p) (plain_bytes items p);
    stays = λ p. record { memory = refl; len = refl; rest = refl; same = refl };
    joins = λ p q r a b. record { memory = b.memory ∙ a.memory; len = b.len ∙ a.len; rest = b.rest ∙ a.rest; same = b.same ∙ a.same };
    keeps = λ p q go. marks_kept (plain_condemned p) (plain_condemned q) (plain_bytes items p) (plain_bytes items q) go.same go.len;
  }
