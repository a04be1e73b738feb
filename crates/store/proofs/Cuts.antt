-- A write over one block's bytes of a memory, and what the memory's blocks are then.
use Rattle.std.proofs.Common.{◌≡◌, ℕ, ◌+◌, ◌-◌, ◌*◌, ◌<◌, ◌≤◌, List, [], length, get_or, take, drop, set, replicate, sym, ap, ◌∙◌, ⊎_elim, arith, rules}
use borrow.Rule.Slice.PartMut.{put_mid}
use Rattle.std.proofs.lemmas.List.{places, ext_get_or, get_or-take, get_or-drop, length-set, get_or-set_same, get_or-set_other, get_or-replicate, length-replicate, drop-replicate, take-replicate}
use Rattle.std.proofs.lemmas.Slice.{drop-put_mid, between-put_mid}
use Rattle.std.proofs.lemmas.Bool.{cases_order, cases_eq}
use Rattle.store.specs.Plain.{whole_blocks, block_of, cut, tail, length_cut, get_or_cut, length_block_of}
use Rattle.store.specs.Stores.{Block}

module _ {X : Type 0} (a k : ℕ) (xs ys : List X) (fits : a + k ≤ length xs) (size : length ys ≡ k) where
  pub length-put_mid : length (put_mid a k xs ys) ≡ length xs
  length-put_mid = search (rules, places)

  get_or-put_mid-below : (j : ℕ) (d : X) → j < a → get_or (put_mid a k xs ys) j d ≡ get_or xs j d
  get_or-put_mid-below j d below = search (rules, places)

  get_or-put_mid_above : (j : ℕ) (d : X) → a + k ≤ j → get_or (put_mid a k xs ys) j d ≡ get_or xs j d
  get_or-put_mid_above j d above = search (rules, places)

module _ (bytes : List ℕ) (n k : ℕ) (b : Block) (within : n < whole_blocks (length bytes)) (size : length b ≡ 512) (whole : k ≡ 512) where
  fits : 512 * n + k ≤ length bytes
  fits = omega arith

  -- the memory keeps its length
  pub length-put : length (put_mid (512 * n) k bytes b) ≡ length bytes
  length-put = length-put_mid (512 * n) k bytes b fits (size ∙ sym whole)

  -- the block is what was written
  block_same : block_of (put_mid (512 * n) k bytes b) n ≡ b
  block_same =
      let step : 512 ≡ (512 * n + 512) - 512 * n = omega arith in
      ap (λ j. take j (drop (512 * n) (put_mid (512 * n) k bytes b))) step ∙ between-put_mid (512 * n) k bytes b (512 * n + 512) (omega (arith, fits)) (size ∙ step)

  -- a byte outside the block is as it was
  byte_other : (m i : ℕ) → (m ≡ n → ⊥) → i < 512 → get_or (put_mid (512 * n) k bytes b) (512 * m + i) 0 ≡ get_or bytes (512 * m + i) 0
  byte_other m i other lt =
      ⊎_elim (λ same. absurd (other same)) (⊎_elim
      (λ below. get_or-put_mid-below (512 * n) k bytes b fits (size ∙ sym whole) (512 * m + i) 0 (omega arith))
      (λ above. get_or-put_mid_above (512 * n) k bytes b fits (size ∙ sym whole) (512 * m + i) 0 (omega arith)))
      (cases_order m n)

  -- every other block is as it was
  block_other : (m : ℕ) → m < whole_blocks (length bytes) → (m ≡ n → ⊥) → block_of (put_mid (512 * n) k bytes b) m ≡ block_of bytes m
  block_other m inside other =
      let old = length_block_of bytes m inside in
      let new = length_block_of (put_mid (512 * n) k bytes b) m (omega (arith, length-put)) in
      ext_get_or 0 (block_of (put_mid (512 * n) k bytes b) m) (block_of bytes m) (new ∙ sym old)
      (λ i lt.
      let below : i < 512 = omega arith in
      get_or-take 512 (drop (512 * m) (put_mid (512 * n) k bytes b)) i 0 below ∙ get_or-drop (512 * m) (put_mid (512 * n) k bytes b) i 0 ∙
      byte_other m i other below ∙ sym (get_or-take 512 (drop (512 * m) bytes) i 0 below ∙ get_or-drop (512 * m) bytes i 0))

  pub cut-put : cut (put_mid (512 * n) k bytes b) ≡ set (cut bytes) n b
  cut-put =
      let count = length_cut bytes in
      let count' = length_cut (put_mid (512 * n) k bytes b) in
      let kept = length-put in
      let set-count = length-set (cut bytes) n b in
      ext_get_or [] (cut (put_mid (512 * n) k bytes b)) (set (cut bytes) n b) (count' ∙ ap whole_blocks kept ∙ sym (set-count ∙ count))
      (λ m lt.
      let inside : m < whole_blocks (length bytes) = omega arith in
      get_or_cut (put_mid (512 * n) k bytes b) m [] (omega arith) ∙
      ⊎_elim
      (λ same. ap (block_of (put_mid (512 * n) k bytes b)) same ∙ block_same ∙ sym (ap (λ j. get_or (set (cut bytes) n b) j []) same ∙ get_or-set_same (cut bytes) n b [] (omega arith)))
      (λ other. block_other m inside other ∙ sym (get_or-set_other (cut bytes) n m b [] other ∙ get_or_cut bytes m [] inside))
      (cases_eq m n))

  -- and so are the bytes past the blocks
  pub tail-put : tail (put_mid (512 * n) k bytes b) ≡ tail bytes
  tail-put =
      ap (λ len. drop (512 * whole_blocks len) (put_mid (512 * n) k bytes b)) length-put ∙ drop-put_mid (512 * n) k bytes b (512 * whole_blocks (length bytes)) (omega arith) (omega (arith, fits)) (size ∙ sym whole)

-- a memory of zeros shows blocks of zeros
pub cut-zeros : (k : ℕ) → k ≤ 1048576 → cut (replicate (512 * k) 0) ≡ replicate k (replicate 512 0)
cut-zeros k most =
    let long = length-replicate {A = ℕ} (512 * k) 0 in
    let count = length_cut (replicate (512 * k) 0) in
    let blocks = length-replicate {A = Block} k (replicate 512 0) in
    ext_get_or [] (cut (replicate (512 * k) 0)) (replicate k (replicate 512 0)) (omega arith)
    (λ n lt.
    get_or_cut (replicate (512 * k) 0) n [] (omega arith) ∙ ap (take 512) (drop-replicate {X = ℕ} (512 * n) (512 * k) 0) ∙ take-replicate {X = ℕ} 512 (512 * k - 512 * n) 0 (omega arith) ∙
    sym (get_or-replicate {A = Block} k n (replicate 512 0) [] (omega arith)))
