-- Blocks of covers changed by an exclusive or, and what the levels show then.
use Rattle.std.proofs.lemmas.Grind.{common_steps}
use Rattle.std.proofs.Common.{◌≡◌, ℕ, ◌<◌, ◌≤◌, true, false, cond, ◌⊎◌, List, [], length, get_or, set, sym, refl, ap, ◌∙◌, arith}
use lib.Bits.{bit_xor, xor_assoc, xor_zero_r}
use Rattle.std.proofs.lemmas.List.{get_or_past, get_or-set_same, get_or-set_other}
use Rattle.keys.specs.Field.{Field}
use Rattle.keys.specs.Vectors.{dot}
use Rattle.store.specs.Stores.{Block}
use Rattle.wallet.specs.Each.{each, byte_at, length-each, get_or-each, each-is}
use Rattle.wallet.specs.Levels.{changed, byte_sum, shown_byte, shown_block, shown, refilled}
use Rattle.wallet.specs.Places.{Covers, place, is_covered, cover_at, block_at}
use Rattle.wallet.proofs.PlaceLaws.{place-covered, cover_at-place, block_at-place, cover_at-below, block_at-below}
use Rattle.wallet.proofs.Summing.{act_none, each_same, byte_sum-same, byte_sum-xor, byte_sum-dot}
use Rattle.wallet.proofs.Xors.{xor_again}

-- Each block has 512 bytes.
abbrev pub Whole : List Block → Type 0
Whole bs = (n : ℕ) → n < length bs → length (get_or bs n []) ≡ 512

-- What byte p of store block n is changed by.
abbrev pub change_at : Covers → (ℕ → ℕ → ℕ → ℕ) → (n p : ℕ) → ℕ
change_at c change n p = cond (is_covered c n) (change (cover_at c n) (block_at c n) p) 0

module _ (c : Covers) (change : ℕ → ℕ → ℕ → ℕ) (bs : List Block) where
  abbrev pub changed_block : ℕ → Block
  changed_block n = each 512 (λ p. bit_xor (byte_at bs n p) (change_at c change n p))

  pub length-changed : length (changed c change bs) ≡ length bs
  unfolding changed
  length-changed = length-each (length bs) changed_block

  pub get_or-changed : (n : ℕ) → n < length bs → get_or (changed c change bs) n [] ≡ changed_block n
  unfolding changed
  get_or-changed n lt = get_or-each (length bs) changed_block n [] lt

  pub byte_at-changed : (n p : ℕ) → n < length bs → p < 512 → byte_at (changed c change bs) n p ≡ bit_xor (byte_at bs n p) (change_at c change n p)
  byte_at-changed n p lt in' = ap (λ b. get_or b p 0) (get_or-changed n lt) ∙ get_or-each 512 (λ p. bit_xor (byte_at bs n p) (change_at c change n p)) p 0 in'

  -- past the end there is nothing to change
  byte_at_past : (n p : ℕ) → length bs ≤ n → byte_at (changed c change bs) n p ≡ byte_at bs n p
  byte_at_past n p past = ap (λ b. get_or b p 0) (get_or_past (changed c change bs) n [] (omega (arith, length-changed)) ∙ sym (get_or_past bs n [] past))

  pub changed-is : (xs : List Block) → length xs ≡ length bs → ((n : ℕ) → n < length bs → get_or xs n [] ≡ changed_block n) → xs ≡ changed c change bs
  unfolding changed
  changed-is xs size at = each-is (length bs) changed_block xs [] size at

  -- a list is known by its bytes
  pub changed_by-bytes : (xs : List Block) → length xs ≡ length bs → Whole xs → ((n p : ℕ) → n < length bs → p < 512 → byte_at xs n p ≡ bit_xor (byte_at bs n p) (change_at c change n p)) → xs ≡ changed c change bs
  changed_by-bytes xs size whole same = changed-is xs size (λ n lt. each-is 512 (λ p. bit_xor (byte_at bs n p) (change_at c change n p)) (get_or xs n []) 0 (whole n (omega (arith, size))) (λ p lp. same n p lt lp))

  pub whole-changed : Whole (changed c change bs)
  whole-changed n lt = ap length (get_or-changed n (omega (arith, length-changed))) ∙ length-each 512 (λ p. bit_xor (byte_at bs n p) (change_at c change n p))

-- Two changes are the same on the covers.
abbrev pub Agree : Covers → (g h : ℕ → ℕ → ℕ → ℕ) → Type 0
Agree c g h = (i b p : ℕ) → i < c.count → b < c.blocks → p < 512 → g i b p ≡ h i b p

module _ (c : Covers) (g h : ℕ → ℕ → ℕ → ℕ) where
  change_at-same : Agree c g h → (n p : ℕ) → p < 512 → change_at c g n p ≡ change_at c h n p
  change_at-same same n p in' = grind (arith, common_steps, block_at-below, cover_at-below)

  pub changed-same : Agree c g h → (bs : List Block) → changed c g bs ≡ changed c h bs
  changed-same same bs = changed-is c h bs (changed c g bs) (length-changed c g bs) (λ n lt. grind (arith, common_steps, get_or-changed, each_same, change_at-same))

  change_at-both : (n p : ℕ) → bit_xor (change_at c g n p) (change_at c h n p) ≡ change_at c (λ i b q. bit_xor (g i b q) (h i b q)) n p
  change_at-both n p = elim (is_covered c n) as (λ x. bit_xor (cond x (g (cover_at c n) (block_at c n) p) 0) (cond x (h (cover_at c n) (block_at c n) p) 0) ≡ cond x (bit_xor (g (cover_at c n) (block_at c n) p) (h (cover_at c n) (block_at c n) p)) 0) [ true ↦ refl | false ↦ refl ]

  -- one change after another
  pub changed-changed : (bs : List Block) → changed c h (changed c g bs) ≡ changed c (λ i b p. bit_xor (g i b p) (h i b p)) bs
  changed-changed bs = changed_by-bytes c (λ i b p. bit_xor (g i b p) (h i b p)) bs (changed c h (changed c g bs)) (length-changed c h (changed c g bs) ∙ length-changed c g bs) (whole-changed c h (changed c g bs)) (λ n p lt lp. grind (arith, common_steps, length-changed, byte_at-changed, xor_assoc, change_at-both))

-- a change by 0 is none
pub changed-none : (c : Covers) (bs : List Block) → Whole bs → changed c (λ i b p. 0) bs ≡ bs
changed-none c bs whole = sym (changed_by-bytes c (λ i b p. 0) bs bs refl whole (λ n p lt lp. grind (arith, common_steps, xor_zero_r)))

module _ {F : Type 0} (f : Field F) (c : Covers) where
  pub length-shown : (u : ℕ → F) (bs : List Block) → length (shown f c u bs) ≡ c.blocks
  unfolding shown
  length-shown u bs = length-each c.blocks (shown_block f c u bs)

  pub get_or-shown : (u : ℕ → F) (bs : List Block) (b : ℕ) → b < c.blocks → get_or (shown f c u bs) b [] ≡ each 512 (shown_byte f c u bs b)
  unfolding shown shown_block
  get_or-shown u bs b lt = get_or-each c.blocks (shown_block f c u bs) b [] lt

  pub byte_at-shown : (u : ℕ → F) (bs : List Block) (b p : ℕ) → b < c.blocks → p < 512 → byte_at (shown f c u bs) b p ≡ shown_byte f c u bs b p
  byte_at-shown u bs b p lt in' = ap (λ x. get_or x p 0) (get_or-shown u bs b lt) ∙ get_or-each 512 (shown_byte f c u bs b) p 0 in'

  -- a level is known by its bytes
  pub shown-is : (u : ℕ → F) (bs : List Block) (xs : List Block) → length xs ≡ c.blocks → Whole xs → ((b p : ℕ) → b < c.blocks → p < 512 → shown_byte f c u bs b p ≡ byte_at xs b p) → shown f c u bs ≡ xs
  unfolding shown shown_block
  shown-is u bs xs size whole same =
      sym (each-is c.blocks (shown_block f c u bs) xs [] size
      (λ b lt. each-is 512 (shown_byte f c u bs b) (get_or xs b []) 0 (whole b (omega (arith, size))) (λ p in'. sym (same b p lt in'))))

  pub shown-same : (u : ℕ → F) (bs bs' : List Block) → ((b p : ℕ) → b < c.blocks → p < 512 → shown_byte f c u bs b p ≡ shown_byte f c u bs' b p) → shown f c u bs ≡ shown f c u bs'
  shown-same u bs bs' same =
      shown-is u bs (shown f c u bs') (length-shown u bs') (whole-shown u bs') (λ b p lt in'. same b p lt in' ∙ sym (byte_at-shown u bs' b p lt in'))
    where
      whole-shown : (u : ℕ → F) (bs : List Block) → Whole (shown f c u bs)
      whole-shown u bs b lt = ap length (get_or-shown u bs b (omega (arith, length-shown u bs))) ∙ length-each 512 (shown_byte f c u bs b)

-- Where a change is not 0 there is a block to change.
abbrev pub Reached : Covers → (ℕ → ℕ → ℕ → ℕ) → List Block → Type 0
Reached c change bs = (i b p : ℕ) → i < c.count → b < c.blocks → p < 512 → (place c i b < length bs) ⊎ (change i b p ≡ 0)

module _ {F : Type 0} (f : Field F) (c : Covers) (change : ℕ → ℕ → ℕ → ℕ) (bs : List Block) (reached : Reached c change bs) where
  pub byte_at-place : (i b p : ℕ) → i < c.count → b < c.blocks → p < 512 → byte_at (changed c change bs) (place c i b) p ≡ bit_xor (byte_at bs (place c i b) p) (change i b p)
  byte_at-place i b p li lb lp = grind (arith, common_steps, byte_at-changed, byte_at_past, place-covered, cover_at-place, block_at-place, reached, xor_zero_r)

  -- a level shows the change, summed along its key
  pub shown_byte-changed : (v : ℕ → F) (b p : ℕ) → b < c.blocks → p < 512 → shown_byte f c v (changed c change bs) b p ≡ bit_xor (shown_byte f c v bs b p) (byte_sum f c.count v (λ i. change i b p))
  unfolding shown_byte
  shown_byte-changed v b p lb lp =
      byte_sum-same f c.count v (λ i. byte_at (changed c change bs) (place c i b) p) (λ i. bit_xor (byte_at bs (place c i b) p) (change i b p)) (λ i li. byte_at-place i b p li lb lp) ∙
      byte_sum-xor f c.count v (λ i. byte_at bs (place c i b) p) (λ i. change i b p)

-- What the blocks of a level's covers are changed by when the level takes new contents.
abbrev pub along : {F : Type 0} → Field F → Covers → (ℕ → F) → List Block → List Block → ℕ → ℕ → ℕ → ℕ
along f c u new bs i b p = f.act (u i) (bit_xor (shown_byte f c u bs b p) (byte_at new b p))

module _ {F : Type 0} (f : Field F) (c : Covers) (u : ℕ → F) (new bs : List Block) (reached : Reached c (along f c u new bs) bs) where
  shown_byte-refilled : (v : ℕ → F) (b p : ℕ) → b < c.blocks → p < 512 → shown_byte f c v (refilled f c u new bs) b p ≡ bit_xor (shown_byte f c v bs b p) (f.act (dot f c.count v u) (bit_xor (shown_byte f c u bs b p) (byte_at new b p)))
  unfolding refilled
  shown_byte-refilled v b p lb lp =
      shown_byte-changed f c (along f c u new bs) bs reached v b p lb lp ∙
      ap (bit_xor (shown_byte f c v bs b p)) (byte_sum-dot f c.count v u (bit_xor (shown_byte f c u bs b p) (byte_at new b p)))

  -- the level itself shows the new contents
  pub shown-refilled : dot f c.count u u ≡ f.one → length new ≡ c.blocks → Whole new → shown f c u (refilled f c u new bs) ≡ new
  shown-refilled own size whole = grind (arith, common_steps, shown-is, shown_byte-refilled, xor_again)

  -- a level whose key has product 0 with this one's shows what it showed
  pub shown-spared : (v : ℕ → F) → dot f c.count v u ≡ f.zero → shown f c v (refilled f c u new bs) ≡ shown f c v bs
  shown-spared v other = grind (arith, common_steps, shown-same, shown_byte-refilled, xor_zero_r)

-- New contents of one block only.
module _ {F : Type 0} (f : Field F) (c : Covers) (u : ℕ → F) (bs : List Block) (b : ℕ) (contents : Block) (within : b < c.blocks) where
  abbrev pub renewed : List Block
  renewed = set (shown f c u bs) b contents

  pub renewed-here : get_or renewed b [] ≡ contents
  renewed-here = get_or-set_same (shown f c u bs) b contents [] (omega (arith, length-shown f c u bs))

  -- at other blocks old and new are the same, and nothing changes
  pub along-other : (i b' p : ℕ) → (b' ≡ b → ⊥) → b' < c.blocks → p < 512 → along f c u renewed bs i b' p ≡ 0
  along-other i b' p other lb lp = grind (arith, common_steps, act_none, byte_at-shown, get_or-set_other)
