-- Words and runs of bytes written into a block.
use borrow.Rule.Slice.PartMut.{put_mid}
use Rattle.std.proofs.Common.{◌≡◌, ℕ, ◌+◌, ◌/◌, ◌%◌, ◌<◌, List, ◌++◌, length, take, drop, set, ap, ◌∙◌, arith}
use Rattle.std.proofs.lemmas.List.{length-set, get_or-set_same, get_or-set_other, drop-drop}
use Rattle.store.specs.Stores.{Block}
use Rattle.layout.specs.Words.{byte_at, word_at, with_word}
use Rattle.allotment.specs.Records.{with_bytes}

module _ (b : Block) (at w : ℕ) where
  pub length-with_word : length (with_word b at w) ≡ length b
  length-with_word = length-set (set b at (w % 256)) (at + 1) (w / 256) ∙ length-set b at (w % 256)

  pub word_at-same : at + 1 < length b → word_at (with_word b at w) at ≡ w
  word_at-same within =
      let long = length-set b at (w % 256) in
      let low : byte_at (with_word b at w) at ≡ w % 256 = get_or-set_other (set b at (w % 256)) (at + 1) at (w / 256) 0 (λ e. omega arith) ∙ get_or-set_same b at (w % 256) 0 (omega arith) in
      let high : byte_at (with_word b at w) (at + 1) ≡ w / 256 = get_or-set_same (set b at (w % 256)) (at + 1) (w / 256) 0 (omega arith) in
      omega arith

  byte_at_other : (k : ℕ) → (k ≡ at → ⊥) → (k ≡ at + 1 → ⊥) → byte_at (with_word b at w) k ≡ byte_at b k
  byte_at_other k low high = get_or-set_other (set b at (w % 256)) (at + 1) k (w / 256) 0 high ∙ get_or-set_other b at k (w % 256) 0 low

  -- a word that shares no byte with it stays
  pub word_at-other : (k : ℕ) → (k ≡ at → ⊥) → (k + 1 ≡ at → ⊥) → (k ≡ at + 1 → ⊥) → word_at (with_word b at w) k ≡ word_at b k
  word_at-other k same before behind =
      let low = byte_at_other k same behind in
      let high = byte_at_other (k + 1) before (λ e. same (omega arith)) in
      omega arith

-- a write to a part of the block
pub put-with_bytes : (b : Block) (at k : ℕ) (part bytes : List ℕ) → part ≡ bytes → k ≡ length bytes → put_mid at k b part ≡ with_bytes b at bytes
unfolding with_bytes
put-with_bytes b at k part bytes is size =
    ap (λ ys. take at b ++ (ys ++ drop k (drop at b))) is ∙ ap (λ rest. take at b ++ (bytes ++ rest)) (drop-drop k at b ∙ ap (λ m. drop (at + m) b) size)
