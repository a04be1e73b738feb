-- The contents of a file, block by block.
use Rattle.std.proofs.Common.{◌≡◌, ℕ, suc, ◌+◌, ◌-◌, ◌*◌, ◌<◌, min, List, [], ◌∷◌, ◌++◌, length, get_or, take, drop, replicate, set, sym, refl, ap, ◌∙◌, ⊎_elim, arith, append-nil}
use Rattle.std.proofs.Math.Seq.{take-append_seam, drop-append_seam}
use Rattle.std.proofs.lemmas.List.{length-drop, length-append, take_all, drop-drop, get_or-drop, nil_from_length}
use Rattle.std.proofs.lemmas.Bool.{cases_lt}
use Rattle.std.proofs.Math.ListN.{drop_of_length-le}
use Rattle.store.specs.Stores.{Block}
use Rattle.layout.specs.Inodes.{blocks_for}
use Rattle.store.specs.Padding.{padded_to}
use Rattle.allotment.specs.Volumes.{contents_block, laid}

module _ (v : List Block) (numbers contents : List ℕ) where
  pub laid_none : laid v numbers contents 0 ≡ v
  unfolding laid
  laid_none = refl

  -- one block more
  pub laid_more : (j : ℕ) → set (laid v numbers contents j) (get_or numbers j 0) (contents_block contents j) ≡ laid v numbers contents (j + 1)
  unfolding laid
  laid_more j = let e : suc j ≡ j + 1 = omega arith in ap (laid v numbers contents) e

-- the head of what is left of a list is its next item
pub next_item : (xs rest left : List ℕ) (k x : ℕ) → rest ≡ drop k xs → rest ≡ x ∷ left → (k < length xs) × (x ≡ get_or xs k 0) × (left ≡ drop (k + 1) xs)
next_item xs rest left k x is split =
    let size = ap length (sym is ∙ split) in
    let item : get_or (drop k xs) 0 0 ≡ x = ap (λ ys. get_or ys 0 0) (sym is ∙ split) in
    let next : k + 0 ≡ k = omega arith in (
      omega (arith, length-drop k xs),
      sym item ∙ get_or-drop k xs 0 0 ∙ ap (λ i. get_or xs i 0) next,
      ap (drop 1) (sym split ∙ is) ∙ drop-drop 1 k xs,
    )

-- the part of the contents that is cut off next, where k parts have been cut off
module _ (contents rest part left : List ℕ) (k : ℕ) (is : rest ≡ drop (512 * k) contents) (split : rest ≡ part ++ left) (size : length part ≡ min 512 (length rest)) where
  -- it is the first 512 bytes of the rest, or all of them
  cut : (take 512 rest ≡ part) × (drop 512 rest ≡ left)
  cut =
      let sum = ap length split ∙ length-append part left in
      ⊎_elim
      (λ short.
      let none : left ≡ [] = nil_from_length left (omega arith) in
      let all : part ≡ rest = sym (append-nil part) ∙ ap (λ xs. part ++ xs) (sym none) ∙ sym split in
      (take_all 512 rest (omega arith) ∙ sym all, drop_of_length-le rest {i = 512} (omega arith) ∙ sym none))
      (λ long.
      let full : 512 ≡ length part = omega arith in (
        ap (take 512) split ∙ ap (λ n. take n (part ++ left)) full ∙ take-append_seam part left,
        ap (drop 512) split ∙ ap (λ n. drop n (part ++ left)) full ∙ drop-append_seam part left,
      ))
      (cases_lt (length rest) 512)

  pub next_rest : left ≡ drop (512 * (k + 1)) contents
  next_rest = let more : 512 * k + 512 ≡ 512 * (k + 1) = omega arith in sym cut.1 ∙ ap (drop 512) is ∙ drop-drop 512 (512 * k) contents ∙ ap (λ n. drop n contents) more

  pub next_part : padded_to part ≡ contents_block contents k
  unfolding contents_block
  next_part =
      ap (λ xs. xs ++ replicate (512 - length part) 0) (take_all 512 part (omega (arith, size)))
      ∙ ap (λ xs. xs ++ replicate (512 - length xs) 0) (sym cut.0 ∙ ap (take 512) is)

  pub next_few : 0 < length rest → k < blocks_for (length contents)
  next_few some = let long = ap length is in omega (arith, length-drop (512 * k) contents)
