-- Where the blocks of the covers lie: each has a place of its own, and its place tells which it is.
use Rattle.std.proofs.Common.{◌≡◌, ℕ, ◌+◌, ◌*◌, ◌<◌, ◌≤◌, true, false, ap, ◌∙◌, ⊎_elim, mul-zero, arith}
use Rattle.std.proofs.lemmas.Nat.{mul-add-lt, div-mul-add, mod-mul-add, div-add-mod', div_below, mod_below}
use Rattle.std.proofs.lemmas.Bool.{lt-ltb, le-ltb, ltb-true, cases_lt}
use Rattle.wallet.specs.Places.{Covers, place, is_covered, cover_at, block_at}

module _ (c : Covers) (i b : ℕ) (inside : b < c.blocks) where
  pub place-covered : i < c.count → is_covered c (place c i b) ≡ true
  unfolding place is_covered
  place-covered lt = lt-ltb (i * c.blocks + b) (c.count * c.blocks) (omega (arith, mul-add-lt i c.blocks b c.count lt inside))

  pub cover_at-place : cover_at c (place c i b) ≡ i
  unfolding place cover_at
  cover_at-place = div-mul-add i c.blocks b inside

  pub block_at-place : block_at c (place c i b) ≡ b
  unfolding place block_at
  block_at-place = mod-mul-add i c.blocks b inside

module _ (c : Covers) (n : ℕ) (covered : is_covered c n ≡ true) where
  pub below_all : n < c.count * c.blocks
  unfolding is_covered
  below_all = ltb-true n (c.count * c.blocks) covered

  some_blocks : 0 < c.blocks
  some_blocks =
      ⊎_elim (λ pos. pos)
      (λ none. let z : c.blocks ≡ 0 = omega arith in let e : c.count * c.blocks ≡ 0 = ap (λ w. c.count * w) z ∙ mul-zero c.count in absurd (omega (arith, below_all)))
      (cases_lt 0 c.blocks)

  pub cover_at-below : cover_at c n < c.count
  unfolding cover_at
  cover_at-below = div_below n c.blocks c.count some_blocks below_all

  pub block_at-below : block_at c n < c.blocks
  unfolding block_at
  block_at-below = mod_below n c.blocks some_blocks

  pub place-back : place c (cover_at c n) (block_at c n) ≡ n
  unfolding place cover_at block_at
  place-back = div-add-mod' n c.blocks

pub uncovered : (c : Covers) (n : ℕ) → c.count * c.blocks ≤ n → is_covered c n ≡ false
unfolding is_covered
uncovered c n past = le-ltb n (c.count * c.blocks) past
