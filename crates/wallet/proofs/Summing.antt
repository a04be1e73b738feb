-- Sums of bytes over the covers of a key.
use Rattle.std.proofs.Common.{rules}
use Rattle.std.proofs.lemmas.Grind.{common_steps}
use Rattle.std.proofs.Common.{◌≡◌, ℕ, zero, suc, ◌+◌, ◌<◌, true, false, cond, ◌&&◌, List, [], length, get_or, replicate, sym, refl, ap, ◌∙◌, ap₂, add-one, arith}
use lib.Bits.{bit_xor, xor_assoc, xor_self, xor_zero_r}
use Rattle.std.proofs.lemmas.List.{get_or-replicate}
use Rattle.keys.specs.Bits.{bits}
use Rattle.keys.specs.Field.{Field}
use Rattle.keys.specs.Vectors.{dot}
use Rattle.store.specs.Stores.{Block}
use Rattle.wallet.specs.Each.{each, byte_at, length-each, get_or-each, each-is}
use Rattle.wallet.specs.Levels.{byte_sum, shown_byte, shown_block, shown, xor_block}
use Rattle.wallet.specs.Places.{place}
use Rattle.wallet.specs.Standing.{covers_of, key_of, level_blocks}
use Rattle.wallet.specs.declared.level.Level.{Level}
use Rattle.wallet.proofs.Xors.{xor-four}

pub each_same : {X : Type 0} (n : ℕ) (g h : ℕ → X) (d : X) → ((i : ℕ) → i < n → g i ≡ h i) → each n g ≡ each n h
each_same n g h d e = each-is n h (each n g) d (length-each n g) (λ i lt. get_or-each n g i d lt ∙ e i lt)

module _ {F : Type 0} (f : Field F) where
  pub act_none : (x : F) → f.act x 0 ≡ 0
  act_none x = f.act_xor x 0 0 ∙ xor_self (f.act x 0)

  pub byte_sum-same : (k : ℕ) (u : ℕ → F) (a b : ℕ → ℕ) → ((i : ℕ) → i < k → a i ≡ b i) → byte_sum f k u a ≡ byte_sum f k u b
  byte_sum-same zero u a b e = refl
  byte_sum-same (suc k) u a b e =
      ap₂ (λ x y. bit_xor (f.act (u 0) x) y) (e 0 (omega arith)) (byte_sum-same k (λ i. u (suc i)) (λ i. a (suc i)) (λ i. b (suc i)) (λ i lt. e (suc i) (omega arith)))

  pub byte_sum-xor : (k : ℕ) (u : ℕ → F) (a b : ℕ → ℕ) → byte_sum f k u (λ i. bit_xor (a i) (b i)) ≡ bit_xor (byte_sum f k u a) (byte_sum f k u b)
  byte_sum-xor zero u a b = refl
  byte_sum-xor (suc k) u a b =
      ap₂ bit_xor (f.act_xor (u 0) (a 0) (b 0)) (byte_sum-xor k (λ i. u (suc i)) (λ i. a (suc i)) (λ i. b (suc i))) ∙
      xor-four (f.act (u 0) (a 0)) (f.act (u 0) (b 0)) (byte_sum f k (λ i. u (suc i)) (λ i. a (suc i))) (byte_sum f k (λ i. u (suc i)) (λ i. b (suc i)))

  -- a byte along one vector, summed along another, is taken as often as their product says
  pub byte_sum-dot : (k : ℕ) (v u : ℕ → F) (d : ℕ) → byte_sum f k v (λ i. f.act (u i) d) ≡ f.act (dot f k v u) d
  byte_sum-dot zero v u d = sym (f.act_zero d)
  byte_sum-dot (suc k) v u d =
      ap₂ bit_xor (sym (f.act_mul (v 0) (u 0) d)) (byte_sum-dot k (λ i. v (suc i)) (λ i. u (suc i)) d) ∙
      sym (f.act_add (f.mul (v 0) (u 0)) (dot f k (λ i. v (suc i)) (λ i. u (suc i))) d)

  -- one cover more
  byte_sum-last : (k : ℕ) (u : ℕ → F) (a : ℕ → ℕ) → byte_sum f (suc k) u a ≡ bit_xor (byte_sum f k u a) (f.act (u k) (a k))
  byte_sum-last zero u a = xor_zero_r (f.act (u 0) (a 0))
  byte_sum-last (suc k) u a =
      ap (bit_xor (f.act (u 0) (a 0))) (byte_sum-last k (λ i. u (suc i)) (λ i. a (suc i))) ∙
      sym (xor_assoc (f.act (u 0) (a 0)) (byte_sum f k (λ i. u (suc i)) (λ i. a (suc i))) (f.act (u (suc k)) (a (suc k))))

  pub byte_sum-more : (k : ℕ) (u : ℕ → F) (a : ℕ → ℕ) → byte_sum f (k + 1) u a ≡ bit_xor (byte_sum f k u a) (f.act (u k) (a k))
  byte_sum-more k u a = ap (λ n. byte_sum f n u a) (add-one k) ∙ byte_sum-last k u a

module _ (l : Level) (bs : List Block) (b : ℕ) where
  -- What the covers below i add to byte p.
  abbrev part_sum : ℕ → ℕ → ℕ
  part_sum i p = byte_sum bits i (key_of l) (λ j. byte_at bs (place (covers_of l) j b) p)

  -- The block s with what the covers below i add to it.
  abbrev pub summed : Block → ℕ → Block
  summed s i = each 512 (λ p. bit_xor (get_or s p 0) (part_sum i p))

  pub summed-none : (s : Block) → length s ≡ 512 → s ≡ summed s 0
  summed-none s size = each-is 512 (λ p. bit_xor (get_or s p 0) 0) s 0 size (λ p lt. sym (xor_zero_r (get_or s p 0)))

  module _ (s : Block) (i : ℕ) where
    summed-inside : key_of l i ≡ true → xor_block (summed s i) (get_or bs (place (covers_of l) i b) []) ≡ summed s (i + 1)
    unfolding xor_block
    summed-inside in' = search (rules, byte_sum-more, each_same, get_or-each, xor_assoc)

    summed-outside : key_of l i ≡ false → summed s i ≡ summed s (i + 1)
    summed-outside out = grind (arith, common_steps, byte_sum-more, each_same)

    -- one cover more, whether in the key or not
    pub summed-more : (old new : Block) → old ≡ summed s i → new ≡ cond (key_of l i && true) (xor_block old (get_or bs (place (covers_of l) i b) [])) old → new ≡ summed s (i + 1)
    summed-more old new was is = grind (arith, common_steps, summed-inside, summed-outside)

  -- all covers: the level's block
  pub summed-all : (s : Block) → b < l.blocks → summed s l.covers ≡ xor_block s (get_or (level_blocks l bs) b [])
  unfolding xor_block shown shown_block shown_byte
  summed-all s within = each_same 512 _ _ 0 (λ p lt. grind (arith, common_steps, get_or-each))

  pub summed-zero : b < l.blocks → summed (replicate 512 0) l.covers ≡ get_or (level_blocks l bs) b []
  unfolding shown shown_block shown_byte
  summed-zero within =
      each_same 512 (λ p. bit_xor (get_or (replicate 512 0) p 0) (part_sum l.covers p)) (shown_byte bits (covers_of l) (key_of l) bs b) 0
      (λ p lt. ap (λ x. bit_xor x (part_sum l.covers p)) (get_or-replicate {A = ℕ} 512 p 0 0 lt)) ∙
      sym (get_or-each l.blocks (shown_block bits (covers_of l) (key_of l) bs) b [] within)
