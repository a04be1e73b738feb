-- A change added to one block of each cover in a key, one cover after another.
use Rattle.std.proofs.lemmas.Grind.{common_steps}
use Rattle.std.proofs.Common.{◌≡◌, ℕ, ◌+◌, ◌<◌, true, false, cond, ◌&&◌, eqb, ltb, List, [], length, get_or, set, sym, ◌∙◌, arith}
use Rattle.std.proofs.lemmas.List.{length-set, get_or-set_same, get_or-set_other}
use Rattle.keys.specs.Bits.{taken}
use Rattle.store.specs.Stores.{Block}
use Rattle.wallet.specs.Each.{length-each, get_or-each}
use Rattle.wallet.specs.Levels.{changed, xor_block}
use Rattle.wallet.specs.Places.{place}
use Rattle.wallet.specs.Standing.{covers_of, key_of, spread}
use Rattle.wallet.specs.declared.level.Level.{Level}
use Rattle.wallet.proofs.Changing.{Whole, changed_by-bytes, whole-changed, byte_at-changed, change_at, changed-same, changed-none, length-changed}
use Rattle.wallet.proofs.PlaceLaws.{place-covered, cover_at-place, block_at-place, place-back}

module _ (l : Level) (b : ℕ) (change : Block) where
  -- The change of the covers below i.
  abbrev partly : ℕ → ℕ → ℕ → ℕ → ℕ
  partly i j b' p = cond (ltb j i) (cond (eqb b' b) (taken (key_of l j) (get_or change p 0)) 0) 0

  abbrev pub spread_to : List Block → ℕ → List Block
  spread_to bs i = changed (covers_of l) (partly i) bs

  module _ (bs : List Block) where
    pub spread_none : Whole bs → bs ≡ spread_to bs 0
    spread_none whole = sym (changed-none (covers_of l) bs whole) ∙ changed-same (covers_of l) (λ i b' p. 0) (partly 0) (λ i b' p li lb lp. grind (arith, common_steps)) bs

    pub spread-all : spread_to bs l.covers ≡ spread l b change bs
    spread-all = grind (arith, common_steps, changed-same)

    module _ (i : ℕ) where
      spread-outside : key_of l i ≡ false → spread_to bs i ≡ spread_to bs (i + 1)
      spread-outside out = grind (arith, common_steps, changed-same)

      module _ (in' : key_of l i ≡ true) (cover : i < l.covers) (block : b < l.blocks) (within : place (covers_of l) i b < length bs) where
        change_here : (p : ℕ) → change_at (covers_of l) (partly (i + 1)) (place (covers_of l) i b) p ≡ get_or change p 0
        change_here p = grind (arith, common_steps, block_at-place, cover_at-place, place-covered)

        change_elsewhere : (n p : ℕ) → (n ≡ place (covers_of l) i b → ⊥) → change_at (covers_of l) (partly i) n p ≡ change_at (covers_of l) (partly (i + 1)) n p
        change_elsewhere n p other = grind (arith, common_steps, place-back)

        spread-inside : (held : Block) → held ≡ get_or bs (place (covers_of l) i b) [] → set (spread_to bs i) (place (covers_of l) i b) (xor_block held change) ≡ spread_to bs (i + 1)
        unfolding xor_block
        spread-inside held is = changed_by-bytes (covers_of l) (partly (i + 1)) bs _ (length-set (spread_to bs i) (place (covers_of l) i b) (xor_block held change) ∙ length-changed (covers_of l) (partly i) bs) (λ n lt. grind (arith, common_steps, length-set, length-changed, whole-changed, get_or-set_same, get_or-set_other, length-each)) (λ n p lt lp. grind (arith, common_steps, get_or-set_same, get_or-set_other, byte_at-changed, get_or-each, change_here, change_elsewhere, length-changed))

      -- one cover more, whether in the key or not
      pub spread-more : (old new : List Block) (held : Block) → old ≡ spread_to bs i → new ≡ cond (key_of l i && true) (set old (place (covers_of l) i b) (xor_block held change)) old
          → i < l.covers → b < l.blocks → (key_of l i ≡ true → place (covers_of l) i b < length bs) → (key_of l i ≡ true → held ≡ get_or bs (place (covers_of l) i b) []) → new ≡ spread_to bs (i + 1)
      spread-more old new held was is cover block within fetched = grind (arith, common_steps, spread-inside, spread-outside)
