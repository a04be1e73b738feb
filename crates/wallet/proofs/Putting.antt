-- A put of one block of a level: it fills the level, and spares the levels of other keys.
use Rattle.std.proofs.Common.{rules}
use Rattle.std.proofs.lemmas.Grind.{common_steps}
use Rattle.std.proofs.Common.{◌≡◌, ℕ, ◌<◌, true, eqb, List, [], length, get_or, set, is_ok, sym, ap, ◌∙◌, arith}
use lib.Bits.{xor_comm}
use Rattle.std.proofs.lemmas.List.{length-set, get_or-set_other}
use Rattle.std.proofs.lemmas.Bool.{eq-eqb}
use Rattle.keys.specs.Bits.{bits}
use Rattle.keys.specs.Keys.{product}
use Rattle.keys.proofs.Entries.{product-dot}
use Rattle.store.specs.Stores.{Block, Mark, asked}
use Rattle.wallet.specs.Each.{length-each}
use Rattle.wallet.specs.Levels.{xor_block, refilled}
use Rattle.wallet.specs.Standing.{covers_of, key_of, level_blocks, level_marks_of, level_filled, spread, Spares}
use Rattle.wallet.specs.declared.level.Level.{Level}
use Rattle.wallet.proofs.Changing.{Whole, Reached, along, changed-same, length-shown, get_or-shown, byte_at-shown, shown-refilled, shown-spared, renewed-here, along-other}
use Rattle.wallet.proofs.Marking.{covers_accepted, cover_within}
use Rattle.wallet.proofs.Xors.{get_or-xor_block}

module _ (l : Level) (b : ℕ) (contents : Block) (bs : List Block) (within : b < l.blocks) where
  -- The level's blocks with the new contents at b.
  abbrev renewed : List Block
  renewed = set (level_blocks l bs) b contents

  level-length : length (level_blocks l bs) ≡ l.blocks
  level-length = length-shown bits (covers_of l) (key_of l) bs

  here_is : get_or renewed b [] ≡ contents
  here_is = renewed-here bits (covers_of l) (key_of l) bs b contents within

  elsewhere : (i b' p : ℕ) → (b' ≡ b → ⊥) → b' < l.blocks → p < 512 → along bits (covers_of l) (key_of l) renewed bs i b' p ≡ 0
  elsewhere = along-other bits (covers_of l) (key_of l) bs b contents within

  -- adding old and new together to each cover in the key fills the level
  pub spread-filled : (change : Block) → change ≡ xor_block contents (get_or (level_blocks l bs) b []) → spread l b change bs ≡ level_filled l renewed bs
  unfolding refilled
  spread-filled change is = grind (arith, common_steps, byte_at-shown, changed-same, elsewhere, get_or-xor_block, here_is, xor_comm)

  module _ (size : length contents ≡ 512) (ms : List Mark) (paired : length ms ≡ length bs) (ok : is_ok (asked (level_marks_of l ms) b) ≡ true) where
    whole-renewed : Whole renewed
    whole-renewed b' lt = grind (arith, common_steps, get_or-set_other, get_or-shown, here_is, length-each, length-set, level-length)

    reached : Reached (covers_of l) (along bits (covers_of l) (key_of l) renewed bs) bs
    reached i b' p li lb lp = search (rules, cover_within, covers_accepted, elsewhere)

    pub put_spares : Spares l b contents bs (level_filled l renewed bs)
    put_spares = record {
      itself = shown-refilled bits (covers_of l) (key_of l) renewed bs reached (sym (product-dot l.covers l.key l.key l.below) ∙ eq-eqb (product l.key l.key) 1 l.own) (length-set (level_blocks l bs) b contents ∙ level-length) whole-renewed;
      others = λ key lt orthogonal. shown-spared bits (covers_of l) (key_of l) renewed bs reached _ (sym (product-dot l.covers key l.key lt) ∙ ap (λ n. eqb n 1) orthogonal);
    }
