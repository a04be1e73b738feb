-- What levels show of a store that holds all their covers.
use Rattle.std.proofs.lemmas.Grind.{common_steps}
use Rattle.std.proofs.Common.{◌≡◌, ℕ, zero, suc, ◌+◌, ◌*◌, ◌^◌, ◌<◌, ◌≤◌, Bool, cond, not, ◌&&◌, eqb, List, length, take, sym, refl, ap, ◌∙◌, arith}
use lib.Bits.{bit_xor, xor_assoc, xor_self}
use Rattle.keys.specs.Bits.{bits, entry, taken, taken_xor}
use Rattle.keys.specs.Keys.{product}
use Rattle.keys.proofs.Entries.{product-dot}
use Rattle.std.proofs.lemmas.List.{get_or-take}
use Rattle.std.proofs.lemmas.Bool.{eq-eqb}
use Rattle.store.specs.Stores.{Block, Mark, dead, asked}
use Rattle.store.proofs.Asking.{asked-within}
use Rattle.wallet.specs.Each.{byte_at, length-each}
use Rattle.wallet.specs.Levels.{changed, shown_byte, shown, refilled, in_key, lowest_dead, level_mark, level_marks}
use Rattle.wallet.specs.Places.{Covers, place}
use Rattle.wallet.proofs.Changing.{Whole, Agree, Reached, along, changed-same, changed-changed, changed-none, length-changed, whole-changed, length-shown, get_or-shown, byte_at-shown, shown-refilled, shown-spared}
use Rattle.wallet.proofs.PlaceLaws.{place-covered, below_all}
use Rattle.wallet.proofs.Hiding.{reached_all}
use Rattle.wallet.proofs.Summing.{each_same, act_none}
use Rattle.wallet.proofs.Xors.{xor_again}

-- a block of a cover is among the blocks of the covers
within_covers : (c : Covers) (i b : ℕ) → i < c.count → b < c.blocks → place c i b < c.count * c.blocks
within_covers c i b li lb = below_all c (place c i b) (place-covered c i b lb li)

module _ (c : Covers) (u : ℕ → Bool) (bs : List Block) where
  pub whole-shown : Whole (shown bits c u bs)
  whole-shown b lt = ap length (get_or-shown bits c u bs b (omega (arith, length-shown bits c u bs))) ∙ length-each 512 (shown_byte bits c u bs b)

  module _ (new : List Block) where
    pub length-refilled : length (refilled bits c u new bs) ≡ length bs
    unfolding refilled
    length-refilled = length-changed c (along bits c u new bs) bs

    pub whole-refilled : Whole (refilled bits c u new bs)
    unfolding refilled
    whole-refilled = whole-changed c (along bits c u new bs) bs

  -- a level that takes what it shows changes nothing
  pub refilled-shown : Whole bs → refilled bits c u (shown bits c u bs) bs ≡ bs
  unfolding refilled
  refilled-shown whole = changed-same c (along bits c u (shown bits c u bs) bs) (λ i b p. 0) none bs ∙ changed-none c bs whole
    where
      none : Agree c (along bits c u (shown bits c u bs) bs) (λ i b p. 0)
      none i b p li lb lp =
          ap (λ x. taken (u i) (bit_xor (shown_byte bits c u bs b p) x)) (byte_at-shown bits c u bs b p lb lp) ∙
          ap (taken (u i)) (xor_self (shown_byte bits c u bs b p)) ∙ act_none bits (u i)

-- blocks that took what their level shows, and then again, took what it shows at last
pub refilled-joins : (c : Covers) (u : ℕ → Bool) (first then last : List Block) → then ≡ refilled bits c u (shown bits c u then) first → last ≡ refilled bits c u (shown bits c u last) then → last ≡ refilled bits c u (shown bits c u last) first
unfolding refilled
refilled-joins c u first then last one two =
    two ∙ ap (changed c later) one ∙ changed-changed c sooner later first ∙
    changed-same c (λ i b p. bit_xor (sooner i b p) (later i b p)) (along bits c u (shown bits c u last) first) both first
  where
    sooner : ℕ → ℕ → ℕ → ℕ
    sooner = along bits c u (shown bits c u then) first

    later : ℕ → ℕ → ℕ → ℕ
    later = along bits c u (shown bits c u last) then

    between : (x y z : ℕ) → bit_xor (bit_xor x y) (bit_xor y z) ≡ bit_xor x z
    between x y z = xor_assoc x y (bit_xor y z) ∙ ap (bit_xor x) (xor_again y z)

    both : Agree c (λ i b p. bit_xor (sooner i b p) (later i b p)) (along bits c u (shown bits c u last) first)
    both i b p li lb lp =
        sym (taken_xor (u i) (bit_xor (shown_byte bits c u first b p) (byte_at (shown bits c u then) b p)) (bit_xor (shown_byte bits c u then b p) (byte_at (shown bits c u last) b p))) ∙
        ap (taken (u i))
        (ap (λ y. bit_xor (bit_xor (shown_byte bits c u first b p) y) (bit_xor (shown_byte bits c u then b p) (byte_at (shown bits c u last) b p))) (byte_at-shown bits c u then b p lb lp) ∙
        between (shown_byte bits c u first b p) (shown_byte bits c u then b p) (byte_at (shown bits c u last) b p))

module _ (c : Covers) (bs : List Block) (room : c.count * c.blocks ≤ length bs) (u : ℕ) (new : List Block) where
  reached : Reached c (along bits c (entry u) new bs) bs
  reached = reached_all c (along bits c (entry u) new bs) bs room

  -- the level of the key shows what it took
  pub shown-itself : u < 2 ^ c.count → product u u ≡ 1 → length new ≡ c.blocks → Whole new → shown bits c (entry u) (refilled bits c (entry u) new bs) ≡ new
  shown-itself lt own size whole = shown-refilled bits c (entry u) new bs reached (sym (product-dot c.count u u lt) ∙ eq-eqb (product u u) 1 own) size whole

  -- a key that has product 0 with it shows what it showed
  pub shown-other : (v : ℕ) → v < 2 ^ c.count → product v u ≡ 0 → shown bits c (entry v) (refilled bits c (entry u) new bs) ≡ shown bits c (entry v) bs
  shown-other v lt apart = shown-spared bits c (entry u) new bs reached (entry v) (sym (product-dot c.count v u lt) ∙ ap (λ n. eqb n 1) apart)

lowest-same : (level : ℕ) (u fine fine' : ℕ → Bool) (many i : ℕ) → ((j : ℕ) → i ≤ j → j < i + many → fine j ≡ fine' j) → lowest_dead bits level u fine many i ≡ lowest_dead bits level u fine' many i
lowest-same level u fine fine' zero i same = refl
lowest-same level u fine fine' (suc many) i same =
    ap (λ x. cond (in_key bits (u i) && not x) (dead level i) (lowest_dead bits level u fine many (suc i))) (same i (omega arith) (omega arith)) ∙
    ap (cond (in_key bits (u i) && not (fine' i)) (dead level i)) (lowest-same level u fine fine' many (suc i) (λ j from below. same j (omega arith) (omega arith)))

pub length-level_marks : (c : Covers) (level : ℕ) (u : ℕ → Bool) (ms : List Mark) → length (level_marks bits c level u ms) ≡ c.blocks
unfolding level_marks
length-level_marks c level u ms = length-each c.blocks (level_mark bits c level u ms)

-- the marks of a level come from those of the covers' blocks
module _ (c : Covers) (ms ms' : List Mark) (room : c.count * c.blocks ≤ length ms) (room' : c.count * c.blocks ≤ length ms') (same : take (c.count * c.blocks) ms ≡ take (c.count * c.blocks) ms') where
  asked-same : (n : ℕ) → n < c.count * c.blocks → asked ms n ≡ asked ms' n
  asked-same n lt = grind (arith, common_steps, asked-within, get_or-take, same)

  pub level_marks-same : (level : ℕ) (u : ℕ → Bool) → level_marks bits c level u ms ≡ level_marks bits c level u ms'
  unfolding level_marks level_mark
  level_marks-same level u = grind (arith, common_steps, asked-same, each_same, lowest-same, within_covers)
