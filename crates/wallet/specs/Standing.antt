-- What a standing level means, and what one of its covers answers.
use Rattle.std.specs.Prelude.{◌≡◌, ℕ, ◌^◌, ◌<◌, Bool, true, if◌then◌else◌, List, [], Ok, Err, Result, ◌==◌, slice_index, slice_index_or, slice_set}
use Rattle.keys.specs.Bits.{bits, entry}
use Rattle.keys.specs.Keys.{product}
use Rattle.store.specs.Stores.{Block, Mark, live, dead, judged}
use Rattle.faults.specs.declared.Fault.{Fault}
use Rattle.faults.specs.declared.Question.TheVariants.{BlockLive}
use Rattle.wallet.specs.Levels.{changed, shown, refilled, level_marks, spoils, cover_fine}
use Rattle.wallet.specs.Places.{Covers, place}
use Rattle.wallet.specs.declared.level.Level.{Level}

abbrev pub covers_of : Level → Covers
covers_of l = record { count = l.covers; blocks = l.blocks }

-- The level's key as the vector of its bits.
abbrev pub key_of : Level → ℕ → Bool
key_of l = entry l.key

abbrev pub level_blocks : Level → List Block → List Block
level_blocks l bs = shown bits (covers_of l) (key_of l) bs

abbrev pub level_marks_of : Level → List Mark → List Mark
level_marks_of l ms = level_marks bits (covers_of l) l.number (key_of l) ms

-- The store's blocks once the level takes new contents.
abbrev pub level_filled : Level → List Block → List Block → List Block
level_filled l new bs = refilled bits (covers_of l) (key_of l) new bs

-- What a cover's store block answered, with its place in the level; a block past the store's end counts as dead.
abbrev pub placed_at : (level cover block : ℕ) → Result (Unit {0}) Fault → Result (Unit {0}) Fault
placed_at level cover block (Ok u) = Ok u
placed_at level cover block (Err f) = Err (record { question = BlockLive; level = level; block = block; cover = cover; rule = f.rule })

-- What cover i answers of block b of the level.
abbrev pub cover_answer : Level → List Mark → (b i : ℕ) → Result (Unit {0}) Fault
cover_answer l ms b i = judged b (if spoils bits (key_of l) (cover_fine (covers_of l) ms b) i then dead l.number i else live)

-- The blocks held are those of the covers in the key.
abbrev pub Holds : Level → List Block → (b : ℕ) → List Block → Type 0
Holds l bs b held = (i : ℕ) → i < l.covers → key_of l i ≡ true → slice_index_or held i [] ≡ slice_index_or bs (place (covers_of l) i b) []

-- The store's blocks with a change added to block b of each cover in the key.
abbrev pub spread : Level → (b : ℕ) → Block → List Block → List Block
spread l b change bs = changed (covers_of l) (λ i b' p. if b' == b then bits.act (key_of l i) (slice_index change p) else 0) bs

-- After an accepted put of block b the level shows the new contents there and its old ones elsewhere,
-- and the level of every key that has product 0 with this one's shows what it showed.
pub record Spares (l : Level) (b : ℕ) (contents : Block) (before after : List Block) : Type 0 where
  pub itself : level_blocks l after ≡ slice_set (level_blocks l before) b contents
  pub others : (key : ℕ) → key < 2 ^ l.covers → product key l.key ≡ 0 → shown bits (covers_of l) (entry key) after ≡ shown bits (covers_of l) (entry key) before
