-- What a wallet means, and what each of its calls answers and leaves.
use Rattle.std.specs.Prelude.{◌≡◌, ℕ, ◌*◌, ◌^◌, ◌<◌, Bool, true, false, if◌then◌else◌, ◌&&◌, List, [], length, is_ok, Some, None, Ok, Err, Option, Result, ◌==◌, nat_le, nat_lt, slice_index, slice_index_or, slice_set}
use Rattle.keys.specs.Bits.{bits, entry}
use Rattle.keys.specs.Keys.{product}
use Rattle.keys.specs.Tables as tables
use Rattle.faults.specs.Faults.{bare, at_level}
use Rattle.store.specs.Stores.{Block, Mark, asked}
use Rattle.store.specs.declared.interface.Store.{Ghosts}
use Rattle.faults.specs.declared.Fault.{Fault}
use Rattle.faults.specs.declared.Question.TheVariants.{NoCoversYet, CoversWithinLimits, EnoughStoreBlocks, CoversLaidOut, LevelStanding}
use Rattle.wallet.specs.Levels.{shown, refilled, level_marks}
use Rattle.wallet.specs.Places.{Covers}
use Rattle.wallet.specs.Standing.{covers_of as level_covers}
use Rattle.wallet.specs.declared.layout.Layout.{Layout}
use Rattle.wallet.specs.declared.level.Level.{Level}
use Rattle.wallet.specs.declared.wallet.Wallet.{Wallet}

-- The store's blocks and marks, the covers laid out over it, the keys in the order of their levels, and the chosen level.
pub record State : Type 0 where
  pub blocks : List Block
  pub marks : List Mark
  pub covers : Covers
  pub keys : List ℕ
  pub chosen : Option ℕ

abbrev pub no_covers : Covers
no_covers = record { count = 0; blocks = 0 }

abbrev pub laid_covers : Layout → Covers
laid_covers l = record { count = tables.covers_of l.keys; blocks = l.blocks }

abbrev pub laid_keys : Layout → List ℕ
laid_keys l = tables.standing l.keys

abbrev pub covers_in : Option Layout → Covers
covers_in None = no_covers
covers_in (Some l) = laid_covers l

abbrev pub keys_in : Option Layout → List ℕ
keys_in None = []
keys_in (Some l) = laid_keys l

-- A wallet over any store means its blocks and marks by the store's own members.
abbrev pub meaning : {S : Type 0} → Ghosts S → Wallet S → State
meaning s w = record {
  blocks = s.blocks w.store;
  marks = s.marks w.store;
  covers = covers_in w.layout;
  keys = keys_in w.layout;
  chosen = w.chosen;
}

abbrev pub with_blocks : List Block → State → State
with_blocks bs w = record w { blocks = bs }

abbrev pub with_covers : Covers → State → State
with_covers c w = record w { covers = c }

abbrev pub with_keys : List ℕ → State → State
with_keys keys w = record w { keys = keys }

abbrev pub with_chosen : ℕ → State → State
with_chosen level w = record w { chosen = Some level }

-- A call that led from wallet w to w' answered r and left what its definition says, and left the store alone.
pub record Called {S R : Type 0} (s : Ghosts S) (call : State → R × State) (w w' : Wallet S) (r : R) : Type 0 where
  pub answer : r ≡ (call (meaning s w)).0
  pub after : meaning s w' ≡ (call (meaning s w)).1
  pub store : w'.store ≡ w.store

-- Question 5: are there 2 to 32 covers of 4 to 100 blocks?
abbrev pub in_limits : (k n : ℕ) → Bool
in_limits k n = (nat_le 2 k && nat_le k 32) && (nat_le 4 n && nat_le n 100)

-- Laying out k covers of n blocks asks whether there are none yet, whether k and n are in the limits, and whether the store has k·n blocks.
abbrev pub lay_out_answer : State → (k n : ℕ) → Result (Unit {0}) Fault
lay_out_answer w k n =
    if w.covers.count == 0 then
    (if in_limits k n then
    (if nat_le (k * n) (length w.blocks) then Ok tt else Err (bare EnoughStoreBlocks))
    else Err (bare CoversWithinLimits))
    else Err (bare NoCoversYet)

abbrev pub lay_out_call : State → (k n : ℕ) → Result (Unit {0}) Fault × State
lay_out_call w k n = (lay_out_answer w k n, if is_ok (lay_out_answer w k n) then with_covers (record { count = k; blocks = n }) w else w)

-- Adding or taking a key asks whether covers are laid out, and is then the key table's call.
abbrev pub key_call : (ℕ → List ℕ → ℕ → Result ℕ Fault × List ℕ) → State → ℕ → Result ℕ Fault × State
key_call call w v =
    if w.covers.count == 0 then (Err (bare CoversLaidOut), w)
    else ((call w.covers.count w.keys v).0, with_keys (call w.covers.count w.keys v).1 w)

-- Question 15: does the level stand?
abbrev pub stands : State → ℕ → Bool
stands w level = nat_lt level (length w.keys)

abbrev pub not_standing : ℕ → Fault
not_standing level = at_level level (bare LevelStanding)

-- The level named is chosen if it stands.
abbrev pub choosing : ℕ → State → State
choosing level w = if stands w level then with_chosen level w else w

abbrev pub choose_call : State → ℕ → Result (Unit {0}) Fault × State
choose_call w level = (if stands w level then Ok tt else Err (not_standing level), choosing level w)

-- The key of a level.
abbrev pub key_at : State → ℕ → ℕ
key_at w level = slice_index w.keys level

-- The blocks that a key shows.
abbrev pub shown_under : State → (key : ℕ) → List Block
shown_under w key = shown bits w.covers (entry key) w.blocks

abbrev pub marks_under : State → (level key : ℕ) → List Mark
marks_under w level key = level_marks bits w.covers level (entry key) w.marks

-- The wallet once the level of a key has taken new contents.
abbrev pub filled_under : State → (key : ℕ) → List Block → State
filled_under w key new = with_blocks (refilled bits w.covers (entry key) new w.blocks) w

-- A refusal of a call that named a level has that level.
abbrev pub named : ℕ → Result (Unit {0}) Fault → Result (Unit {0}) Fault
named level (Ok u) = Ok u
named level (Err f) = Err (at_level level f)

-- Fetch and put of block b of a level ask whether the level stands, whether it has the block, and whether the block is live.
abbrev pub block_answer : State → (level b : ℕ) → Result (Unit {0}) Fault
block_answer w level b = if stands w level then named level (asked (marks_under w level (key_at w level)) b) else Err (not_standing level)

-- The answer, the buffer afterwards, and the wallet: a fetch changes nothing but the chosen level.
abbrev pub fetch_call : State → (level b : ℕ) → Block → Result (Unit {0}) Fault × Block × State
fetch_call w level b buffer =
    (block_answer w level b, if is_ok (block_answer w level b) then slice_index_or (shown_under w (key_at w level)) b [] else buffer, choosing level w)

-- An accepted put brings block b of the level to the contents.
abbrev pub put_call : State → (level b : ℕ) → Block → Result (Unit {0}) Fault × State
put_call w level b contents =
    (block_answer w level b, if is_ok (block_answer w level b) then filled_under (choosing level w) (key_at w level) (slice_set (shown_under w (key_at w level)) b contents) else choosing level w)

-- After an accepted put the level shows the new contents in that block and its old ones elsewhere, and the level of every key
-- that has product 0 with its key, standing or not, shows what it showed.
pub record Sparing (before after : State) (level b : ℕ) (contents : Block) : Type 0 where
  pub itself : shown_under after (key_at before level) ≡ slice_set (shown_under before (key_at before level)) b contents
  pub others : (key : ℕ) → key < 2 ^ before.covers.count → product key (key_at before level) ≡ 0 → shown_under after key ≡ shown_under before key

-- A new layout, or the fault, in answer to question 5.
abbrev pub LaidOut : (k n : ℕ) → Result Layout Fault → Type 0
LaidOut k n (Ok l) = (in_limits k n ≡ true) × (laid_covers l ≡ record { count = k; blocks = n }) × (laid_keys l ≡ [])
LaidOut k n (Err f) = (in_limits k n ≡ false) × (f ≡ bare CoversWithinLimits)

-- A level that stands has its number, its key, and the wallet's covers.
pub record Found (c : Covers) (ks : List ℕ) (level : ℕ) (l : Level) : Type 0 where
  pub standing : nat_lt level (length ks) ≡ true
  pub number : l.number ≡ level
  pub key : l.key ≡ slice_index ks level
  pub covers : level_covers l ≡ c

abbrev pub FoundIn : Covers → List ℕ → ℕ → Option Level → Type 0
FoundIn c ks level (Some l) = Found c ks level l
FoundIn c ks level None = nat_lt level (length ks) ≡ false

abbrev pub Opened : State → ℕ → Result Level Fault → Type 0
Opened w level (Ok l) = Found w.covers w.keys level l
Opened w level (Err f) = (stands w level ≡ false) × (f ≡ not_standing level)
