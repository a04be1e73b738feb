-- Each level answers as if it were alone, and a level that is never opened keeps what it shows.
use Rattle.std.specs.Prelude.{◌≡◌, ℕ, ◌^◌, ◌<◌, if◌then◌else◌, List, [], ◌∷◌, length, Some, None, Ok, Option, ◌==◌}
use Rattle.keys.specs.Bits.{bits, entry}
use Rattle.keys.specs.Keys.{Fits}
use Rattle.store.specs.Stores.{Block, Mark}
use Rattle.wallet.specs.Levels.{shown, level_marks}
use Rattle.wallet.specs.Places.{Covers}
use Rattle.wallet.specs.Wallets.{State, stands, key_at}
use Rattle.law.specs.Runs.{Call, lay_out, add_key, take_key, disclose, choose, by_level, by_store, Reply, done, served, carried, step, run, New}
use Rattle.law.specs.Services.{Service, stamped}

-- What a level is asked: to be chosen, a call that named it, or a store call while it was chosen.
pub data Asked (C : Type 0) : Type 0 where
  chosen : Asked C
  named : C → Asked C
  unnamed : C → Asked C

-- A level with what is asked of it.
pub record Goes (C : Type 0) : Type 0 where
  pub level : ℕ
  pub asks : Asked C

abbrev pub to_chosen : {C : Type 0} → C → Option ℕ → Option (Goes C)
to_chosen c None = None
to_chosen c (Some level) = Some (record { level = level; asks = unnamed c })

abbrev pub to_named : {C : Type 0} → State → ℕ → Asked C → Option (Goes C)
to_named w level a = if stands w level then Some (record { level = level; asks = a }) else None

-- The level that a call goes to: the one it names, once that stands, or for a store call the chosen one.
abbrev pub goes : {C : Type 0} → Call C → State → Option (Goes C)
goes (lay_out k n) w = None
goes (add_key candidate) w = None
goes (take_key key) w = None
goes (disclose d list) w = None
goes (choose level) w = to_named w level chosen
goes (by_level level c) w = to_named w level (named c)
goes (by_store c) w = to_chosen c w.chosen

-- What is asked of level j, if the call goes there.
abbrev pub only : {C : Type 0} → ℕ → Option (Goes C) → Option (Asked C)
only j None = None
only j (Some g) = if g.level == j then Some g.asks else None

abbrev pub sent_to : {C : Type 0} → ℕ → Call C → State → Option (Asked C)
sent_to j c w = only j (goes c w)

abbrev pub kept : {X Y : Type 0} → Option X → (X → Y) → List Y → List Y
kept None pick ys = ys
kept (Some x) pick ys = pick x ∷ ys

module _ {C V M : Type 0} (s : Service C V M) {X : Type 0} (which : Call C → State → Option X) where
  -- What some of the calls of a run ask, in their order.
  abbrev pub requests : List (Call C) → State → List X
  requests [] w = []
  requests (c ∷ cs) w = kept (which c w) (λ x. x) (requests cs (step s c w).1)

  -- The replies to these calls, among the replies to all.
  abbrev pub replies_to : List (Call C) → List (Reply V M) → State → List (Reply V M)
  replies_to [] rs w = []
  replies_to (c ∷ cs) [] w = []
  replies_to (c ∷ cs) (r ∷ rs) w = kept (which c w) (λ x. r) (replies_to cs rs (step s c w).1)

module _ {C V M : Type 0} (s : Service C V M) where
  -- A lone level has blocks and marks and takes its calls as a store does; where a call named it, faults have its number.
  abbrev pub lone_step : ℕ → List Mark → Asked C → List Block → Reply V M × List Block
  lone_step j ms chosen bs = (done (Ok tt), bs)
  lone_step j ms (named c) bs = (served (stamped j (s.serve c bs ms).0), (s.serve c bs ms).1)
  lone_step j ms (unnamed c) bs = (served (s.serve c bs ms).0, (s.serve c bs ms).1)

  abbrev pub lone : ℕ → List Mark → List (Asked C) → List Block → List (Reply V M) × List Block
  lone j ms = carried (lone_step j ms)

-- What a key shows of a wallet's store, blocks and marks, under given covers.
abbrev pub blocks_under : Covers → (key : ℕ) → State → List Block
blocks_under c key w = shown bits c (entry key) w.blocks

abbrev pub marks_at : Covers → (level key : ℕ) → State → List Mark
marks_at c level key w = level_marks bits c level (entry key) w.marks

-- Of a run with these replies that leads from one wallet to another: level j, which stands at the end, gave the answers of a lone level
-- that began with what the level's key shows of the first wallet and was sent just the level's calls; and it shows the lone level's blocks.
pub record Alone {C V M : Type 0} (s : Service C V M) (w : State) (calls : List (Call C)) (replies : List (Reply V M)) (w' : State) (j : ℕ) : Type 0 where
  pub answers : replies_to s (sent_to j) calls replies w ≡ (lone s j (marks_at w'.covers j (key_at w' j) w) (requests s (sent_to j) calls w) (blocks_under w'.covers (key_at w' j) w)).0
  pub contents : blocks_under w'.covers (key_at w' j) w' ≡ (lone s j (marks_at w'.covers j (key_at w' j) w) (requests s (sent_to j) calls w) (blocks_under w'.covers (key_at w' j) w)).1

-- Every level that stands at the end is as if alone, and a key that is orthonormal to all that stand there shows what it showed at first.
pub record StandsAlone {C V M : Type 0} (s : Service C V M) (w : State) (calls : List (Call C)) (replies : List (Reply V M)) (w' : State) : Type 0 where
  pub levels : (j : ℕ) → j < length w'.keys → Alone s w calls replies w' j
  pub unopened : (key : ℕ) → key < 2 ^ w'.covers.count → Fits w'.keys key → blocks_under w'.covers key w' ≡ blocks_under w'.covers key w

-- These replies and this wallet are what the calls give from the first wallet.
abbrev pub Ran : {C V M : Type 0} → Service C V M → (w : State) (calls : List (Call C)) (replies : List (Reply V M)) (w' : State) → Type 0
Ran s w calls replies w' = run s calls w ≡ (replies, w')

-- So it is after every run from a new wallet.
abbrev pub RunsStandAlone : {C V M : Type 0} → Service C V M → Type 0
RunsStandAlone {C} {V} {M} s =
    (w : State) (calls : List (Call C)) (replies : List (Reply V M)) (w' : State) → New w → Ran s w calls replies w' → StandsAlone s w calls replies w'
