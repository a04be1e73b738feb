-- The levels that are shown tell nothing of those that are withheld.
use Rattle.std.specs.Prelude.{◌≡◌, ℕ, ◌*◌, ◌<◌, Bool, true, false, if◌then◌else◌, ◌&&◌, List, [], ◌∷◌, length, take, Some, None, Ok, Option, nat_le, nat_lt, slice_index}
use Rattle.wallet.specs.Places.{Covers}
use Rattle.wallet.specs.Wallets.{State, lay_out_answer}
use Rattle.law.specs.Alone.{Asked, Goes, goes, blocks_under, requests, replies_to, Ran}
use Rattle.law.specs.Runs.{Call, lay_out, add_key, take_key, disclose, choose, by_level, by_store, Reply, run, New}
use Rattle.law.specs.Services.{Service}

-- An open call discloses keys into a list, or asks something of a level.
pub data Open (C : Type 0) : Type 0 where
  disclosing : (d : ℕ) (list : List ℕ) → Open C
  asks_level : (level : ℕ) → Asked C → Open C

abbrev pub below : {C : Type 0} → ℕ → Option (Goes C) → Option (Open C)
below d None = None
below d (Some g) = if nat_lt g.level d then Some (asks_level g.level g.asks) else None

-- Of d shown levels the open calls are those that disclose at most d keys and those that go to a level below d.
abbrev pub opening : {C : Type 0} → ℕ → Call C → State → Option (Open C)
opening d (lay_out k n) w = None
opening d (add_key candidate) w = None
opening d (take_key key) w = None
opening d (disclose many list) w = if nat_le many d then Some (disclosing many list) else None
opening d (choose level) w = below d (goes (choose level) w)
opening d (by_level level c) w = below d (goes (by_level level c) w)
opening d (by_store c) w = below d (goes (by_store c) w)

abbrev pub brings_key : {C : Type 0} → Call C → Bool
brings_key (lay_out k n) = false
brings_key (add_key candidate) = true
brings_key (take_key key) = true
brings_key (disclose d list) = false
brings_key (choose level) = false
brings_key (by_level level c) = false
brings_key (by_store c) = false

abbrev pub all_bring_keys : {C : Type 0} → List (Call C) → Bool
all_bring_keys [] = true
all_bring_keys (c ∷ cs) = brings_key c && all_bring_keys cs

-- A new wallet in which an accepted laying out and then key calls leave these keys standing.
pub record Begins {C V M : Type 0} (s : Service C V M) (k n : ℕ) (keys : List ℕ) (w : State) (first : List (Call C)) : Type 0 where
  pub new : New w
  pub laid : lay_out_answer w k n ≡ Ok tt
  pub bring : all_bring_keys first ≡ true
  pub gives : (run s (lay_out k n ∷ first) w).1.keys ≡ keys

-- Two wallets have the same first k·n marks, and the keys show the same blocks of both.
pub record Alike (k n : ℕ) (keys : List ℕ) (w₁ w₂ : State) : Type 0 where
  pub marks : take (k * n) w₁.marks ≡ take (k * n) w₂.marks
  pub blocks : (j : ℕ) → j < length keys → blocks_under (record { count = k; blocks = n }) (slice_index keys j) w₁ ≡ blocks_under (record { count = k; blocks = n }) (slice_index keys j) w₂

-- What was observed of a run: the wallet before it, the calls, the replies and the wallet afterwards.
pub record Observed (C V M : Type 0) : Type 0 where
  pub before : State
  pub calls : List (Call C)
  pub replies : List (Reply V M)
  pub after : State

module _ {C V M : Type 0} (s : Service C V M) where
  -- Of two runs, the open calls are the same in order, arguments, level and memory.
  abbrev pub SameOpenCalls : (d : ℕ) → (one two : Observed C V M) → Type 0
  SameOpenCalls d one two = requests s (opening d) one.calls one.before ≡ requests s (opening d) two.calls two.before

  -- The replies to the open calls are the same, and the keys show the same blocks at the end.
  pub record TellTheSame (covers : Covers) (keys : List ℕ) (one two : Observed C V M) : Type 0 where
    pub answers : replies_to s (opening (length keys)) one.calls one.replies one.before ≡ replies_to s (opening (length keys)) two.calls two.replies two.before
    pub contents : (j : ℕ) → j < length keys → blocks_under covers (slice_index keys j) one.after ≡ blocks_under covers (slice_index keys j) two.after

  -- A run that goes on where a new wallet's beginning ended.
  pub record GoesOn (k n : ℕ) (keys : List ℕ) (w : State) (o : Observed C V M) : Type 0 where
    pub first : List (Call C)
    pub begins : Begins s k n keys w first
    pub starts : o.before ≡ (run s (lay_out k n ∷ first) w).1
    pub ran : Ran s o.before o.calls o.replies o.after

  -- Two new wallets begin with the same laying out and key calls that give the same keys, over stores alike in these levels. Then come
  -- calls of which the open ones are the same in both runs; all others are free.
  abbrev pub ShowsNothingAbove : Type 0
  ShowsNothingAbove =
      (k n : ℕ) (keys : List ℕ) (w₁ w₂ : State) (one two : Observed C V M)
      → GoesOn k n keys w₁ one
      → GoesOn k n keys w₂ two
      → Alike k n keys w₁ w₂
      → SameOpenCalls (length keys) one two
      → TellTheSame (record { count = k; blocks = n }) keys one two
