-- What a wallet can be asked, what each call does, and what a run of calls is.
use Rattle.std.specs.Prelude.{◌≡◌, ℕ, ◌*◌, ◌<◌, ◌≤◌, if◌then◌else◌, List, [], ◌∷◌, length, Some, None, Option, Result}
use Rattle.keys.specs.Calls.{add_call, take_call, disclose_call}
use Rattle.keys.specs.Keys.{Sound}
use Rattle.store.specs.Stores.{Block, Mark}
use Rattle.faults.specs.declared.Fault.{Fault}
use Rattle.wallet.proofs.Changing.{Whole}
use Rattle.wallet.specs.Wallets.{State, no_covers, with_chosen, lay_out_call, key_call, stands, not_standing, choose_call, key_at, shown_under, marks_under, filled_under}
use Rattle.law.specs.Services.{Answer, Service, stamped, refused}

-- Laying out, key calls, disclosure, choosing, a call that names a level, and a store call of the wallet, each with the memory it brings.
pub data Call (C : Type 0) : Type 0 where
  lay_out : (k n : ℕ) → Call C
  add_key : (candidate : ℕ) → Call C
  take_key : (key : ℕ) → Call C
  disclose : (d : ℕ) (list : List ℕ) → Call C
  choose : (level : ℕ) → Call C
  by_level : (level : ℕ) → C → Call C
  by_store : C → Call C

-- What comes back: bare success, a number, a number with the list of keys, or a level's answer; or else a fault.
pub data Reply (V M : Type 0) : Type 0 where
  done : Result (Unit {0}) Fault → Reply V M
  numbered : Result ℕ Fault → Reply V M
  disclosed : Result ℕ Fault → List ℕ → Reply V M
  served : Answer V M → Reply V M

-- What a machine replies to each of a list of requests in turn, and where it ends.
abbrev pub carried : {X W R : Type 0} → (X → W → R × W) → List X → W → List R × W
carried act [] w = ([], w)
carried act (x ∷ xs) w = ((act x w).0 ∷ (carried act xs (act x w).1).0, (carried act xs (act x w).1).1)

-- The wallet as a store has the blocks and marks of the chosen level, and none with no level chosen.
abbrev pub store_blocks : (chosen : Option ℕ) → State → List Block
store_blocks None w = []
store_blocks (Some level) w = shown_under w (key_at w level)

abbrev pub store_marks : (chosen : Option ℕ) → State → List Mark
store_marks None w = []
store_marks (Some level) w = marks_under w level (key_at w level)

-- The wallet once it has taken new contents as a store.
abbrev pub store_filled : (chosen : Option ℕ) → State → List Block → State
store_filled None w new = w
store_filled (Some level) w new = filled_under w (key_at w level) new

module _ {C V M : Type 0} (s : Service C V M) where
  -- What a level answers and then holds: it is asked as a store of the blocks and marks that its key shows.
  abbrev pub asking : State → (level : ℕ) → C → Answer V M × List Block
  asking w level c = s.serve c (shown_under w (key_at w level)) (marks_under w level (key_at w level))

  -- The wallet then: the level has taken what it holds, along its key.
  abbrev pub changed_by : State → (level : ℕ) → C → State
  changed_by w level c = filled_under w (key_at w level) (asking w level c).1

  -- A call that names a level asks whether it stands, then the level; its faults have the level, which is left chosen.
  abbrev pub level_call : State → (level : ℕ) → C → Answer V M × State
  level_call w level c =
      if stands w level then (stamped level (asking w level c).0, with_chosen level (changed_by w level c))
      else (refused s c (not_standing level), w)

  -- A store call asks the wallet as a store.
  abbrev pub store_call : Option ℕ → State → C → Answer V M × State
  store_call o w c = ((s.serve c (store_blocks o w) (store_marks o w)).0, store_filled o w (s.serve c (store_blocks o w) (store_marks o w)).1)

  unfoldable pub step : Call C → State → Reply V M × State
  step (lay_out k n) w = (done (lay_out_call w k n).0, (lay_out_call w k n).1)
  step (add_key candidate) w = (numbered (key_call add_call w candidate).0, (key_call add_call w candidate).1)
  step (take_key key) w = (numbered (key_call take_call w key).0, (key_call take_call w key).1)
  step (disclose d list) w = (disclosed (disclose_call d w.keys list).0 (disclose_call d w.keys list).1, w)
  step (choose level) w = (done (choose_call w level).0, (choose_call w level).1)
  step (by_level level c) w = (served (level_call w level c).0, (level_call w level c).1)
  step (by_store c) w = (served (store_call w.chosen w c).0, (store_call w.chosen w c).1)

  -- A run is a list of calls, each carried out on what the ones before it left.
  abbrev pub run : List (Call C) → State → List (Reply V M) × State
  run = carried step

-- A new wallet has no covers, no keys and no level chosen, over as many marks as blocks, each block of 512 bytes.
pub record New (w : State) : Type 0 where
  pub covers : w.covers ≡ no_covers
  pub keys : w.keys ≡ []
  pub chosen : w.chosen ≡ None
  pub paired : length w.marks ≡ length w.blocks
  pub whole : Whole w.blocks

-- What holds of a wallet after every run from a new one: keys orthonormal, over covers that are laid out and in the store, a chosen level that stands.
pub record SoundWallet (w : State) : Type 0 where
  pub keys : Sound w.covers.count w.keys
  pub laid : 0 < length w.keys → 0 < w.covers.count
  pub room : w.covers.count * w.covers.blocks ≤ length w.blocks
  pub chosen : (level : ℕ) → w.chosen ≡ Some level → level < length w.keys
  pub paired : length w.marks ≡ length w.blocks
  pub whole : Whole w.blocks
