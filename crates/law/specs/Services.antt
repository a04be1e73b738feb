-- What a store can be asked, for any set of calls.
use Rattle.std.specs.Prelude.{◌≡◌, ℕ, List, length, Ok, Err, Result}
use Rattle.faults.specs.Faults.{at_level}
use Rattle.store.specs.Stores.{Block, Mark}
use Rattle.faults.specs.declared.Fault.{Fault}
use Rattle.wallet.proofs.Changing.{Whole}

-- A value or a fault, and the caller's memory afterwards.
pub record Answer (V M : Type 0) : Type 0 where
  pub outcome : Result V Fault
  pub memory : M

-- What a store of these blocks and marks answers to a call, with its blocks afterwards, and the memory that a call brings.
pub record Service (C V M : Type 0) : Type 0 where
  pub serve : C → List Block → List Mark → Answer V M × List Block
  pub brought : C → M

-- Every call leaves as many blocks as there were, each of 512 bytes.
pub record Keeps {C V M : Type 0} (s : Service C V M) : Type 0 where
  pub count : (c : C) (bs : List Block) (ms : List Mark) → length ms ≡ length bs → Whole bs → length (s.serve c bs ms).1 ≡ length bs
  pub whole : (c : C) (bs : List Block) (ms : List Mark) → length ms ≡ length bs → Whole bs → Whole (s.serve c bs ms).1

-- A refusal has the level that its call named.
abbrev pub naming : {V : Type 0} → ℕ → Result V Fault → Result V Fault
naming level (Ok v) = Ok v
naming level (Err f) = Err (at_level level f)

abbrev pub stamped : {V M : Type 0} → ℕ → Answer V M → Answer V M
stamped level a = record { outcome = naming level a.outcome; memory = a.memory }

-- A call that is refused before the store is asked leaves its memory as brought.
abbrev pub refused : {C V M : Type 0} → Service C V M → C → Fault → Answer V M
refused s c f = record { outcome = Err f; memory = s.brought c }
