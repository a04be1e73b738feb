-- What a call that changes a store promises, by its answer and the blocks that it leaves.
use Rattle.std.specs.Prelude.{◌≡◌, false, List, is_ok, Ok, Err, Result}
use Rattle.store.specs.Stores.{Block, Mark}
use Rattle.faults.specs.declared.Fault.{Fault}

-- A call that gives this answer and leaves these blocks, by accepted puts alone; refused, it leaves the whole store as it was.
pub record Served {S : Type 0} (blocks : S → List Block) (marks : S → List Mark) (moved : S → S → Type 0) (call : Result (Unit {0}) Fault × List Block) (s t : S) (r : Result (Unit {0}) Fault) : Type 0 where
  pub answer : r ≡ call.0
  pub after : blocks t ≡ call.1
  pub moves : moved s t
  pub keeps : marks t ≡ marks s
  pub refused : is_ok r ≡ false → t ≡ s

-- A call that has asked its questions: with the yes it goes on to what it leaves, and the first no leaves the blocks as they were.
abbrev pub carried_out : {X : Type 0} → Result X Fault → (X → List Block) → List Block → Result (Unit {0}) Fault × List Block
carried_out (Ok x) leaves v = (Ok tt, leaves x)
carried_out (Err f) leaves v = (Err f, v)
