-- Questions asked in order: the first no gives the fault.
use Rattle.std.specs.Prelude.{Bool, true, false, Ok, Err, Result}
use Rattle.faults.specs.declared.Fault.{Fault}

-- With the yes it goes on, and the no is this fault.
abbrev pub asks : {X : Type 0} → Bool → Fault → Result X Fault → Result X Fault
asks true f later = later
asks false f later = Err f

-- A question that finds something goes on with that.
abbrev pub and_then : {X Y : Type 0} → Result X Fault → (X → Result Y Fault) → Result Y Fault
and_then (Ok x) later = later x
and_then (Err f) later = Err f
