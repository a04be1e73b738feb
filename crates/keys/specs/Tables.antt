-- What a key table means: the keys that stand in it, and the number of covers.
use Rattle.std.specs.Prelude.{◌≡◌, ℕ, List, [], take, Ok, Err, Result}
use Rattle.faults.specs.declared.Fault.{Fault}
use Rattle.keys.specs.Calls.{covers_answer}
use Rattle.keys.specs.declared.table.KeyTable.{KeyTable}

-- The keys in the order of their levels.
abbrev pub standing : KeyTable → List ℕ
standing t = take t.count t.keys

-- Over how many covers they stand.
abbrev pub covers_of : KeyTable → ℕ
covers_of t = t.covers

-- A new table, or the fault, in answer to a number of covers: no key stands, over that many covers.
abbrev pub Made : ℕ → Result KeyTable Fault → Type 0
Made k (Ok t) = (covers_answer k ≡ Ok tt) × (standing t ≡ []) × (covers_of t ≡ k)
Made k (Err f) = covers_answer k ≡ Err f
