-- The store calls as what a store can be asked.
use Rattle.std.specs.Prelude.{ℕ, Bool, if◌then◌else◌, List, [], length, is_ok, Ok, Err, Result, slice_index, slice_index_or, slice_set}
use Rattle.store.specs.Stores.{Block, Mark, asked}
use Rattle.faults.specs.declared.Fault.{Fault}
use Rattle.wallet.specs.Each.{each}
use Rattle.law.specs.Services.{Answer, Service}

-- A fetch brings a buffer, a put the new contents.
pub data StoreCall : Type 0 where
  count : StoreCall
  live : (n : ℕ) → StoreCall
  fetch : (n : ℕ) (buffer : Block) → StoreCall
  put : (n : ℕ) (contents : Block) → StoreCall

pub data Value : Type 0 where
  success : Value
  number : ℕ → Value
  flag : Bool → Value

pub data Memory : Type 0 where
  nothing : Memory
  block : Block → Memory

abbrev pub succeeds : Result (Unit {0}) Fault → Result Value Fault
succeeds (Ok u) = Ok success
succeeds (Err f) = Err f

-- The 512 bytes of a block buffer.
abbrev pub bytes_of : Block → Block
bytes_of contents = each 512 (λ p. slice_index contents p)

abbrev pub brought_by : StoreCall → Memory
brought_by count = nothing
brought_by (live n) = nothing
brought_by (fetch n buffer) = block buffer
brought_by (put n contents) = block contents

abbrev answer : Result Value Fault → Memory → Answer Value Memory
answer outcome memory = record { outcome = outcome; memory = memory }

abbrev pub store_serve : StoreCall → List Block → List Mark → Answer Value Memory × List Block
store_serve count bs ms = (answer (Ok (number (length bs))) nothing, bs)
store_serve (live n) bs ms = (answer (Ok (flag (is_ok (asked ms n)))) nothing, bs)
store_serve (fetch n buffer) bs ms = (answer (succeeds (asked ms n)) (block (if is_ok (asked ms n) then slice_index_or bs n [] else buffer)), bs)
store_serve (put n contents) bs ms = (answer (succeeds (asked ms n)) (block contents), if is_ok (asked ms n) then slice_set bs n (bytes_of contents) else bs)

abbrev pub store_calls : Service StoreCall Value Memory
store_calls = record { serve = store_serve; brought = brought_by }
