-- What one block of one cover of a level is, and what it answers.
use Rattle.std.specs.Prelude.{ℕ, Bool, List, [], Result, slice_index_or}
use Rattle.store.specs.Stores.{Block, Mark}
use Rattle.faults.specs.declared.Fault.{Fault}
use Rattle.wallet.specs.Places.{place}
use Rattle.wallet.specs.Standing.{covers_of, key_of, cover_answer}
use Rattle.wallet.specs.declared.level.part.Part.{Part}

-- Whether the cover is in the level's key.
abbrev pub in_key : Part → Bool
in_key p = key_of p.level p.cover

-- The store block that it is.
abbrev pub place_of : Part → ℕ
place_of p = place (covers_of p.level) p.cover p.b

abbrev pub block_of : Part → List Block → Block
block_of p bs = slice_index_or bs (place_of p) []

abbrev pub answer_of : Part → List Mark → Result (Unit {0}) Fault
answer_of p ms = cover_answer p.level ms p.b p.cover
