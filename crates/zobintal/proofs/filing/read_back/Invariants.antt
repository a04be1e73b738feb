-- The blocks at the places so far.
use Rattle.std.proofs.Common.{◌≡◌, take, vec_items}
use Rattle.zobintal.specs.Filing.{gathered}
use Rattle.zobintal.proofs.filing.read_back.Given as goal

abbrev pub invariant-loop-n : goal.invariant-loop-n
invariant-loop-n g l = vec_items l.bytes ≡ gathered (g.S.Store.blocks l.store) (take l.n-index l.places)
