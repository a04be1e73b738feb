-- The worked cases follow from the rules by calculation.
use Rattle.std.proofs.Common.{rules}
use lib.Count.{ones, ones_in}
use Rattle.keys.proofs.worked.worked_keys_stand.Goals as goal

pub returns : goal.returns
unfolding ones ones_in
returns c = search rules
