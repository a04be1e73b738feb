-- The key algebra of any field, at bits.
use Rattle.keys.specs.Bits.{bits}
use Rattle.keys.proofs.Remainders.{key_algebra}
use Rattle.keys.proofs.laws.key_algebra_stands.Goals as goal

pub returns : goal.returns
returns c = key_algebra bits
