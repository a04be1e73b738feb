-- What the calls gave, byte by byte.
use Rattle.std.proofs.Common.{get_or, rules}
use lib.Bits.{bit_xor}
use Rattle.wallet.specs.Levels.{xor_block}
use Rattle.wallet.proofs.Xors.{made_by_from_fn}
use Rattle.wallet.proofs.exclusive_or.xor.Goals as goal

pub returns : goal.returns
unfolding xor_block
returns c = made_by_from_fn _ _ (λ p. bit_xor (get_or c.args.a.now p 0) (get_or c.args.b.now p 0)) c.from_fn.result (λ i y q k. search rules) 512 c.from_fn.ensures.items
