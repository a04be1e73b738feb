-- The fold is the sum.
use Rattle.std.proofs.Common.{rules, ◌≡◌, ◌∙◌, fold}
use Rattle.std.specs.Int.Bits.{bit_xor, xor_zero_l}
use Rattle.keys.specs.Keys.{key_sum}
use Rattle.keys.proofs.Chains.{fold-key_sum}
use Rattle.keys.proofs.algebra.key_sum.Goals as goal

pub returns : goal.returns
returns c =
    let folded : c.fold.result ≡ fold bit_xor 0 c.args.keys.now = search rules in
    folded ∙ fold-key_sum 0 c.args.keys.now ∙ xor_zero_l (key_sum c.args.keys.now)
