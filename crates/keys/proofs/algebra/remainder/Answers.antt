-- The fold is the remainder.
use Rattle.std.proofs.Common.{rules, ◌≡◌, eqb, ◌∙◌, fold, filter}
use Rattle.std.specs.Int.Bits.{bit_xor}
use Rattle.keys.specs.Keys.{product}
use Rattle.keys.proofs.Chains.{fold-reduced}
use Rattle.keys.proofs.algebra.remainder.Goals as goal

pub returns : goal.returns
returns c =
    let v = c.args.candidate in
    let folded : c.fold.result ≡ fold bit_xor v (filter (λ u. eqb (product u v) 1) c.args.keys.now) = search rules in
    folded ∙ fold-reduced v v c.args.keys.now
