-- A text copied over the front of n zeros. For a variable n, since with 512 written out the search goes too deep.
use Rattle.std.proofs.Common.{◌≡◌, ℕ, ◌-◌, min, List, ◌++◌, length, take, drop, replicate, arith}
use Rattle.std.proofs.lemmas.Grind.{common_steps}
use Rattle.std.proofs.lemmas.List.{take_all, drop-replicate}

pub padded_is : (n : ℕ) (text front : List ℕ) (len : ℕ) → len ≡ min (length text) n → front ≡ take len text → front ++ drop len (replicate n 0) ≡ take n text ++ replicate (n - length text) 0
padded_is n text front len size is = grind (arith, common_steps, take_all, drop-replicate)
