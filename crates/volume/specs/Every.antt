-- Tests of all the numbers below a bound.
use Rattle.std.specs.Prelude.{ℕ, Bool}
use Rattle.std.specs.List.{list_all, range_with_len}

-- The test passes at each number below n.
abbrev pub every : ℕ → (ℕ → Bool) → Bool
every n p = list_all p (range_with_len 0 n)
