-- Counts of cases, which go no higher than a number of 64 bits.
use Rattle.std.specs.Prelude.{ℕ, ◌+◌, ◌-◌, ◌^◌, min, Bool, if◌then◌else◌}

abbrev pub one_more : ℕ → ℕ
one_more n = min (n + 1) (2 ^ 64 - 1)

-- A case counts as wrong unless what came is what the rules give.
abbrev pub unless : (same : Bool) → ℕ → ℕ
unless same n = if same then n else one_more n
