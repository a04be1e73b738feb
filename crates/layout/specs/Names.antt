-- Lawful names of files.
use Rattle.std.specs.Prelude.{ℕ, Bool, false, not, ◌&&◌, List, [], ◌∷◌, length, drop, ◌==◌, nat_le, nat_lt}
use Rattle.std.specs.List.{before_first, list_all}

-- A byte that a name may have: neither 0 nor a slash.
abbrev pub plain_byte : ℕ → Bool
plain_byte x = not (x == 0) && not (x == 47)

abbrev pub plain_bytes : List ℕ → Bool
plain_bytes xs = list_all plain_byte xs

-- "." and "..", the names of a directory itself and of the one above.
abbrev pub is_dots : List ℕ → Bool
is_dots [] = false
is_dots (x ∷ []) = x == 46
is_dots (x ∷ (y ∷ [])) = x == 46 && y == 46
is_dots (x ∷ (y ∷ (z ∷ zs))) = false

-- A lawful name has 1 to 14 bytes, none of them 0 or a slash, and is neither "." nor "..".
abbrev pub lawful : List ℕ → Bool
lawful xs = (nat_lt 0 (length xs) && nat_le (length xs) 14) && (plain_bytes xs && not (is_dots xs))

-- The bytes before the first 0.
abbrev pub up_to_zero : List ℕ → List ℕ
up_to_zero xs = before_first (λ x. x == 0) xs

-- Every byte is 0.
abbrev pub all_zero : List ℕ → Bool
all_zero xs = list_all (λ x. x == 0) xs

-- A name field holds a lawful name, then zeros.
abbrev pub lawful_field : List ℕ → Bool
lawful_field f = lawful (up_to_zero f) && all_zero (drop (length (up_to_zero f)) f)
