-- The name in a name field, and the zeros behind it.
use Rattle.std.proofs.Common.{◌≡◌, ℕ, ◌-◌, ◌≤◌, true, cond, not, eqb, List, [], ◌∷◌, ◌++◌, length, take, drop, replicate, Option, Some, None, refl, ap, ◌∙◌, ⊎_elim, arith}
use Rattle.std.proofs.lemmas.List.{take-append-drop, length-drop, length-take-le}
use Rattle.std.proofs.lemmas.List.Sums.{prefix_len-le-length}
use Rattle.std.proofs.lemmas.Bool.{and_parts, eqb-true, cases_lt, lt-ltb, le-ltb}
use Rattle.std.specs.Prelude.{unwrap_or}
use Rattle.std.specs.List.{position, position_or_len}
use Rattle.layout.specs.Names.{up_to_zero, all_zero}

-- the place of the first 0, or else the length, is how long the name is; for other crates, as here the check finds it
pub name_ends : (xs : List ℕ) (found : Option ℕ) (n : ℕ) → found ≡ position (λ x. eqb x 0) xs → n ≡ unwrap_or found (length xs) → n ≡ position_or_len (λ x. eqb x 0) xs
name_ends xs found n is told =
    let k = position_or_len (λ x. eqb x 0) xs in
    let most : k ≤ length xs = prefix_len-le-length (λ x. not (eqb x 0)) xs in
    let test = ap (λ o. unwrap_or o (length xs)) is in
    ⊎_elim
    (λ within. told ∙ test ∙ ap (λ b. unwrap_or (cond b (Some k) None) (length xs)) (lt-ltb k (length xs) within))
    (λ past.
    let whole : length xs ≡ k = omega arith in
    told ∙ test ∙ ap (λ b. unwrap_or (cond b (Some k) None) (length xs)) (le-ltb k (length xs) past) ∙ whole)
    (cases_lt k (length xs))

zeros_are : (xs : List ℕ) → all_zero xs ≡ true → xs ≡ replicate (length xs) 0
zeros_are [] e = refl
zeros_are (x ∷ xs) e = let both = and_parts (eqb x 0) (all_zero xs) e in let first = eqb-true x 0 both.0 in let rest = zeros_are xs both.1 in cc

pub length-name : (xs : List ℕ) → length (up_to_zero xs) ≡ position_or_len (λ x. eqb x 0) xs
length-name xs = length-take-le (position_or_len (λ x. eqb x 0) xs) xs (prefix_len-le-length (λ x. not (eqb x 0)) xs)

front_is : (xs : List ℕ) → take (length (up_to_zero xs)) xs ≡ up_to_zero xs
front_is xs = ap (λ n. take n xs) (length-name xs)

-- a field whose name is followed by zeros only is made of the two
pub field_is : (f : List ℕ) → all_zero (drop (length (up_to_zero f)) f) ≡ true → f ≡ up_to_zero f ++ replicate (length f - length (up_to_zero f)) 0
field_is f zeros =
    let k = length (up_to_zero f) in
    let rest = zeros_are (drop k f) zeros ∙ ap (λ n. replicate n 0) (length-drop k f) in
    cc (take-append-drop k f, front_is f)

-- so fields as long as each other that hold the same name are the same
pub same_field : (f g : List ℕ) → length f ≡ length g → all_zero (drop (length (up_to_zero f)) f) ≡ true → all_zero (drop (length (up_to_zero g)) g) ≡ true → up_to_zero f ≡ up_to_zero g → f ≡ g
same_field f g long f-zeros g-zeros same =
    cc (field_is f f-zeros, field_is g g-zeros)
