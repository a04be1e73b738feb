-- A count of the numbers below a bound that pass a test, as a sum.
use Rattle.std.proofs.Common.{◌≡◌, ℕ, zero, suc, ◌+◌, Bool, cond, [], ◌∷◌, refl, ap, ◌∙◌, arith}
use Rattle.std.proofs.lemmas.List.Sums.{sum_by-append}
use Rattle.std.specs.List.{count_by, range_with_len}
use Rattle.volume.proofs.Everys.{range-more}
use Rattle.volume.specs.Numbers.{total}

pub count_by-range : (p : ℕ → Bool) (n : ℕ) → count_by p (range_with_len 0 n) ≡ total n (λ e. cond (p e) 1 0)
unfolding total
count_by-range p zero = refl
count_by-range p (suc n) =
    let one : suc n ≡ n + 1 = omega arith in
    let more = ap (λ k. count_by p (range_with_len 0 k)) one ∙ ap (count_by p) (range-more n) ∙ sum_by-append (λ e. cond (p e) 1 0) (range_with_len 0 n) (n ∷ []) in
    let sofar = count_by-range p n in
    more ∙ omega arith
