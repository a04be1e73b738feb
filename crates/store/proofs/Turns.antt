-- Laws of two lists in turn: what is asked of a stripe is asked of a part, and what is set in it is set in a part.
use Rattle.std.proofs.Common.{◌≡◌, ℕ, ◌/◌, ◌%◌, ◌<◌, ◌≤◌, Bool, true, false, cond, eqb, List, length, get_or, drop, set, is_ok, Ok, Err, Result, sym, refl, ap, ◌∙◌, ⊎_elim, arith}
use Rattle.std.proofs.lemmas.List.{ext_get_or, length-set, get_or-set_same, get_or-set_other, drop-set-lt}
use Rattle.std.proofs.lemmas.Bool.{eq-eqb, ne_eqb, cond-true, cond-false, cases_eq}
use Rattle.store.proofs.Asking.{asked-past, asked-within}
use Rattle.std.specs.Result.{MatchResult, IsErrAnd}
use Rattle.faults.specs.Faults.{past_count, renumbered}
use Rattle.store.specs.Stores.{Mark, live, dead, judged, asked}
use Rattle.store.specs.Stripes.{stripe_count, in_turn, striped, from_part, length_striped, get_or_striped}
use Rattle.faults.specs.declared.Fault.{Fault}

pub is_ok-from_part : (n : ℕ) (r : Result (Unit {0}) Fault) → is_ok (from_part n r) ≡ is_ok r
is_ok-from_part n (Ok u) = refl
is_ok-from_part n (Err f) = refl

-- a mark's verdict does not depend on the block's number but for the number that it names
from_part-judged : (n k : ℕ) (m : Mark) → from_part n (judged k m) ≡ judged n m
from_part-judged n k live = refl
from_part-judged n k (dead level cover) = refl

module _ {X : Type 0} (d : X) (xs ys : List X) (n : ℕ) (within : n < stripe_count (length xs) (length ys)) where
  pub get_or-even : n % 2 ≡ 0 → get_or (striped d xs ys) n d ≡ get_or xs (n / 2) d
  get_or-even even = get_or_striped d xs ys n within ∙ cond-true (eqb (n % 2) 0) _ _ (eq-eqb (n % 2) 0 even)

  pub get_or-odd : (n % 2 ≡ 0 → ⊥) → get_or (striped d xs ys) n d ≡ get_or ys (n / 2) d
  get_or-odd odd = get_or_striped d xs ys n within ∙ cond-false (eqb (n % 2) 0) _ _ (ne_eqb (n % 2) 0 odd)

module _ (ms ns : List Mark) (n : ℕ) where
  pub asked-striped-past : stripe_count (length ms) (length ns) ≤ n → asked (striped live ms ns) n ≡ Err (past_count n)
  asked-striped-past past = asked-past (striped live ms ns) n (omega (arith, length_striped live ms ns))

  module _ (within : n < stripe_count (length ms) (length ns)) where
    -- the stripe's question is the question of the part that has the mark
    asked-part : (ps : List Mark) → n / 2 < length ps → get_or (striped live ms ns) n live ≡ get_or ps (n / 2) live → asked (striped live ms ns) n ≡ from_part n (asked ps (n / 2))
    asked-part ps inside same =
        asked-within (striped live ms ns) n (omega (arith, length_striped live ms ns)) ∙ ap (judged n) same ∙
        sym (ap (from_part n) (asked-within ps (n / 2) inside) ∙ from_part-judged n (n / 2) (get_or ps (n / 2) live))

    pub asked-even : n % 2 ≡ 0 → asked (striped live ms ns) n ≡ from_part n (asked ms (n / 2))
    asked-even even = asked-part ms (omega arith) (get_or-even live ms ns n within even)

    pub asked-odd : (n % 2 ≡ 0 → ⊥) → asked (striped live ms ns) n ≡ from_part n (asked ns (n / 2))
    asked-odd odd = asked-part ns (omega arith) (get_or-odd live ms ns n within odd)

module _ {X : Type 0} (d : X) (xs ys : List X) (n : ℕ) (x : X) (within : n < stripe_count (length xs) (length ys)) where
  -- two lists in turn are the stripe with x at n if they have x at n and are as they were elsewhere
  set-by_places : (us vs : List X) → length us ≡ length xs → length vs ≡ length ys → in_turn d us vs n ≡ x → ((m : ℕ) → (m ≡ n → ⊥) → in_turn d us vs m ≡ in_turn d xs ys m) → striped d us vs ≡ set (striped d xs ys) n x
  set-by_places us vs left right here elsewhere =
      let count = length_striped d xs ys in
      let count' = length_striped d us vs in
      let set-count = length-set (striped d xs ys) n x in
      let same_count : stripe_count (length us) (length vs) ≡ stripe_count (length xs) (length ys) = ap (λ k. stripe_count k (length vs)) left ∙ ap (stripe_count (length xs)) right in
      ext_get_or d (striped d us vs) (set (striped d xs ys) n x) (omega arith)
      (λ m lt.
      get_or_striped d us vs m (omega arith) ∙
      ⊎_elim
      (λ same. ap (in_turn d us vs) same ∙ here ∙ sym (ap (λ j. get_or (set (striped d xs ys) n x) j d) same ∙ get_or-set_same (striped d xs ys) n x d (omega arith)))
      (λ other. elsewhere m other ∙ sym (get_or-set_other (striped d xs ys) n m x d other ∙ get_or_striped d xs ys m (omega arith)))
      (cases_eq m n))

  set-even : n % 2 ≡ 0 → striped d (set xs (n / 2) x) ys ≡ set (striped d xs ys) n x
  set-even even =
      set-by_places (set xs (n / 2) x) ys (length-set xs (n / 2) x) refl
      (cond-true (eqb (n % 2) 0) _ _ (eq-eqb (n % 2) 0 even) ∙ get_or-set_same xs (n / 2) x d (omega arith))
      (λ m other.
      ⊎_elim
      (λ even'. let test = eq-eqb (m % 2) 0 even' in cond-true (eqb (m % 2) 0) _ _ test ∙ get_or-set_other xs (n / 2) (m / 2) x d (λ e. other (omega arith)) ∙ sym (cond-true (eqb (m % 2) 0) _ _ test))
      (λ odd. let test = ne_eqb (m % 2) 0 odd in cond-false (eqb (m % 2) 0) _ _ test ∙ sym (cond-false (eqb (m % 2) 0) _ _ test))
      (cases_eq (m % 2) 0))

  set-odd : (n % 2 ≡ 0 → ⊥) → striped d xs (set ys (n / 2) x) ≡ set (striped d xs ys) n x
  set-odd odd =
      set-by_places xs (set ys (n / 2) x) refl (length-set ys (n / 2) x)
      (cond-false (eqb (n % 2) 0) _ _ (ne_eqb (n % 2) 0 odd) ∙ get_or-set_same ys (n / 2) x d (omega arith))
      (λ m other.
      ⊎_elim
      (λ even. let test = eq-eqb (m % 2) 0 even in cond-true (eqb (m % 2) 0) _ _ test ∙ sym (cond-true (eqb (m % 2) 0) _ _ test))
      (λ odd'. let test = ne_eqb (m % 2) 0 odd' in cond-false (eqb (m % 2) 0) _ _ test ∙ get_or-set_other ys (n / 2) (m / 2) x d (λ e. other (omega arith)) ∙ sym (cond-false (eqb (m % 2) 0) _ _ test))
      (cases_eq (m % 2) 0))

  -- the same, of a put that may have been refused
  pub after_even : (ok : Bool) (us : List X) → n % 2 ≡ 0 → us ≡ cond ok (set xs (n / 2) x) xs → striped d us ys ≡ cond ok (set (striped d xs ys) n x) (striped d xs ys)
  after_even true us even e = ap (λ zs. striped d zs ys) e ∙ set-even even
  after_even false us even e = ap (λ zs. striped d zs ys) e

  pub after_odd : (ok : Bool) (vs : List X) → (n % 2 ≡ 0 → ⊥) → vs ≡ cond ok (set ys (n / 2) x) ys → striped d xs vs ≡ cond ok (set (striped d xs ys) n x) (striped d xs ys)
  after_odd true vs odd e = ap (striped d xs) e ∙ set-odd odd
  after_odd false vs odd e = ap (striped d xs) e

-- a put below k leaves what is at k and past it
pub rest_kept : {X : Type 0} (ok : Bool) (xs us : List X) (n k : ℕ) (x : X) → n < k → us ≡ cond ok (set xs n x) xs → drop k us ≡ drop k xs
rest_kept true xs us n k x below e = ap (drop k) e ∙ drop-set-lt k xs n x below
rest_kept false xs us n k x below e = ap (drop k) e

-- what `map_err` makes of a part's answer
pub from_part-mapped : (n : ℕ) (r s : Result (Unit {0}) Fault) {P : Fault → Fault → Type 0} → ((f h : Fault) → P f h → h ≡ renumbered n f) → MatchResult r (λ x. s ≡ Ok x) (λ f. IsErrAnd s (P f)) → s ≡ from_part n r
from_part-mapped n (Ok u) s gives cases = cases
from_part-mapped n (Err f) (Ok u) gives cases = absurd cases
from_part-mapped n (Err f) (Err h) gives cases = ap Err (gives f h cases)
