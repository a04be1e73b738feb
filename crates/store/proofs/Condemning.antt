-- Laws of the condemned numbers, when one is added.
use Rattle.std.proofs.Common.{◌≡◌, ℕ, ◌<◌, true, false, cond, ◌||◌, eqb, ltb, List, [], ◌∷◌, ◌++◌, length, get_or, set, Ok, sym, refl, ap, ◌∙◌, ⊎_elim, arith}
use mathlib.Core.Bool.{or-false}
use Rattle.std.proofs.lemmas.List.{get_or-set_same, get_or-set_other, length-set, ext_get_or}
use Rattle.std.proofs.lemmas.List.Folds.{list_any-append}
use Rattle.std.proofs.lemmas.Bool.{eq-eqb, ne_eqb, lt-ltb, or_left, or_right, cond-true, cond-false, cond_both, cases_eq}
use Rattle.store.specs.Condemned.{Condemns, holds, room_for, may_condemn, joined_by, mark_of, marked, length_marked, get_or_marked}
use Rattle.store.specs.Stores.{live, dead}

module _ (n : ℕ) (xs : List ℕ) where
  -- n is condemned now
  holds-joined : holds n (joined_by n xs) ≡ true
  holds-joined =
      cond_both (holds n xs) xs (xs ++ n ∷ []) (λ ys. holds n ys ≡ true)
      (λ old. old)
      (λ fresh. list_any-append (λ x. eqb x n) xs (n ∷ []) ∙ or_right (holds n xs) _ (or_left (eqb n n) false (eq-eqb n n refl)))

  -- and no other block is that was not
  holds-others : (m : ℕ) → (m ≡ n → ⊥) → holds m (joined_by n xs) ≡ holds m xs
  holds-others m other =
      cond_both (holds n xs) xs (xs ++ n ∷ []) (λ ys. holds m ys ≡ holds m xs)
      (λ old. refl)
      (λ fresh. list_any-append (λ x. eqb x m) xs (n ∷ []) ∙ ap (λ b. holds m xs || (b || false)) (ne_eqb n m (λ e. other (sym e))) ∙ or-false (holds m xs))

  -- condemning marks the one block dead
  pub marked-joined : (count : ℕ) → n < count → marked (joined_by n xs) count ≡ set (marked xs count) n (dead 0 0)
  marked-joined count within =
      let size = length_marked xs count in
      let size' = length_marked (joined_by n xs) count in
      let set-size = length-set (marked xs count) n (dead 0 0) in
      ext_get_or live (marked (joined_by n xs) count) (set (marked xs count) n (dead 0 0)) (omega arith)
      (λ m lt.
      let inside : m < count = omega arith in
      get_or_marked (joined_by n xs) count m live inside ∙
      ⊎_elim
      (λ same. ap (λ i. mark_of (joined_by n xs) i) same ∙ ap (λ b. cond b (dead 0 0) live) holds-joined ∙ sym (ap (λ i. get_or (set (marked xs count) n (dead 0 0)) i live) same ∙ get_or-set_same (marked xs count) n (dead 0 0) live (omega arith)))
      (λ other. ap (λ b. cond b (dead 0 0) live) (holds-others m other) ∙ sym (get_or-set_other (marked xs count) n m (dead 0 0) live other ∙ get_or_marked xs count m live inside))
      (cases_eq m n))

module _ (count n : ℕ) (xs : List ℕ) where
  module _ (within : n < count) where
    asks-room : may_condemn count n xs ≡ room_for n xs
    asks-room = cond-true (ltb n count) _ _ (lt-ltb n count within)

    accepted : (ys : List ℕ) → ys ≡ joined_by n xs → (holds n xs || ltb (length xs) 8) ≡ true → Condemns count n xs ys (Ok tt)
    accepted ys e room = record {
      answer = sym (asks-room ∙ cond-true (holds n xs || ltb (length xs) 8) _ _ room);
      after = e;
      marks = ap (λ zs. marked zs count) e ∙ marked-joined n xs count within;
    }

    pub condemns_again : holds n xs ≡ true → Condemns count n xs xs (Ok tt)
    condemns_again old = accepted xs (sym (cond-true (holds n xs) _ _ old)) (or_left (holds n xs) _ old)

    pub condemns-new : (ys : List ℕ) → ys ≡ xs ++ n ∷ [] → holds n xs ≡ false → length xs < 8 → Condemns count n xs ys (Ok tt)
    condemns-new ys e fresh few = accepted ys (e ∙ sym (cond-false (holds n xs) _ _ fresh)) (or_right (holds n xs) _ (lt-ltb (length xs) 8 few))
