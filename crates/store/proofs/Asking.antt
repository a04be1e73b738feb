-- Laws of questions 1 and 2, for any marks and for those of a plain store.
use Rattle.std.proofs.Common.{◌≡◌, ℕ, zero, suc, ◌+◌, ◌<◌, ◌≤◌, true, false, cond, ltb, List, [], ◌∷◌, length, get_or, drop, is_ok, Ok, Err, sym, refl, ap, ◌∙◌, ⊎_elim, arith}
use Rattle.std.proofs.lemmas.Bool.{lt-ltb, le-ltb, cond-true, cond-false, cases_lt, true≢false, false≢true}
use Rattle.std.proofs.lemmas.List.{at_drop_more}
use Rattle.store.specs.Condemned.{holds, mark_of, marked, length_marked, get_or_marked}
use Rattle.faults.specs.Faults.{past_count, dead_block}
use Rattle.store.specs.Stores.{Mark, live, dead, judged, asked, first_dead, all_live}

module _ (ms : List Mark) (n : ℕ) where
  pub asked-past : length ms ≤ n → asked ms n ≡ Err (past_count n)
  unfolding asked
  asked-past past = cond-false (ltb n (length ms)) _ _ (le-ltb n (length ms) past)

  pub asked-within : n < length ms → asked ms n ≡ judged n (get_or ms n live)
  unfolding asked
  asked-within within = cond-true (ltb n (length ms)) _ _ (lt-ltb n (length ms) within)

  -- only a block that there is is accepted
  pub within_from_ok : is_ok (asked ms n) ≡ true → n < length ms
  within_from_ok ok =
      ⊎_elim (λ within. within) (λ past. let wrong : false ≡ true = ap is_ok (sym (asked-past past)) ∙ ok in let z : ◌≡◌ {A = ℕ} 0 1 = cc in omega arith) (cases_lt n (length ms))

module _ (xs : List ℕ) (count n : ℕ) where
  plain_within : n < count → asked (marked xs count) n ≡ judged n (mark_of xs n)
  plain_within within =
      let size = length_marked xs count in
      asked-within (marked xs count) n (omega arith) ∙ ap (judged n) (get_or_marked xs count n live within)

  pub plain_past : count ≤ n → asked (marked xs count) n ≡ Err (past_count n)
  plain_past past = let size = length_marked xs count in asked-past (marked xs count) n (omega arith)

  pub plain_dead : n < count → holds n xs ≡ true → asked (marked xs count) n ≡ Err (dead_block n 0 0)
  plain_dead within condemned = plain_within within ∙ ap (λ b. judged n (cond b (dead 0 0) live)) condemned

  pub plain_live : n < count → holds n xs ≡ false → asked (marked xs count) n ≡ Ok tt
  plain_live within fine = plain_within within ∙ ap (λ b. judged n (cond b (dead 0 0) live)) fine

  pub plain_bound : asked (marked xs count) n ≡ Ok tt → n < count
  plain_bound ok = let size = length_marked xs count in let h = within_from_ok (marked xs count) n (ap is_ok ok) in omega arith

module _ (ms : List Mark) (n : ℕ) (within : n < length ms) where
  -- the marks from n on begin with the mark of n
  first_from : first_dead n (drop n ms) ≡ first_dead n (get_or ms n live ∷ drop (n + 1) ms)
  first_from = at_drop_more (first_dead n) ms n live within

  pub first-goes-on : is_ok (asked ms n) ≡ true → first_dead (n + 1) (drop (n + 1) ms) ≡ first_dead n (drop n ms)
  first-goes-on ok = sym (first_from ∙ goes_on (get_or ms n live) (sym (ap is_ok (asked-within ms n within)) ∙ ok))
    where
      goes_on : (m : Mark) → is_ok (judged n m) ≡ true → first_dead n (m ∷ drop (n + 1) ms) ≡ first_dead (n + 1) (drop (n + 1) ms)
      goes_on live yes' = refl
      goes_on (dead level cover) wrong = absurd (false≢true wrong)

  pub first_here : is_ok (asked ms n) ≡ false → asked ms n ≡ first_dead n (drop n ms)
  first_here refused = asked-within ms n within ∙ sym (first_from ∙ stops (get_or ms n live) (sym (ap is_ok (asked-within ms n within)) ∙ refused))
    where
      stops : (m : Mark) → is_ok (judged n m) ≡ false → first_dead n (m ∷ drop (n + 1) ms) ≡ judged n m
      stops live wrong = absurd (true≢false wrong)
      stops (dead level cover) no' = refl

-- the lowest dead block is still ahead where those before are live
pub walked : (ms : List Mark) (n : ℕ) → n ≤ length ms → ((k : ℕ) → k < n → is_ok (asked ms k) ≡ true) → first_dead n (drop n ms) ≡ first_dead 0 ms
walked ms zero within ok = refl
walked ms (suc n) within ok =
    let next : suc n ≡ n + 1 = omega arith in
    ap (λ k. first_dead k (drop k ms)) next ∙ first-goes-on ms n (omega arith) (ok n (omega arith)) ∙ walked ms n (omega arith) (λ k lt. ok k (omega arith))

-- where no block is dead, each mark is live
live_at : (k : ℕ) (ms : List Mark) (n : ℕ) → n < length ms → is_ok (first_dead k ms) ≡ true → get_or ms n live ≡ live
live_at k [] n within all = absurd (omega arith)
live_at k (live ∷ ms) zero within all = refl
live_at k (live ∷ ms) (suc n) within all = live_at (k + 1) ms n (omega arith) all
live_at k (dead level cover ∷ ms) n within all = absurd (false≢true all)

-- so each block is accepted
pub asked-from_all : (ms : List Mark) (n : ℕ) → n < length ms → is_ok (all_live ms) ≡ true → asked ms n ≡ Ok tt
unfolding all_live
asked-from_all ms n within all = asked-within ms n within ∙ ap (judged n) (live_at 0 ms n within all)
