-- The places of the used entries of a directory.
use Rattle.std.proofs.Common.{◌≡◌, ℕ, zero, suc, ◌+◌, ◌<◌, ◌≤◌, true, false, cond, [], ◌∷◌, ◌++◌, length, get_or, ap, ◌∙◌, ⊎_elim, arith}
use Rattle.std.proofs.lemmas.List.{append-nil, length-append, get_or_append_left, get_or-append-add}
use Rattle.std.proofs.lemmas.Bool.{cases_Bool, cases_lt}
use Rattle.layout.specs.Entries.{Entries}
use Rattle.volume.specs.Directories.{used}
use Rattle.volume.specs.VolumeFiles.{used_among}

module _ (d : Entries) where
  more-used : (n : ℕ) → used d n ≡ true → used_among d (suc n) ≡ used_among d n ++ n ∷ []
  unfolding used_among
  more-used n is = ap (λ b. used_among d n ++ cond b (n ∷ []) []) is

  no_more-used : (n : ℕ) → used d n ≡ false → used_among d (suc n) ≡ used_among d n
  unfolding used_among
  no_more-used n is = ap (λ b. used_among d n ++ cond b (n ∷ []) []) is ∙ append-nil (used_among d n)

  none-used : (a : ℕ) → a < length (used_among d zero) → ⊥
  unfolding used_among
  none-used a lt = omega arith

  -- the list with one place more
  module _ (n : ℕ) (is : used d n ≡ true) where
    long : length (used_among d (suc n)) ≡ length (used_among d n) + 1
    long = ap length (more-used n is) ∙ length-append (used_among d n) (n ∷ [])

    front : (i : ℕ) → i < length (used_among d n) → get_or (used_among d (suc n)) i 0 ≡ get_or (used_among d n) i 0
    front i before = ap (λ ys. get_or ys i 0) (more-used n is) ∙ get_or_append_left (used_among d n) (n ∷ []) 0 i before

    last : (i : ℕ) → i < length (used_among d (suc n)) → length (used_among d n) ≤ i → get_or (used_among d (suc n)) i 0 ≡ n
    last i within past =
        let at : i ≡ length (used_among d n) + 0 = omega (arith, long) in
        cc (more-used n is, at, get_or-append-add (used_among d n) (n ∷ []) 0 0)

  -- each place in the list is that of a used entry
  pub used-at : (n a : ℕ) → a < length (used_among d n) → (get_or (used_among d n) a 0 < n) × (used d (get_or (used_among d n) a 0) ≡ true)
  used-at zero a lt = absurd (none-used a lt)
  used-at (suc n) a lt =
      ⊎_elim
      (λ is.
      ⊎_elim
      (λ before. let here = used-at n a before in let same = front n is a before in (omega arith, ap (used d) same ∙ here.1))
      (λ past. let same = last n is a lt past in (omega arith, ap (used d) same ∙ is))
      (cases_lt a (length (used_among d n))))
      (λ not_so.
      let list = no_more-used n not_so in
      let same = ap (λ ys. get_or ys a 0) list in
      let here = used-at n a (rw list at lt) in
      (omega arith, ap (used d) same ∙ here.1))
      (cases_Bool (used d n))

  -- no place stands there twice
  pub used-once : (n a b : ℕ) → a < length (used_among d n) → b < length (used_among d n) → get_or (used_among d n) a 0 ≡ get_or (used_among d n) b 0 → a ≡ b
  used-once zero a b p q same = absurd (none-used a p)
  used-once (suc n) a b p q same =
      ⊎_elim
      (λ is.
      let whole = long n is in
      ⊎_elim
      (λ a-front.
      let here = front n is a a-front in
      ⊎_elim
      (λ b-front. let there = front n is b b-front in used-once n a b a-front b-front (cc))
      (λ b-last. absurd (omega (arith, (used-at n a a-front).0, last n is b q b-last)))
      (cases_lt b (length (used_among d n))))
      (λ a-last.
      ⊎_elim
      (λ b-front. absurd (omega (arith, (used-at n b b-front).0, front n is b b-front, last n is a p a-last)))
      (λ b-last. omega arith)
      (cases_lt b (length (used_among d n))))
      (cases_lt a (length (used_among d n))))
      (λ not_so.
      let list = no_more-used n not_so in
      used-once n a b (rw list at p) (rw list at q) (rw list at same))
      (cases_Bool (used d n))
