-- The records of the files, written one after the other over the caller's.
use Rattle.std.proofs.Common.{◌≡◌, ℕ, zero, suc, ◌+◌, ◌<◌, ◌≤◌, Bool, true, false, cond, List, [], ◌∷◌, ◌++◌, map, length, drop, set, sym, refl, ap, ◌∙◌, ⊎_elim, add-zero, add-one, arith}
use Rattle.std.proofs.lemmas.List.{append-nil, append_assoc, drop_more, length-append, length-map, map-append, map-id, set_at}
use Rattle.std.proofs.lemmas.List.FromFn.{filter_of_map_range_with_len_more}
use Rattle.std.proofs.lemmas.Bool.{cases_lt}
use Rattle.std.specs.List.{filter, range_with_len}
use Rattle.store.specs.Stores.{Block}
use Rattle.layout.specs.Entries.{Entries}
use Rattle.volume.specs.Directories.{used}
use Rattle.volume.specs.VolumeFiles.{used_among}
use Rattle.reading.specs.Listings.{record_at, one, records_among}
use Rattle.reading.specs.declared.list.FileRecord.{FileRecord}

-- the places of the used entries are those that a filter passes
pub used_among-filter : (d : Entries) (n : ℕ) → filter (used d) (range_with_len 0 n) ≡ used_among d n
unfolding used_among
used_among-filter d zero = refl
used_among-filter d (suc n) = let next : suc n ≡ n + 1 = omega arith in ap (λ m. filter (used d) (range_with_len 0 m)) next ∙ ap (filter (used d)) (sym (map-id (range_with_len 0 (n + 1)))) ∙ filter_of_map_range_with_len_more (used d) (λ k. k) 0 n n (omega arith) ∙ ap (λ xs. filter (used d) xs ++ cond (used d n) (n ∷ []) []) (map-id (range_with_len 0 n)) ∙ ap (λ xs. xs ++ cond (used d n) (n ∷ []) []) (used_among-filter d n)

-- one record more, if there is one
written : (b : Bool) (x : FileRecord) (sofar before records : List FileRecord) (filled : ℕ) → length sofar ≡ filled → (b ≡ true → filled < length before) → records ≡ sofar ++ drop filled before → cond b (set records filled x) records ≡ (sofar ++ cond b (x ∷ []) []) ++ drop (filled + cond b 1 0) before
written true x sofar before records filled size room is =
    let rest = drop_more before filled x (room refl) in
    ap (λ rs. set rs filled x) (is ∙ ap (λ tail. sofar ++ tail) rest) ∙ set_at sofar _ (drop (filled + 1) before) x filled size ∙ sym (append_assoc sofar (x ∷ []) (drop (filled + 1) before))
written false x sofar before records filled size room is =
    is ∙ ap (λ front. front ++ drop filled before) (sym (append-nil sofar)) ∙ ap (λ k. (sofar ++ []) ++ drop k before) (sym (add-zero filled))

module _ (d : Entries) where
  pub used_among-none : used_among d 0 ≡ []
  unfolding used_among
  used_among-none = refl

  used_among-more : (e : ℕ) → used_among d (e + 1) ≡ used_among d e ++ cond (used d e) (e ∷ []) []
  unfolding used_among
  used_among-more e = rw add-one refl

  -- one entry more
  pub count-more : (e : ℕ) → length (used_among d (e + 1)) ≡ length (used_among d e) + one d e
  count-more e = ap length (used_among-more e) ∙ length-append (used_among d e) (cond (used d e) (e ∷ []) []) ∙ ap (λ k. length (used_among d e) + k) (length-cond (used d e))
    where
      length-cond : (b : Bool) → length (cond b (e ∷ []) []) ≡ cond b 1 0
      length-cond true = refl
      length-cond false = refl

  -- of more entries at least as many are used
  count-mono : (m n : ℕ) → m ≤ n → length (used_among d m) ≤ length (used_among d n)
  count-mono m zero le = let e : m ≡ 0 = omega arith in let same = ap (λ k. length (used_among d k)) e in omega arith
  count-mono m (suc n) le =
      ⊎_elim
      (λ below.
      let rest = count-mono m n (omega arith) in
      let next : suc n ≡ n + 1 = omega arith in
      let same = ap (λ k. length (used_among d k)) next in
      let more = count-more n in
      omega arith)
      (λ past. let e : m ≡ suc n = omega arith in let same = ap (λ k. length (used_among d k)) e in omega arith)
      (cases_lt m (suc n))

module _ (v : List Block) (d : Entries) where
  records_among-more : (e : ℕ) → records_among v d (e + 1) ≡ records_among v d e ++ cond (used d e) (record_at v d e ∷ []) []
  records_among-more e =
      ap (map (record_at v d)) (used_among-more d e) ∙ map-append (record_at v d) (used_among d e) (cond (used d e) (e ∷ []) []) ∙ ap (λ xs. records_among v d e ++ xs) (map-cond (used d e))
    where
      map-cond : (b : Bool) → map (record_at v d) (cond b (e ∷ []) []) ≡ cond b (record_at v d e ∷ []) []
      map-cond true = refl
      map-cond false = refl

  pub length-records : (n : ℕ) → length (records_among v d n) ≡ length (used_among d n)
  length-records n = length-map (used_among d n) (record_at v d)

  -- where the records of the first n entries have places enough, there is one for a used entry among these
  pub room_left : {x : Entries} (n e filled places : ℕ) → x ≡ d → true ≡ used x e → e < n → filled ≡ length (used_among d e) → length (records_among v d n) ≤ places → filled < places
  room_left n e filled places same is inside count room =
      let here : one d e ≡ 1 = ap (λ b. cond b 1 0) (ap (λ x. used x e) (sym same) ∙ sym is) in
      let more = count-more d e in
      let most = count-mono d (e + 1) n (omega arith) in
      let all = length-records n in
      omega (arith, count, room)

  -- one entry more
  pub records_next : (e filled : ℕ) (before records : List FileRecord) → filled ≡ length (used_among d e) → (used d e ≡ true → filled < length before) → records ≡ records_among v d e ++ drop filled before → cond (used d e) (set records filled (record_at v d e)) records ≡ records_among v d (e + 1) ++ drop (filled + one d e) before
  records_next e filled before records count room is =
      written (used d e) (record_at v d e) (records_among v d e) before records filled (length-records e ∙ sym count) room is ∙ ap (λ xs. xs ++ drop (filled + one d e) before) (sym (records_among-more e))
