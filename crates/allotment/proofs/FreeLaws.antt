-- Laws of the free list's steps: giving back pushes a number, taking pops the last one.
use Rattle.std.proofs.Common.{◌≡◌, ℕ, zero, suc, ◌+◌, ◌-◌, ◌*◌, ◌<◌, ◌≤◌, List, [], ◌∷◌, ◌++◌, reverse, length, get_or, set, take, drop, replicate, sym, refl, ap, ◌∙◌, ⊎_elim, add-one, arith}
use Rattle.std.proofs.lemmas.List.FromFn.{length-map-range_with_len, map-range_with_len_more}
use Rattle.std.proofs.lemmas.List.{ext_get_or, get_or_append_left, get_or_push, length_push, append-nil, append_assoc, reverse-append, set_at, take-replicate, drop-replicate}
use Rattle.std.proofs.lemmas.Bool.{cases_lt}
use Rattle.store.specs.Stores.{Block}
use Rattle.layout.specs.Superblocks.{nfree_of, free_at, free_list}
use Rattle.layout.specs.Words.{with_word}
use Rattle.volume.proofs.FreeLists.{length-free_list, get_or-free_list}
use Rattle.allotment.proofs.Written.{length-with_word, word_at-same, word_at-other}
use Rattle.allotment.specs.FreeSteps.{given, gives, taken, next_free, takes, numbers_taken}

pub length-given : (b : Block) (n : ℕ) → length (given b n) ≡ length b
unfolding given
length-given b n = length-with_word (with_word b (2 * (3 + nfree_of b)) n) 4 (nfree_of b + 1) ∙ length-with_word b (2 * (3 + nfree_of b)) n

pub length_taken : (b : Block) → length (taken b) ≡ length b
unfolding taken
length_taken b = length-with_word b 4 (nfree_of b - 1)

-- a list that is another with one number more
longer : (xs ys : List ℕ) (n : ℕ) → length ys ≡ length xs + 1 → ((j : ℕ) → j < length xs → get_or ys j 0 ≡ get_or xs j 0) → get_or ys (length xs) 0 ≡ n → ys ≡ xs ++ (n ∷ [])
longer xs ys n size before at =
    let long = length_push xs n in
    ext_get_or 0 ys (xs ++ (n ∷ [])) (size ∙ sym long)
    (λ j lt. ⊎_elim (λ below. before j below ∙ sym (get_or_append_left xs (n ∷ []) 0 j below)) (λ past. let e : j ≡ length xs = omega arith in ap (λ i. get_or ys i 0) e ∙ at ∙ sym (get_or_push xs n 0 j (sym e))) (cases_lt j (length xs)))

module _ (b : Block) (long : length b ≡ 512) (n : ℕ) (room : nfree_of b < 100) where
  pub nfree-given : nfree_of (given b n) ≡ nfree_of b + 1
  unfolding given
  nfree-given = let size = length-with_word b (2 * (3 + nfree_of b)) n in word_at-same (with_word b (2 * (3 + nfree_of b)) n) 4 (nfree_of b + 1) (omega arith)

  free_at-below : (j : ℕ) → j < nfree_of b → free_at (given b n) j ≡ free_at b j
  unfolding given
  free_at-below j below =
      word_at-other (with_word b (2 * (3 + nfree_of b)) n) 4 (nfree_of b + 1) (2 * (3 + j)) (λ e. omega arith) (λ e. omega arith) (λ e. omega arith) ∙ word_at-other b (2 * (3 + nfree_of b)) n (2 * (3 + j)) (λ e. omega arith) (λ e. omega arith) (λ e. omega arith)

  free_at-new : free_at (given b n) (nfree_of b) ≡ n
  unfolding given
  free_at-new =
      word_at-other (with_word b (2 * (3 + nfree_of b)) n) 4 (nfree_of b + 1) (2 * (3 + nfree_of b)) (λ e. omega arith) (λ e. omega arith) (λ e. omega arith) ∙ word_at-same b (2 * (3 + nfree_of b)) n (omega arith)

  -- giving back pushes the number
  pub free_list-given : 1 ≤ nfree_of b → free_list (given b n) ≡ free_list b ++ (n ∷ [])
  free_list-given some =
      let was = length-free_list b in
      let is = length-free_list (given b n) in
      longer (free_list b) (free_list (given b n)) n (omega (arith, nfree-given))
      (λ j lt. get_or-free_list (given b n) j (omega (arith, nfree-given)) ∙ free_at-below (1 + j) (omega arith) ∙ sym (get_or-free_list b j (omega arith)))
      (let e : 1 + length (free_list b) ≡ nfree_of b = omega arith in get_or-free_list (given b n) (length (free_list b)) (omega (arith, nfree-given)) ∙ ap (free_at (given b n)) e ∙ free_at-new)

-- the last of a list is given back first
gives_last : (b : Block) (xs : List ℕ) (x : ℕ) → gives b (reverse (xs ++ (x ∷ []))) ≡ gives (given b x) (reverse xs)
unfolding gives
gives_last b xs x = ap (gives b) (reverse-append xs (x ∷ []))

-- one turn of a loop that gives back from last to first
pub gives_next : (b next whole : Block) (xs ys : List ℕ) (x : ℕ) → next ≡ given b x → ys ≡ xs ++ (x ∷ []) → gives b (reverse ys) ≡ whole → gives next (reverse xs) ≡ whole
gives_next b next whole xs ys x is split sofar = ap (λ c. gives c (reverse xs)) is ∙ sym (gives_last b xs x) ∙ ap (λ zs. gives b (reverse zs)) (sym split) ∙ sofar

pub length-gives : (ns : List ℕ) (b : Block) → length (gives b ns) ≡ length b
unfolding gives
length-gives [] b = refl
length-gives (n ∷ ns) b = length-gives ns (given b n) ∙ length-given b n

pub nfree_gives : (ns : List ℕ) (b : Block) → length b ≡ 512 → nfree_of b + length ns ≤ 100 → nfree_of (gives b ns) ≡ nfree_of b + length ns
unfolding gives
nfree_gives [] b long room = omega arith
nfree_gives (n ∷ ns) b long room =
    let one = nfree-given b long n (omega arith) in
    let rest = nfree_gives ns (given b n) (length-given b n ∙ long) (omega arith) in
    omega arith

-- so giving back several pushes them in order
pub free_list-gives : (ns : List ℕ) (b : Block) → length b ≡ 512 → 1 ≤ nfree_of b → nfree_of b + length ns ≤ 100 → free_list (gives b ns) ≡ free_list b ++ ns
unfolding gives
free_list-gives [] b long some room = sym (append-nil (free_list b))
free_list-gives (n ∷ ns) b long some room =
    let one = nfree-given b long n (omega arith) in
    free_list-gives ns (given b n) (length-given b n ∙ long) (omega arith) (omega arith) ∙ ap (λ xs. xs ++ ns) (free_list-given b long n (omega arith) some) ∙ append_assoc (free_list b) (n ∷ []) ns

module _ (b : Block) (long : length b ≡ 512) where
  pub nfree_taken : nfree_of (taken b) ≡ nfree_of b - 1
  unfolding taken
  nfree_taken = word_at-same b 4 (nfree_of b - 1) (omega arith)

  free_at-taken : (j : ℕ) → free_at (taken b) j ≡ free_at b j
  unfolding taken
  free_at-taken j = word_at-other b 4 (nfree_of b - 1) (2 * (3 + j)) (λ e. omega arith) (λ e. omega arith) (λ e. omega arith)

  -- taking pops the last number
  pub free_list-taken : 2 ≤ nfree_of b → free_list b ≡ free_list (taken b) ++ (next_free b ∷ [])
  unfolding next_free
  free_list-taken some =
      let was = length-free_list b in
      let is = length-free_list (taken b) in
      longer (free_list (taken b)) (free_list b) (free_at b (nfree_of b - 1)) (omega (arith, nfree_taken))
      (λ j lt. get_or-free_list b j (omega (arith, nfree_taken)) ∙ sym (free_at-taken (1 + j)) ∙ sym (get_or-free_list (taken b) j (omega arith)))
      (let e : 1 + length (free_list (taken b)) ≡ nfree_of b - 1 = omega (arith, nfree_taken) in get_or-free_list b (length (free_list (taken b))) (omega (arith, nfree_taken)) ∙ ap (free_at b) e)

  pub length-takes : (n : ℕ) → length (takes b n) ≡ 512
  unfolding takes
  length-takes zero = long
  length-takes (suc n) = length_taken (takes b n) ∙ length-takes n

  pub takes_none : takes b 0 ≡ b
  unfolding takes
  takes_none = refl

  pub takes-more : (n : ℕ) → takes b (n + 1) ≡ taken (takes b n)
  unfolding takes
  takes-more n = rw add-one refl

pub nfree-takes : (b : Block) → length b ≡ 512 → (n : ℕ) → nfree_of (takes b n) ≡ nfree_of b - n
unfolding takes
nfree-takes b long zero = omega arith
nfree-takes b long (suc n) = let one = nfree_taken (takes b n) (length-takes b long n) in let rest = nfree-takes b long n in omega arith

pub numbers_taken-more : (b : Block) (n : ℕ) → numbers_taken b (n + 1) ≡ numbers_taken b n ++ (next_free (takes b n) ∷ [])
unfolding numbers_taken
numbers_taken-more b n = map-range_with_len_more (λ j. next_free (takes b j)) 0 n n (omega arith)

pub length-numbers_taken : (b : Block) (n : ℕ) → length (numbers_taken b n) ≡ n
unfolding numbers_taken
length-numbers_taken b n = length-map-range_with_len (λ j. next_free (takes b j)) 0 n

numbers_taken-none : (b : Block) → numbers_taken b 0 ≡ []
unfolding numbers_taken
numbers_taken-none b = refl

pub numbers_taken-one : (b : Block) → numbers_taken b 1 ≡ next_free b ∷ []
unfolding numbers_taken takes
numbers_taken-one b = refl

-- so taking several pops them, the last one first
pub free_list-takes : (b : Block) → length b ≡ 512 → (n : ℕ) → n < nfree_of b → free_list b ≡ free_list (takes b n) ++ reverse (numbers_taken b n)
unfolding takes
free_list-takes b long zero some = sym (append-nil (free_list b)) ∙ ap (λ xs. free_list b ++ reverse xs) (sym (numbers_taken-none b))
free_list-takes b long (suc n) some =
    let left = nfree-takes b long n in
    let rest = free_list-takes b long n (omega arith) in
    let one = free_list-taken (takes b n) (length-takes b long n) (omega arith) in
    let next : suc n ≡ n + 1 = omega arith in
    let numbers : reverse (numbers_taken b (suc n)) ≡ next_free (takes b n) ∷ reverse (numbers_taken b n) = ap (λ k. reverse (numbers_taken b k)) next ∙ ap reverse (numbers_taken-more b n) ∙ reverse-append (numbers_taken b n) (next_free (takes b n) ∷ []) in
    rest ∙ ap (λ xs. xs ++ reverse (numbers_taken b n)) one ∙ append_assoc (free_list (taken (takes b n))) (next_free (takes b n) ∷ []) (reverse (numbers_taken b n)) ∙ ap (λ xs. free_list (taken (takes b n)) ++ xs) (sym numbers)

-- the addresses of a file, one more taken
pub addresses_next : (b : Block) (size j x : ℕ) (addresses : List ℕ) → j < size → addresses ≡ numbers_taken b j ++ replicate (size - j) 0 → x ≡ next_free (takes b j) → set addresses j x ≡ numbers_taken b (j + 1) ++ replicate (size - (j + 1)) 0
addresses_next b size j x addresses few sofar is =
    let numbers = numbers_taken b j in
    let rest = replicate {A = ℕ} (size - (j + 1)) 0 in
    let left : size - j ≡ suc (size - (j + 1)) = omega arith in
    ap (λ xs. set xs j x) (sofar ∙ ap (λ m. numbers ++ replicate m 0) left) ∙ set_at numbers 0 rest x j (length-numbers_taken b j) ∙ ap (λ y. numbers ++ (y ∷ rest)) is ∙ sym (append_assoc numbers (next_free (takes b j) ∷ []) rest) ∙ ap (λ xs. xs ++ rest) (sym (numbers_taken-more b j))

pub addresses_none : (b : Block) (size : ℕ) → size ≤ 8 → take size (replicate 8 0) ≡ numbers_taken b 0 ++ replicate (size - 0) 0
addresses_none b size few = let e : size ≡ size - 0 = omega arith in take-replicate size 8 0 few ∙ ap (λ xs. xs ++ replicate size 0) (sym (numbers_taken-none b)) ∙ ap (λ m. numbers_taken b 0 ++ replicate m 0) e

-- and all of them, with the zeros behind
pub addresses_all : (b : Block) (size : ℕ) (addresses : List ℕ) → addresses ≡ numbers_taken b size ++ replicate (size - size) 0 → addresses ++ drop size (replicate 8 0) ≡ numbers_taken b size ++ replicate (8 - size) 0
addresses_all b size addresses all =
    let none : size - size ≡ 0 = omega arith in
    ap (λ xs. xs ++ drop size (replicate 8 0)) (all ∙ ap (λ m. numbers_taken b size ++ replicate m 0) none ∙ append-nil (numbers_taken b size)) ∙ ap (λ xs. numbers_taken b size ++ xs) (drop-replicate size 8 0)
