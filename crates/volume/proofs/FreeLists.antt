-- Laws of the free list as the superblock holds it.
use Rattle.std.proofs.Common.{◌≡◌, ℕ, ◌+◌, ◌-◌, ◌*◌, ◌<◌, ◌≤◌, true, ◌&&◌, eqb, leb, List, length, get_or, take, drop, sym, ap, ◌∙◌, arith}
use Rattle.std.proofs.lemmas.List.FromFn.{length-map-range_with_len, get_or-map-range_with_len}
use Rattle.std.proofs.lemmas.List.{ext_get_or, get_or-take, get_or-drop, length-take, length-drop}
use Rattle.std.proofs.lemmas.Bool.{and_from, le-leb}
use Rattle.store.specs.Stores.{Block}
use Rattle.volume.specs.Numbers.{all_data, different}
use Rattle.volume.specs.Rules.{good_free}
use Rattle.layout.specs.Superblocks.{free_at, free_list, isize_of, nfree_of}
use Rattle.layout.proofs.Reading.{length-words_at, get_or-words_at}
use Rattle.layout.specs.Words.{word_at, words_at}

module _ (b : Block) where
  pub length-free_list : length (free_list b) ≡ nfree_of b - 1
  unfolding free_list
  length-free_list = length-map-range_with_len (λ j. free_at b (1 + j)) 0 (nfree_of b - 1)

  pub get_or-free_list : (j : ℕ) → j < nfree_of b - 1 → get_or (free_list b) j 0 ≡ free_at b (1 + j)
  unfolding free_list
  get_or-free_list j within = get_or-map-range_with_len (λ i. free_at b (1 + i)) 0 (nfree_of b - 1) j j 0 within (omega arith)

  -- place j among the hundred words that begin at byte 6
  pub place_is : (j : ℕ) → j < 100 → get_or (words_at 100 b 6) j 0 ≡ free_at b j
  place_is j within = let e : 6 + 2 * j ≡ 2 * (3 + j) = omega arith in get_or-words_at 100 b 6 j within ∙ ap (word_at b) e

  -- the places from 1 on that are in use are the free list
  pub named-is : (nfree : ℕ) → nfree ≡ nfree_of b → nfree ≤ 100 → take (nfree - 1) (drop 1 (words_at 100 b 6)) ≡ free_list b
  named-is nfree e most =
      let all = length-words_at 100 b 6 in
      let rest = length-drop 1 (words_at 100 b 6) in
      let front = length-take (nfree - 1) (drop 1 (words_at 100 b 6)) in
      ext_get_or 0 (take (nfree - 1) (drop 1 (words_at 100 b 6))) (free_list b) (omega (arith, length-free_list))
      (λ j lt.
      let within : j < nfree - 1 = omega arith in
      get_or-take (nfree - 1) (drop 1 (words_at 100 b 6)) j 0 within ∙ get_or-drop 1 (words_at 100 b 6) j 0 ∙ place_is (1 + j) (omega arith) ∙ sym (get_or-free_list j (omega arith)))

-- the second rule, as the code asks it of the places that it has read
pub good_free-read : (b : Block) (count nfree isize : ℕ) (places : List ℕ) → nfree ≡ nfree_of b → isize ≡ isize_of b → places ≡ words_at 100 b 6 → 1 ≤ nfree → nfree ≤ 100 → good_free b count ≡ (eqb (get_or places 0 0) 0 && (all_data isize count (take (nfree - 1) (drop 1 places)) && different (take (nfree - 1) (drop 1 places))))
good_free-read b count nfree isize places counts inodes read least most =
    let named : take (nfree - 1) (drop 1 places) ≡ free_list b = ap (λ ps. take (nfree - 1) (drop 1 ps)) read ∙ named-is b nfree counts most in
    let first : get_or places 0 0 ≡ free_at b 0 = ap (λ ps. get_or ps 0 0) read ∙ place_is b 0 (omega arith) in
    let in_range : (leb 1 (nfree_of b) && leb (nfree_of b) 100) ≡ true = and_from _ _ (le-leb 1 (nfree_of b) (omega arith)) (le-leb (nfree_of b) 100 (omega arith)) in
    cc
