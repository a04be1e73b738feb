-- Room in the free list of a sound volume for the blocks of a file, and what is taken from it.
use Rattle.std.proofs.Common.{◌≡◌, ℕ, zero, suc, ◌+◌, ◌-◌, ◌*◌, ◌<◌, ◌≤◌, true, false, not, ◌&&◌, ◌||◌, eqb, ltb, leb, List, ◌++◌, reverse, length, get_or, replicate, sym, refl, ap, ◌∙◌, subst, ⊎_elim, arith}
use Rattle.std.proofs.lemmas.List.{length-take-le, length-reverse, length-append, get_or-take, get_or-reverse, get_or_append_left, get_or-append-add, get_or-append_right}
use Rattle.std.proofs.lemmas.List.Folds.{list_all_at}
use Rattle.std.proofs.lemmas.Bool.{and_parts, and_left, lt-leb, eqb-true, cases_Bool, cases_lt, both_ways, cond-true}
use Rattle.store.specs.Stores.{Block}
use Rattle.layout.proofs.Reading.{length-words_at}
use Rattle.layout.specs.Inodes.{allocated, blocks_for, inode_of}
use Rattle.layout.specs.Superblocks.{isize_of, nfree_of, free_at, free_list, is_data}
use Rattle.volume.proofs.Everys.{every-at}
use Rattle.volume.proofs.FreeLists.{length-free_list}
use Rattle.volume.proofs.RuleFacts.{sizes_from, nfree_from}
use Rattle.volume.proofs.SoundFacts.{RulesHold}
use Rattle.volume.specs.Numbers.{all_data, different, occurrences, total}
use Rattle.volume.specs.Rules.{super_of, isize_in, held_by, standings}
use Rattle.reading.proofs.FileFacts.{data_there}
use Rattle.reading.proofs.Finding.{inode_is, number_facts, file_data}
use Rattle.reading.specs.Found.{FileIn}
use Rattle.reading.specs.declared.file.File.{File}
use Rattle.writing.proofs.Counting.{total-add, total_at, total_most, total-occurrences, occurrences-none, occurrences-take}
use Rattle.allotment.proofs.FreeLaws.{nfree_gives, free_list-gives, length-gives, free_list-takes, length-numbers_taken}
use Rattle.allotment.specs.FreeSteps.{takes, numbers_taken}
use Rattle.writing.specs.Writes.{own_blocks, given_back, inode_rewritten}

-- what is taken from the free list stood in it
pub taken_from : (P : ℕ → Type 0) (b : Block) → length b ≡ 512 → (n : ℕ) → n < nfree_of b → ((k : ℕ) → k < length (free_list b) → P (get_or (free_list b) k 0)) → (j : ℕ) → j < n → P (get_or (numbers_taken b n) j 0)
taken_from P b long n some all j within =
    let xs = numbers_taken b n in
    let ys = free_list (takes b n) in
    let count = length-numbers_taken b n in
    let turned = length-reverse xs in
    let k = n - 1 - j in
    let list = free_list-takes b long n some in
    let whole = ap length list ∙ length-append ys (reverse xs) in
    let place : length xs - 1 - k ≡ j = omega arith in
    let is : get_or (free_list b) (length ys + k) 0 ≡ get_or xs j 0 = ap (λ zs. get_or zs (length ys + k) 0) list ∙ get_or-append-add ys (reverse xs) k 0 ∙ get_or-reverse xs k 0 (omega arith) ∙ ap (λ m. get_or xs m 0) place in
    subst P is (all (length ys + k) (omega arith))

module _ (v : List Block) (sound : RulesHold v) where
  -- the free list names data blocks
  pub free_data : (j : ℕ) → j < length (free_list (super_of v)) → is_data (isize_in v) (length v) (get_or (free_list (super_of v)) j 0) ≡ true
  free_data j within =
      let b = super_of v in
      let parts = and_parts (leb 1 (nfree_of b) && leb (nfree_of b) 100) (eqb (free_at b 0) 0 && (all_data (isize_of b) (length v) (free_list b) && different (free_list b))) sound.free_places in
      let rest = and_parts (eqb (free_at b 0) 0) (all_data (isize_of b) (length v) (free_list b) && different (free_list b)) parts.1 in
      let all = (and_parts (all_data (isize_of b) (length v) (free_list b)) (different (free_list b)) rest.1).0 in
      let passes = is_data (isize_of b) (length v) in
      ⊎_elim (λ is. is) (λ stray. absurd (both_ways (all_data (isize_of b) (length v) (free_list b)) (list_all_at passes (free_list b) j 0 within stray) all)) (cases_Bool (passes (get_or (free_list b) j 0)))

  pub nfree_range : (1 ≤ nfree_of (super_of v)) × (nfree_of (super_of v) ≤ 100)
  nfree_range = nfree_from (super_of v) (length v) sound.free_places

  module _ (f : File) (found : FileIn v f) where
    size_small : f.inode.size ≤ 4096
    size_small = (file_data v f sound found).0

    addresses_long : length f.inode.addresses ≡ 8
    addresses_long = ap (λ i. length i.addresses) (inode_is v f sound found) ∙ length-words_at 8 _ _

    own_long : length (own_blocks f.inode) ≡ blocks_for f.inode.size
    own_long = length-take-le (blocks_for f.inode.size) f.inode.addresses (omega (arith, addresses_long, size_small))

    own_data : (j : ℕ) → j < length (own_blocks f.inode) → is_data (isize_in v) (length v) (get_or (own_blocks f.inode) j 0) ≡ true
    own_data j lt =
        let within : j < blocks_for f.inode.size = omega (arith, own_long) in
        ap (is_data (isize_in v) (length v)) (get_or-take (blocks_for f.inode.size) f.inode.addresses j 0 within) ∙ (file_data v f sound found).1 j within

    -- a number that is no data block stands neither in the free list nor among the file's
    stands-not : (k : ℕ) → is_data (isize_in v) (length v) k ≡ false → occurrences k (free_list (super_of v)) + occurrences k (own_blocks f.inode) ≡ 0
    stands-not k stray =
        let free = occurrences-none k (free_list (super_of v)) (λ j lt is. both_ways (is_data (isize_in v) (length v) k) stray (sym (ap (is_data (isize_in v) (length v)) is) ∙ free_data j lt)) in
        let own = occurrences-none k (own_blocks f.inode) (λ j lt is. both_ways (is_data (isize_in v) (length v) k) stray (sym (ap (is_data (isize_in v) (length v)) is) ∙ own_data j lt)) in
        omega arith

    -- and a data block stands once
    stands-once : (k : ℕ) → k < length v → is_data (isize_in v) (length v) k ≡ true → occurrences k (free_list (super_of v)) + occurrences k (own_blocks f.inode) ≤ 1
    stands-once k within is =
        let i = f.number in
        let facts = number_facts v f sound found in
        let here = every-at (λ n. not (is_data (isize_in v) (length v) n) || eqb (standings v n) 1) (length v) k within sound.blocks_once in
        let once = eqb-true (standings v k) 1 (sym (ap (λ b. not b || eqb (standings v k) 1) is) ∙ here) in
        let at : suc (i - 1) ≡ i = omega (arith, facts.least) in
        let holds : held_by k (inode_of v (suc (i - 1))) ≡ occurrences k f.inode.addresses = ap (λ m. held_by k (inode_of v m)) at ∙ cond-true (allocated (inode_of v i)) (occurrences k (inode_of v i).addresses) 0 facts.held ∙ sym (ap (λ x. occurrences k x.addresses) (inode_is v f sound found)) in
        let one = total_at (λ j. held_by k (inode_of v (suc j))) (16 * isize_in v) (i - 1) (omega (arith, facts.least, facts.most)) in
        let part = occurrences-take k (blocks_for f.inode.size) f.inode.addresses in
        omega arith

    -- so there is room to give the file's blocks back
    pub own_room : nfree_of (super_of v) + blocks_for f.inode.size ≤ 100
    own_room =
        let b = super_of v in
        let sizes = sizes_from b (length v) sound.sizes in
        let free = total-occurrences (length v) (free_list b) (λ j lt. (data_there v sound (get_or (free_list b) j 0) (free_data j lt)).1) in
        let own = total-occurrences (length v) (own_blocks f.inode) (λ j lt. (data_there v sound (get_or (own_blocks f.inode) j 0) (own_data j lt)).1) in
        let both = total-add (λ k. occurrences k (free_list b)) (λ k. occurrences k (own_blocks f.inode)) (length v) in
        let most = at_most (length v) (omega arith) (λ k lt. lt) in
        let long = length-free_list b in
        omega (arith, own_long, nfree_range)
      where
        at_most : (n : ℕ) → 1 ≤ n → ((k : ℕ) → k < n → k < length v) → total n (λ k. occurrences k (free_list (super_of v)) + occurrences k (own_blocks f.inode)) + 1 ≤ n
        at_most zero least below = absurd (omega arith)
        at_most (suc n) least below =
            let most = total_most (λ k. occurrences k (free_list (super_of v)) + occurrences k (own_blocks f.inode)) n (stands-not 0 (and_left (leb (isize_in v + 2) 0) (ltb 0 (length v)) (lt-leb (isize_in v + 2) 0 (omega arith)))) (λ k lt. ⊎_elim (λ is. stands-once k (below k lt) is) (λ stray. let none = stands-not k stray in omega arith) (cases_Bool (is_data (isize_in v) (length v) k))) in
            omega arith

    module _ (long : length (super_of v) ≡ 512) where
      given-list : free_list (given_back (super_of v) f.inode) ≡ free_list (super_of v) ++ reverse (own_blocks f.inode)
      unfolding given_back
      given-list =
          let turned = length-reverse (own_blocks f.inode) in
          free_list-gives (reverse (own_blocks f.inode)) (super_of v) long nfree_range.0 (omega (arith, own_room, own_long))

      pub given-long : length (given_back (super_of v) f.inode) ≡ 512
      unfolding given_back
      given-long = length-gives (reverse (own_blocks f.inode)) (super_of v) ∙ long

      pub given-nfree : nfree_of (given_back (super_of v) f.inode) ≡ nfree_of (super_of v) + blocks_for f.inode.size
      unfolding given_back
      given-nfree =
          let turned = length-reverse (own_blocks f.inode) in
          let all = nfree_gives (reverse (own_blocks f.inode)) (super_of v) long (omega (arith, own_room, own_long)) in
          omega (arith, own_long)

      -- the free list with the file's blocks names data blocks
      given-data : (k : ℕ) → k < length (free_list (given_back (super_of v) f.inode)) → is_data (isize_in v) (length v) (get_or (free_list (given_back (super_of v) f.inode)) k 0) ≡ true
      given-data k lt =
          let xs = free_list (super_of v) in
          let ys = own_blocks f.inode in
          let turned = length-reverse ys in
          let whole = ap length given-list ∙ length-append xs (reverse ys) in
          ap (λ zs. is_data (isize_in v) (length v) (get_or zs k 0)) given-list ∙
          ⊎_elim
          (λ front. ap (is_data (isize_in v) (length v)) (get_or_append_left xs (reverse ys) 0 k front) ∙ free_data k front)
          (λ back. ap (is_data (isize_in v) (length v)) (get_or-append_right xs (reverse ys) (length xs) k 0 refl back ∙ get_or-reverse ys (k - length xs) 0 (omega arith)) ∙ own_data (length ys - 1 - (k - length xs)) (omega arith))
          (cases_lt k (length xs))

      -- so what a rewritten file takes is in the volume
      pub rewritten_there : (size : ℕ) → blocks_for size < nfree_of (super_of v) + blocks_for f.inode.size → (j : ℕ) → j < blocks_for size → get_or (inode_rewritten (super_of v) f.inode size).addresses j 0 < length v
      unfolding inode_rewritten
      rewritten_there size enough j lt =
          let b = given_back (super_of v) f.inode in
          let n = blocks_for size in
          let P : ℕ → Type 0 = λ x. is_data (isize_in v) (length v) x ≡ true in
          let numbers = numbers_taken b n in
          let count = length-numbers_taken b n in
          let is = taken_from P b given-long n (omega (arith, given-nfree)) given-data j lt in
          let there = data_there v sound (get_or numbers j 0) is in
          let front = get_or_append_left numbers (replicate (8 - length numbers) 0) 0 j (omega arith) in
          omega (arith, there.1)
