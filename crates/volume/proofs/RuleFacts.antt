-- What follows from a rule that holds.
use Rattle.std.proofs.Common.{◌≡◌, ℕ, suc, ◌+◌, ◌*◌, ◌/◌, ◌^◌, ◌<◌, ◌≤◌, true, not, ◌&&◌, ◌||◌, eqb, ltb, leb, List, length, get_or, sym, ap, ◌∙◌, arith}
use lib.Bits.{bit_and}
use Rattle.std.proofs.lemmas.Nat.{and_shr}
use Rattle.std.proofs.lemmas.Bool.{and_parts, ltb-true, lt-ltb, eqb-true, ne_eqb, not_from_false, cond-true}
use Rattle.std.proofs.lemmas.Bool.Decides.{nat_tests}
use Rattle.std.proofs.lemmas.List.Sums.{AllPass-from_list_all}
use Rattle.store.specs.Stores.{Block}
use Rattle.volume.proofs.Everys.{every-at}
use Rattle.volume.specs.Every.{every}
use Rattle.layout.specs.Inodes.{allocated, blocks_for, inode_of}
use Rattle.volume.specs.Rules.{good_sizes, good_free, is_directory, good_address, good_addresses, super_of, isize_in, s1, s3, s5}
use Rattle.layout.specs.declared.inode.Inode.{Inode}
use Rattle.layout.specs.Superblocks.{isize_of, nfree_of, is_data}
use Rattle.volume.specs.Numbers.{all_data}

pub record Sizes (b : Block) (count : ℕ) : Type 0 where
  pub most : count ≤ 100
  pub some_inodes : 1 ≤ isize_of b
  pub room : isize_of b + 3 ≤ count

pub sizes_from : (b : Block) (count : ℕ) → good_sizes b count ≡ true → Sizes b count
sizes_from b count holds = record { most = grind (arith, nat_tests); some_inodes = grind (arith, nat_tests); room = grind (arith, nat_tests) }

-- the free list has 1 to 100 places in use
pub nfree_from : (b : Block) (count : ℕ) → good_free b count ≡ true → (1 ≤ nfree_of b) × (nfree_of b ≤ 100)
nfree_from b count holds = (grind (arith, nat_tests), grind (arith, nat_tests))

-- each number of a list of data blocks is one
pub all_data-at : (isize count : ℕ) (xs : List ℕ) (j : ℕ) → j < length xs → all_data isize count xs ≡ true → is_data isize count (get_or xs j 0) ≡ true
all_data-at isize count xs j within all = AllPass-from_list_all (is_data isize count) xs all j 0 within

-- a directory's mode has the bit of an allocated inode
pub directory-allocated : (i : Inode) → is_directory i ≡ true → allocated i ≡ true
directory-allocated i holds =
    let kind = eqb-true (bit_and i.mode 0xf000) 0xc000 (and_parts _ (eqb i.links 2) (and_parts (eqb (bit_and i.mode 0xf000) 0xc000 && eqb i.links 2) _ holds).0).0 in
    let top : bit_and (i.mode / 2 ^ 15) 1 ≡ 1 = sym (and_shr i.mode 0xf000 15) ∙ ap (λ m. m / 2 ^ 15) kind in
    let bit : bit_and i.mode 0x8000 / 2 ^ 15 ≡ 1 = and_shr i.mode 0x8000 15 ∙ top in
    not_from_false (eqb (bit_and i.mode 0x8000) 0) (ne_eqb (bit_and i.mode 0x8000) 0 (λ none. let z : ◌≡◌ {A = ℕ} 0 1 = ap (λ m. m / 2 ^ 15) (sym none) ∙ bit in omega arith))

pub directory_size : (i : Inode) → is_directory i ≡ true → (32 ≤ i.size) × (i.size ≤ 4096)
directory_size i holds = (grind (arith, nat_tests), grind (arith, nat_tests))

-- the blocks of the directory are in the volume
pub directory_there : (v : List Block) → s1 v ≡ true → s3 v ≡ true → s5 v ≡ true → (j : ℕ) → j < blocks_for (inode_of v 1).size → get_or (inode_of v 1).addresses j 0 < length v
directory_there v sizes root addresses j within =
    let i = inode_of v 1 in
    let some = (sizes_from (super_of v) (length v) sizes).some_inodes in
    let good = every-at (λ k. good_addresses (isize_in v) (length v) (inode_of v (suc k))) (16 * isize_in v) 0 (omega arith) addresses in
    let all : every 8 (good_address (isize_in v) (length v) i) ≡ true = sym (ap (λ a. not a || every 8 (good_address (isize_in v) (length v) i)) (directory-allocated i root)) ∙ good in
    let here = every-at (good_address (isize_in v) (length v) i) 8 j (omega (arith, (directory_size i root).1)) all in
    let is-data = sym (cond-true (ltb j (blocks_for i.size)) _ _ (lt-ltb j (blocks_for i.size) within)) ∙ here in
    ltb-true (get_or i.addresses j 0) (length v) (and_parts (leb (isize_in v + 2) (get_or i.addresses j 0)) _ is-data).1
