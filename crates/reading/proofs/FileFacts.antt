-- What follows from the soundness of a volume for its files.
use Rattle.std.proofs.Common.{◌≡◌, ℕ, ◌+◌, ◌*◌, ◌<◌, ◌≤◌, Bool, true, false, not, ◌&&◌, ◌||◌, eqb, ltb, leb, List, length, get_or, sym, ap, ◌∙◌, arith}
use lib.Bits.{bit_and}
use Rattle.std.proofs.lemmas.Bool.{and_parts, leb-true, ltb-true, lt-ltb, ne_eqb, cond-true}
use Rattle.store.specs.Stores.{Block}
use Rattle.layout.specs.Inodes.{allocated, blocks_for, inode_block, inode_of}
use Rattle.layout.specs.Superblocks.{is_data}
use Rattle.volume.proofs.Everys.{every-at}
use Rattle.volume.proofs.RuleFacts.{sizes_from, directory_size}
use Rattle.volume.proofs.SoundFacts.{RulesHold, inode_passes}
use Rattle.volume.specs.Directories.{used, well_named, well_numbered, entered}
use Rattle.volume.specs.Every.{every}
use Rattle.volume.specs.Rules.{is_plain_file, free_or_plain, good_address, good_addresses, every_inode, super_of, isize_in, directory_of, entry_count}

-- An allocated inode other than the first is a plain file's, and its blocks are data blocks.
pub record FileFacts (v : List Block) (i : ℕ) : Type 0 where
  pub least : 2 ≤ i
  pub most : i ≤ 16 * isize_in v
  pub held : allocated (inode_of v i) ≡ true
  pub small : (inode_of v i).size ≤ 4096
  pub there : inode_block i < length v
  pub data_blocks : (j : ℕ) → j < blocks_for (inode_of v i).size → is_data (isize_in v) (length v) (get_or (inode_of v i).addresses j 0) ≡ true

-- what an alternative leaves where the first is ruled out
or_second : (x y : Bool) → x ≡ false → (x || y) ≡ true → y ≡ true
or_second x y fails either = sym (ap (λ b. b || y) fails) ∙ either

module _ (v : List Block) (sound : RulesHold v) where
  pub address_data : (i : ℕ) → 1 ≤ i → i ≤ 16 * isize_in v → allocated (inode_of v i) ≡ true → (inode_of v i).size ≤ 4096 → (j : ℕ) → j < blocks_for (inode_of v i).size → is_data (isize_in v) (length v) (get_or (inode_of v i).addresses j 0) ≡ true
  address_data i least most held small j within =
      let good = inode_passes (λ _. good_addresses (isize_in v) (length v)) v (isize_in v) sound.addresses i least most in
      let all = or_second (not (allocated (inode_of v i))) (every 8 (good_address (isize_in v) (length v) (inode_of v i))) (ap not held) good in
      let here = every-at (good_address (isize_in v) (length v) (inode_of v i)) 8 j (omega arith) all in
      sym (cond-true (ltb j (blocks_for (inode_of v i).size)) _ _ (lt-ltb j (blocks_for (inode_of v i).size) within)) ∙ here

  -- a data block is in the volume
  pub data_there : (n : ℕ) → is_data (isize_in v) (length v) n ≡ true → (isize_in v + 2 ≤ n) × (n < length v)
  data_there n is = let both = and_parts (leb (isize_in v + 2) n) (ltb n (length v)) is in (leb-true (isize_in v + 2) n both.0, ltb-true n (length v) both.1)

  -- a used entry has the number of such an inode
  pub file_facts : (e : ℕ) → e < entry_count v → used (directory_of v) e ≡ true → FileFacts v (directory_of v e).inode
  file_facts e within is =
      let i = (directory_of v e).inode in
      let d = directory_of v in
      let parts = and_parts (every (entry_count v) (well_named d)) (every (entry_count v) (well_numbered v (isize_in v) d) && every_inode (entered d (entry_count v)) v (isize_in v)) sound.entries in
      let numbered = (and_parts (every (entry_count v) (well_numbered v (isize_in v) d)) (every_inode (entered d (entry_count v)) v (isize_in v)) parts.1).0 in
      let here = or_second (not (used d e)) ((leb 2 i && leb i (16 * isize_in v)) && allocated (inode_of v i)) (ap not is) (every-at (well_numbered v (isize_in v) d) (entry_count v) e within numbered) in
      let both = and_parts (leb 2 i && leb i (16 * isize_in v)) (allocated (inode_of v i)) here in
      let range = and_parts (leb 2 i) (leb i (16 * isize_in v)) both.0 in
      let low = leb-true 2 i range.0 in
      let high = leb-true i (16 * isize_in v) range.1 in
      let sizes = sizes_from (super_of v) (length v) sound.sizes in
      let kind = or_second (eqb i 1) (not (allocated (inode_of v i)) || is_plain_file (inode_of v i)) (ne_eqb i 1 (λ e. omega arith)) (inode_passes free_or_plain v (isize_in v) sound.inodes i (omega arith) high) in
      let plain = or_second (not (allocated (inode_of v i))) (is_plain_file (inode_of v i)) (ap not both.1) kind in
      let rest = (and_parts (eqb (bit_and (inode_of v i).mode 0xf000) 0x8000) (eqb (inode_of v i).links 1 && leb (inode_of v i).size 4096) plain).1 in
      let size = leb-true (inode_of v i).size 4096 (and_parts (eqb (inode_of v i).links 1) (leb (inode_of v i).size 4096) rest).1 in
      record { least = low; most = high; held = both.1; small = size; there = omega arith; data_blocks = address_data i (omega arith) high both.1 size }

  -- the directory has at most 256 entries
  pub few_entries : entry_count v ≤ 256
  few_entries = let size = directory_size (inode_of v 1) sound.root in omega arith
