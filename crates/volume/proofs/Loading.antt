-- One block of a file more in a buffer.
use Rattle.std.proofs.Common.{◌≡◌, ℕ, ◌+◌, ◌-◌, ◌*◌, ◌/◌, ◌<◌, ◌≤◌, List, [], ◌++◌, map, length, get_or, take, drop, replicate, sym, ap, ◌∙◌, ⊎_elim, arith}
use borrow.Rule.Slice.PartMut.{put_mid}
use Rattle.std.proofs.lemmas.List.{flat_map_more, take_more, get_or-take, get_or-drop, get_or_past, get_or-replicate, length-take, length-replicate}
use Rattle.std.proofs.lemmas.Slice.{take-put_mid, drop-put_mid}
use Rattle.std.proofs.lemmas.Bool.{cases_lt}
use Rattle.std.specs.List.{range_with_len, flat_map}
use Rattle.store.proofs.Cuts.{length-put_mid}
use Rattle.store.specs.Stores.{Block}
use Rattle.layout.specs.Entries.{Entries, entry_at}
use Rattle.volume.specs.Files.{file_blocks}
use Rattle.layout.specs.Inodes.{blocks_for, inode_of}
use Rattle.layout.specs.declared.inode.Inode.{Inode}
use Rattle.volume.specs.Openings.{LoadedDirectory}
use Rattle.volume.specs.declared.directory.Directory.{Directory}
use Rattle.layout.specs.Words.{byte_at, bytes_at}

get_or-zeros : (n i : ℕ) → ◌≡◌ {A = ℕ} (get_or (replicate n 0) i 0) 0
get_or-zeros n i =
    let long = length-replicate {A = ℕ} n 0 in
    ⊎_elim (λ within. get_or-replicate {A = ℕ} n i 0 0 within) (λ past. get_or_past (replicate n 0) i 0 (omega arith)) (cases_lt i n)

-- entries by a function that reads a byte
abbrev entries_by : (ℕ → ℕ) → Entries
entries_by read e = record { inode = read (16 * e) + 256 * read (16 * e + 1); name = map (λ j. read (16 * e + 2 + j)) (range_with_len 0 14) }

module _ (v : List Block) (addresses : List ℕ) where
  file_blocks-more : (j : ℕ) → j < length addresses → file_blocks v addresses j ++ get_or v (get_or addresses j 0) [] ≡ file_blocks v addresses (j + 1)
  file_blocks-more j within =
      flat_map_more (λ a. get_or v a []) [] (take j addresses) (get_or addresses j 0) ∙ ap (flat_map (λ a. get_or v a [])) (sym (take_more addresses j 0 within))

  module _ (contents part : List ℕ) (j k : ℕ) (long : length contents ≡ 4096) (few : j < 8) (within : j < length addresses) (whole : k ≡ 512) (size : length part ≡ 512) where
    fits : 512 * j + k ≤ length contents
    fits = omega arith

    pub length-loaded : length (put_mid (512 * j) k contents part) ≡ 4096
    length-loaded = length-put_mid (512 * j) k contents part fits (size ∙ sym whole) ∙ long

    pub loaded_more : take (512 * j) contents ≡ file_blocks v addresses j → part ≡ get_or v (get_or addresses j 0) [] → take (512 * (j + 1)) (put_mid (512 * j) k contents part) ≡ file_blocks v addresses (j + 1)
    loaded_more sofar is =
        take-put_mid (512 * j) k contents part (512 * (j + 1)) (omega arith) (omega arith) ∙ ap (λ front. front ++ part) sofar ∙ ap (λ b. file_blocks v addresses j ++ b) is ∙ file_blocks-more j within

    -- what lies behind the blocks that are wanted stays
    pub rest_kept : (n : ℕ) → j < n → drop (512 * n) (put_mid (512 * j) k contents part) ≡ drop (512 * n) contents
    rest_kept n before = drop-put_mid (512 * j) k contents part (512 * n) (omega arith) (omega arith) (size ∙ sym whole)

  -- a buffer of zeros, once the blocks are loaded, reads as the blocks alone: past them every byte is 0
  loaded_byte : (contents : List ℕ) (n : ℕ) → length contents ≡ 4096 → n ≤ 8 → take (512 * n) contents ≡ file_blocks v addresses n → drop (512 * n) contents ≡ drop (512 * n) (replicate 4096 0) → (i : ℕ) → byte_at contents i ≡ byte_at (file_blocks v addresses n) i
  loaded_byte contents n long few front rest i =
      ⊎_elim
      (λ within. sym (get_or-take (512 * n) contents i 0 within) ∙ ap (λ xs. get_or xs i 0) front)
      (λ past.
      let at : 512 * n + (i - 512 * n) ≡ i = omega arith in
      let size = length-take (512 * n) contents in
      let same = ap length front in
      ap (λ k. get_or contents k 0) (sym at) ∙ sym (get_or-drop (512 * n) contents (i - 512 * n) 0) ∙ ap (λ xs. get_or xs (i - 512 * n) 0) rest ∙ get_or-drop (512 * n) (replicate 4096 0) (i - 512 * n) 0 ∙ get_or-zeros 4096 (512 * n + (i - 512 * n)) ∙
      sym (get_or_past (file_blocks v addresses n) i 0 (omega arith)))
      (cases_lt i (512 * n))

  -- so its entries are those of the blocks
  pub loaded_entries : (contents : List ℕ) (n : ℕ) → length contents ≡ 4096 → n ≤ 8 → take (512 * n) contents ≡ file_blocks v addresses n → drop (512 * n) contents ≡ drop (512 * n) (replicate 4096 0) → entry_at contents ≡ entry_at (file_blocks v addresses n)
  unfolding bytes_at
  loaded_entries contents n long few front rest =
      let bytes : byte_at contents ≡ byte_at (file_blocks v addresses n) = λ t i. loaded_byte contents n long few front rest i t in
      ap entries_by bytes

-- the same of the directory of a volume, from its inode
pub loaded_directory : (v : List Block) (root : Inode) (d : Directory) (n : ℕ) → root ≡ inode_of v 1 → n ≡ blocks_for root.size → n ≤ 8 → length d.bytes ≡ 4096 → d.len ≡ root.size / 16 → take (512 * n) d.bytes ≡ file_blocks v root.addresses n → drop (512 * n) d.bytes ≡ drop (512 * n) (replicate 4096 0) → LoadedDirectory v d
loaded_directory v root d n first counts few long len front rest =
    let i = inode_of v 1 in
    let loaded = loaded_entries v root.addresses d.bytes n long few front rest in
    record {
      entries = cc;
      directory = cc;
      front = cc;
      long = long;
    }
