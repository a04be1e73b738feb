-- The eighth rule, from what the code finds out about the entries.
use Rattle.std.proofs.Common.{◌≡◌, ℕ, ◌*◌, ◌<◌, ◌≤◌, Bool, true, false, ◌&&◌, List, get_or, replicate, sym, ap, ◌∙◌, arith}
use Rattle.std.proofs.lemmas.List.{length-replicate}
use Rattle.store.specs.Stores.{Block}
use Rattle.volume.proofs.Mapping.{mapped_at, numbered_is}
use Rattle.layout.specs.Entries.{Entries}
use Rattle.volume.specs.Directories.{well_named, well_numbered, entered}
use Rattle.volume.specs.Every.{every}
use Rattle.layout.specs.Inodes.{allocated, inode_of}
use Rattle.volume.specs.Maps.{map_after, numbered_by}
use Rattle.volume.specs.Rules.{every_inode, isize_in, directory_of, entry_count, s8}
use Rattle.volume.specs.Visits.{visited}
use Rattle.volume.specs.declared.map.InodeMap.{InodeMap}

module _ (v : List Block) (isize entries : ℕ) (d : Entries) (m : InodeMap) (isize-is : isize ≡ isize_in v) (d-is : d ≡ directory_of v) (entries-is : entries ≡ entry_count v) (few : 16 * isize < 1553) (m-is : m ≡ visited map_after v (16 * isize) (record { allocated = replicate 1553 false })) (named : true ≡ every entries (well_named d)) where
  right : (k : ℕ) → 1 ≤ k → k ≤ 16 * isize → get_or m.allocated k false ≡ allocated (inode_of v k)
  right k least most =
      let long = length-replicate {A = Bool} 1553 false in
      ap (λ t. get_or t.allocated k false) m-is ∙ mapped_at v (record { allocated = replicate 1553 false }) (16 * isize) k least most (omega arith)

  abbrev rest : Bool
  rest = every (entry_count v) (well_numbered v (isize_in v) (directory_of v)) && every_inode (entered (directory_of v) (entry_count v)) v (isize_in v)

  names_are : true ≡ every (entry_count v) (well_named (directory_of v))
  names_are = cc

  s8-is : s8 v ≡ rest
  s8-is = ap (λ b. b && rest) (sym names_are)

  numbers_are : every entries (numbered_by m.allocated (16 * isize) d) ≡ every (entry_count v) (well_numbered v (isize_in v) (directory_of v))
  numbers_are =
      numbered_is v isize m.allocated d entries right ∙ (cc)

  -- some entry is not well numbered
  pub eighth_stray : false ≡ every entries (numbered_by m.allocated (16 * isize) d) → false ≡ s8 v
  eighth_stray stray = cc (s8-is, numbers_are)

  -- all are: what is left is whether each inode has its entry
  pub eighth_last : true ≡ every entries (numbered_by m.allocated (16 * isize) d) → every_inode (entered d entries) v isize ≡ s8 v
  eighth_last fine =
      ap (λ k. every_inode (entered d entries) v k) isize-is ∙ ap (λ e. every_inode (entered e entries) v (isize_in v)) d-is ∙ ap (λ n. every_inode (entered (directory_of v) n) v (isize_in v)) entries-is ∙
      (cc (s8-is, numbers_are))
