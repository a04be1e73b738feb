-- What a map of the allocated inodes says, and what the entries numbered by it are.
use Rattle.std.proofs.Common.{◌≡◌, ℕ, zero, suc, ◌*◌, ◌<◌, ◌≤◌, Bool, false, not, ◌&&◌, ◌||◌, leb, List, length, get_or, refl, ap, ◌∙◌, ⊎_elim, arith}
use Rattle.std.proofs.lemmas.List.{length-set, get_or-set_same, get_or-set_other}
use Rattle.std.proofs.lemmas.Bool.{cases_eq}
use Rattle.std.proofs.lemmas.Bool.Decides.{nat_tests}
use Rattle.store.specs.Stores.{Block}
use Rattle.volume.proofs.Everys.{every-same}
use Rattle.layout.specs.Entries.{Entries}
use Rattle.volume.specs.Directories.{used, well_numbered}
use Rattle.volume.specs.Every.{every}
use Rattle.layout.specs.Inodes.{allocated, inode_of}
use Rattle.volume.specs.Maps.{map_after, numbered_by}
use Rattle.volume.specs.Visits.{visited}
use Rattle.volume.specs.declared.map.InodeMap.{InodeMap}

module _ (v : List Block) (t : InodeMap) where
  length-mapped : (m : ℕ) → length (visited map_after v m t).allocated ≡ length t.allocated
  unfolding visited
  length-mapped zero = refl
  length-mapped (suc m) = length-set (visited map_after v m t).allocated (suc m) (allocated (inode_of v (suc m))) ∙ length-mapped m

  -- each inode so far has its place
  pub mapped_at : (m k : ℕ) → 1 ≤ k → k ≤ m → m < length t.allocated → get_or (visited map_after v m t).allocated k false ≡ allocated (inode_of v k)
  unfolding visited
  mapped_at zero k least most within = absurd (omega arith)
  mapped_at (suc m) k least most within =
      let before = (visited map_after v m t).allocated in
      let long = length-mapped m in
      ⊎_elim
      (λ (same : k ≡ suc m). rw same (get_or-set_same before (suc m) (allocated (inode_of v (suc m))) false (omega arith)))
      (λ other. get_or-set_other before (suc m) k (allocated (inode_of v (suc m))) false other ∙ mapped_at m k least (omega arith) (omega arith))
      (cases_eq k (suc m))

-- entries numbered by a map that is right up to the limit are well numbered
pub numbered_is : (v : List Block) (isize : ℕ) (map : List Bool) (d : Entries) (n : ℕ) → ((k : ℕ) → 1 ≤ k → k ≤ 16 * isize → get_or map k false ≡ allocated (inode_of v k)) → every n (numbered_by map (16 * isize) d) ≡ every n (well_numbered v isize d)
numbered_is v isize map d n right =
    every-same (numbered_by map (16 * isize) d) (well_numbered v isize d) n
    (λ e lt. ap (λ b. not (used d e) || b) (agree (d e).inode))
  where
    agree : (x : ℕ) → ((leb 2 x && leb x (16 * isize)) && get_or map x false) ≡ ((leb 2 x && leb x (16 * isize)) && allocated (inode_of v x))
    agree x = let at = right x in grind (arith, nat_tests)
