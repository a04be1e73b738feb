-- Going through the inodes block by block is going through them in order.
use Rattle.std.proofs.Common.{◌≡◌, ℕ, zero, suc, ◌+◌, ◌*◌, ◌≤◌, Bool, true, List, [], get_or, sym, refl, ap, ◌∙◌, add-one, arith}
use Rattle.store.specs.Stores.{Block}
use Rattle.volume.proofs.Everys.{every-suc}
use Rattle.volume.specs.Every.{every}
use Rattle.layout.specs.Inodes.{inode_at, inode_of, inode_block, inode_place}
use Rattle.volume.specs.Tests.{each_after}
use Rattle.volume.specs.Visits.{visited, visited_in}
use Rattle.layout.specs.declared.inode.Inode.{Inode}

module _ {V : Type 0} (after : V → ℕ → Inode → V) where
  pub visited_in-none : (b : Block) (first : ℕ) (s : V) → visited_in after b first 0 s ≡ s
  unfolding visited_in
  visited_in-none b first s = refl

  -- one record of the block more
  pub visited_in-more : (b : Block) (first n : ℕ) (s t u : V) (inode : Inode) → t ≡ visited_in after b first n s → inode ≡ inode_at b (32 * n) → u ≡ after t (first + (n + 1)) inode → u ≡ visited_in after b first (n + 1) s
  unfolding visited_in
  visited_in-more b first n s t u inode sofar read step =
      let more : visited_in after b first (n + 1) s ≡ after (visited_in after b first n s) (first + (n + 1)) (inode_at b (32 * n)) = rw add-one refl in
      cc

  pub visited-none : (v : List Block) (s : V) → visited after v 0 s ≡ s
  unfolding visited
  visited-none v s = refl

  -- the inodes of block k + 2 are the sixteen from 16·k + 1 on
  pub visited-block : (v : List Block) (k n : ℕ) (s : V) → n ≤ 16 → visited after v (16 * k + n) s ≡ visited_in after (get_or v (k + 2) []) (16 * k) n (visited after v (16 * k) s)
  unfolding visited visited_in
  visited-block v k zero s few = let e : 16 * k + zero ≡ 16 * k = omega arith in ap (λ i. visited after v i s) e
  visited-block v k (suc n) s few =
      let e : 16 * k + suc n ≡ suc (16 * k + n) = omega arith in
      let block : inode_block (suc (16 * k + n)) ≡ k + 2 = omega arith in
      let place : inode_place (suc (16 * k + n)) ≡ 32 * n = omega arith in
      let sofar = visited-block v k n s (omega arith) in
      cc

  -- one block more
  pub visited-next : (v : List Block) (k : ℕ) (s t u : V) (b : Block) → t ≡ visited after v (16 * k) s → b ≡ get_or v (k + 2) [] → u ≡ visited_in after b (16 * k) 16 t → u ≡ visited after v (16 * (k + 1)) s
  visited-next v k s t u b sofar read step =
      let e : 16 * (k + 1) ≡ 16 * k + 16 = omega arith in
      let whole = visited-block v k 16 s (omega arith) in
      cc

-- a visitor that tests each inode has found out whether all so far pass
pub visited-each : {T : Type 0} (passes : T → ℕ → Inode → Bool) (v : List Block) (n : ℕ) (t : T) → visited (each_after passes) v n (record { test = t; passed = true }) ≡ record { test = t; passed = every n (λ j. passes t (suc j) (inode_of v (suc j))) }
unfolding visited
visited-each passes v zero t = refl
visited-each passes v (suc n) t =
    ap (λ e. each_after passes e (suc n) (inode_of v (suc n))) (visited-each passes v n t) ∙ ap (λ b. record { test = t; passed = b }) (sym (every-suc (λ j. passes t (suc j) (inode_of v (suc j))) n))
