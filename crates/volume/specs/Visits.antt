-- Going through the inodes of a volume in order.
use Rattle.std.specs.Prelude.{ℕ, zero, suc, ◌+◌, ◌*◌, List}
use Rattle.store.specs.Stores.{Block}
use Rattle.layout.specs.Inodes.{inode_at, inode_of}
use Rattle.layout.specs.declared.inode.Inode.{Inode}

module _ {V : Type 0} (after : V → ℕ → Inode → V) where
  -- What a visitor has become after inodes 1 to n.
  unfoldable pub visited : List Block → ℕ → V → V
  visited v zero s = s
  visited v (suc n) s = after (visited v n s) (suc n) (inode_of v (suc n))

  -- What it has become after the first n records of one block, whose first is inode first + 1.
  unfoldable pub visited_in : (b : Block) (first n : ℕ) → V → V
  visited_in b first zero s = s
  visited_in b first (suc n) s = after (visited_in b first n s) (first + suc n) (inode_at b (32 * n))
