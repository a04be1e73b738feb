-- A rewritten file, put block by block.
use Rattle.std.proofs.Common.{◌≡◌, ℕ, List, length, set}
use Rattle.store.specs.Stores.{Block}
use Rattle.layout.specs.Inodes.{blocks_for}
use Rattle.layout.specs.declared.inode.Inode.{Inode}
use Rattle.volume.specs.Rules.{super_of}
use Rattle.reading.specs.declared.file.File.{File}
use Rattle.allotment.specs.Volumes.{with_inode, laid}
use Rattle.writing.specs.Writes.{super_rewritten, inode_rewritten, written}

pub written_by : (v v₁ v₂ : List Block) (b super : Block) (inode : Inode) (contents : List ℕ) (f : File) → b ≡ super_of v → super ≡ super_rewritten b f.inode (length contents) → inode ≡ inode_rewritten b f.inode (length contents) → v₁ ≡ set v 1 super → v₂ ≡ laid v₁ inode.addresses contents (blocks_for (length contents)) → with_inode v₂ f.number inode ≡ written v contents f
unfolding written
written_by v v₁ v₂ b super inode contents f read super-is inode_is e₁ e₂ = cc
