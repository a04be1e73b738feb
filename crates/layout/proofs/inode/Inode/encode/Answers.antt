-- The bytes one by one.
use Rattle.std.proofs.Common.{◌≡◌, ℕ, List, ap, ◌∙◌}
use Rattle.layout.proofs.Records.{decode-encode}
use Rattle.layout.specs.Inodes.{inode_at, inode_bytes, Recorded}
use Rattle.layout.specs.declared.inode.Inode.{Inode}
use Rattle.layout.proofs.inode.Inode.encode.Goals as goal

encoded : (bytes : List ℕ) (i : Inode) → bytes ≡ inode_bytes i → record { value : bytes ≡ inode_bytes i; read_back : Recorded i → inode_at bytes 0 ≡ i }
encoded bytes i is = record { value = is; read_back = λ fits. ap (λ b. inode_at b 0) is ∙ decode-encode i fits }

pub returns : goal.returns
returns c = encoded _ c.args.self.now (cc)
