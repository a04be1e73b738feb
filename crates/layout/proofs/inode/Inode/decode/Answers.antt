-- The record is read part by part, and written again it is its bytes.
use Rattle.std.proofs.Common.{◌≡◌, ℕ, ◌+◌, ◌<◌, ◌≤◌, List, length, take, drop, ap, ◌∙◌, arith, rules}
use Rattle.layout.proofs.Records.{encode_decode}
use Rattle.layout.specs.Inodes.{inode_at, inode_bytes}
use Rattle.layout.specs.Words.{byte_at}
use Rattle.layout.specs.declared.inode.Inode.{Inode}
use Rattle.layout.proofs.inode.Inode.decode.Goals as goal

decoded : (i : Inode) (b : List ℕ) (at : ℕ) → ((n : ℕ) → byte_at b n < 256) → at + 32 ≤ length b → i ≡ inode_at b at → record { value : i ≡ inode_at b at; bytes : inode_bytes i ≡ take 32 (drop at b) }
decoded i b at fits within is = record { value = is; bytes = ap inode_bytes is ∙ encode_decode b fits at within }

pub returns : goal.returns
returns c = decoded _ c.args.block.now c.args.at c.fits-block (omega arith) (search rules)
