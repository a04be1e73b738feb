-- The blocks so far fill the front of the buffer.
use Rattle.std.proofs.Common.{◌≡◌, ◌*◌, length, take, drop}
use Rattle.volume.specs.Files.{file_blocks}
use Rattle.volume.proofs.contents.load_blocks.Given as goal

abbrev pub invariant-loop-j : goal.invariant-loop-j
invariant-loop-j g l =
    (length l.contents ≡ 4096) × (take (512 * l.j) l.contents ≡ file_blocks (g.S.Store.blocks l.live.store.now) l.addresses l.j) × (drop (512 * l.n) l.contents ≡ drop (512 * l.n) l.initial.contents)
