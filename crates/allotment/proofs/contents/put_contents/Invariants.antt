-- The blocks so far are laid, and what is left of the contents and of the numbers stands behind them.
use Rattle.std.proofs.Common.{◌≡◌, ◌*◌, ◌≤◌, length, drop}
use Rattle.std.specs.Slice.Iter.{chunks_rest, chunks_size, iter_rest}
use Rattle.store.specs.Lives.{Leads}
use Rattle.layout.specs.Inodes.{blocks_for}
use Rattle.allotment.specs.Volumes.{laid}
use Rattle.allotment.proofs.contents.put_contents.Given as goal

abbrev pub invariant-loop-bytes : goal.invariant-loop-bytes
invariant-loop-bytes g l = record {
  size : chunks_size l.bytes-iterator.a ≡ 512;
  rest : chunks_rest l.bytes-iterator.a ≡ drop (512 * length l.yielded) l.contents;
  numbers : iter_rest l.bytes-iterator.b ≡ drop (length l.yielded) l.addresses;
  few : length l.yielded ≤ blocks_for (length l.contents);
  leads : Leads g.S.Store.blocks g.S.Store.moved (laid (g.S.Store.blocks l.initial.live.store.now) l.addresses l.contents (length l.yielded)) l.initial.live.store l.live.store;
}
