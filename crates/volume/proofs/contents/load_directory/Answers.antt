-- The blocks are loaded over zeros.
use Rattle.std.proofs.Common.{refl, arith}
use Rattle.volume.proofs.Loading.{loaded_directory}
use Rattle.volume.proofs.contents.load_directory.Goals as goal

pub returns : goal.returns
returns g c =
    loaded_directory (g.S.Store.blocks c.args.live.now.store.now) c.args.root.now _ c.block_count.result c.requires.first c.block_count.ensures (omega (arith, c.requires.few)) c.load_blocks.array_long refl c.load_blocks.ensures.front c.load_blocks.ensures.rest
