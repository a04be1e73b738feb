-- The copied bytes, and zeros behind them.
use Rattle.store.proofs.Zeros.{padded_is}
use Rattle.store.proofs.padding.padded.Goals as goal

pub returns : goal.returns
returns c = padded_is 512 c.args.part.now c.copy_from_slice.new.self c.min-len.result c.min-len.ensures c.copy_from_slice.ensures.after
