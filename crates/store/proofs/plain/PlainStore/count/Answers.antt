-- The blocks that are shown are the whole ones.
use Rattle.std.proofs.Common.{sym, ◌∙◌}
use Rattle.store.specs.Plain.{length_cut}
use Rattle.store.proofs.plain.PlainStore.count.Goals as goal

pub returns : goal.returns
returns g c = rw c.as_slice.ensures at c.whole_blocks.ensures ∙ sym (length_cut (g.M.AsSlice.items c.args.self.now.memory))
