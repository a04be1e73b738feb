-- The blocks that are shown are the whole ones.
use Rattle.std.proofs.Common.{◌∙◌}
use Rattle.store.specs.Plain.{length_cut}
use Rattle.store.proofs.plain.Plain.ask.Goals as goal

pub returns : goal.returns
returns g c = rw (c.count.ensures ∙ length_cut (g.M.AsSlice.items c.args.self.now.memory)) at c.ask.ensures
