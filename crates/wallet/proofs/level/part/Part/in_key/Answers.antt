-- The bit worth 2 to the cover's number.
use Rattle.wallet.proofs.Covering.{entry-shifted}
use Rattle.wallet.proofs.level.part.Part.in_key.Goals as goal

pub returns : goal.returns
returns c = entry-shifted c.args.self.now.cover c.args.self.now.level.key
