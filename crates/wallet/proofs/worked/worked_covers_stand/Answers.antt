-- The worked cases, as they are proved.
use Rattle.wallet.proofs.WorkedCases.{worked_covers}
use Rattle.wallet.proofs.worked.worked_covers_stand.Goals as goal

pub returns : goal.returns
returns c = worked_covers
