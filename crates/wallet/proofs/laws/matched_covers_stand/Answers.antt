-- The matching of cover sets, as it is proved.
use Rattle.wallet.proofs.MatchedCovers.{matched_covers}
use Rattle.wallet.proofs.laws.matched_covers_stand.Goals as goal

pub returns : goal.returns
returns c = matched_covers
