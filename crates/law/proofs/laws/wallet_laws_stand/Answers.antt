-- The laws of any level calls, at the store calls, and matched covers.
use Rattle.law.specs.StoreCalls.{store_calls}
use Rattle.law.proofs.Aloneness.{runs_stand-alone}
use Rattle.law.proofs.StoreCallLaws.{store_calls_keep}
use Rattle.law.proofs.Withholding.{shows_nothing_above}
use Rattle.law.proofs.laws.wallet_laws_stand.Goals as goal
use Rattle.wallet.proofs.MatchedCovers.{matched_covers}

pub returns : goal.returns
returns c = record { alone = runs_stand-alone store_calls store_calls_keep; withheld = shows_nothing_above store_calls store_calls_keep; matched = matched_covers }
