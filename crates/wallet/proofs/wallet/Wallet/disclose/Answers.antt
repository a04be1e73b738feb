-- What the covers do not tell.
use Rattle.wallet.proofs.MatchedCovers.{withheld_in}
use Rattle.wallet.proofs.wallet.Wallet.disclose.Goals as goal

pub returns-in-Some-clause-withheld : goal.returns-in-Some-clause-withheld
returns-in-Some-clause-withheld g c = withheld_in c.args.self.now.layout c.args.d

pub returns-in-None-clause-withheld : goal.returns-in-None-clause-withheld
returns-in-None-clause-withheld g c = withheld_in c.args.self.now.layout c.args.d

pub returns-in-None-2-clause-withheld : goal.returns-in-None-2-clause-withheld
returns-in-None-2-clause-withheld g c = withheld_in c.args.self.now.layout c.args.d
