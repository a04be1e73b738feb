-- An odd candidate fits where it overlaps with no key.
use Rattle.std.proofs.Common.{rules}
use Rattle.keys.proofs.Standing.{product-self, says_fits}
use Rattle.keys.proofs.algebra.fits.Goals as goal

pub returns-then-is_odd : goal.returns-then-is_odd
returns-then-is_odd c = says_fits c.args.keys.now c.args.candidate c.all.result (search (rules, product-self))
