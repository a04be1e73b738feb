-- One key more stands, and keeps what the table carries.
use Rattle.std.proofs.Common.{rules, ◌<◌, arith}
use Rattle.keys.proofs.Tables.{length-standing, take-appended, own_appended, others_appended, below-appended}
use Rattle.keys.proofs.table.KeyTable.append.Goals as goal

pub returns-clause-after : goal.returns-clause-after
returns-clause-after c =
    let t = c.args.self.now in
    search (rules, take-appended t c.args.key (omega (arith, length-standing t)))

pub invariant_of-self : goal.invariant_of-self
invariant_of-self c =
    let t = c.args.self.now in
    let key = c.args.key in
    let room : t.count < 16 = omega (arith, length-standing t) in
    record {
      places = search rules;
      few = omega arith;
      least = t.least;
      most = t.most;
      own = own_appended t key room c.requires.fits;
      others = others_appended t key room c.requires.fits;
      below = below-appended t key room c.requires.below;
    }
