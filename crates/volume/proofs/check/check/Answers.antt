-- No rule is broken, so the volume has what the rules are for.
use Rattle.std.proofs.Common.{◌≡◌, List, None, Ok, Err, Option, Result, sym}
use Rattle.std.specs.Result.{result_err}
use Rattle.store.specs.Stores.{Block}
use Rattle.volume.specs.Openings.{Inspected}
use Rattle.volume.specs.Soundness.{first_broken}
use Rattle.volume.specs.declared.loaded.Volume.{Volume}
use Rattle.volume.specs.declared.rule.Rule.{Rule}
use Rattle.volume.proofs.SoundFacts.{rules_hold, sound_volume}
use Rattle.volume.proofs.check.check.Goals as goal

result_err-inspected : (v : List Block) (broken : Option Rule) (r : Result Volume Rule) → Inspected v broken r → result_err r ≡ broken
result_err-inspected v broken (Ok o) h = sym h.0
result_err-inspected v broken (Err rule) h = sym h

pub returns-clause-sound : goal.returns-clause-sound
returns-clause-sound g c answered =
    let v = g.S.Store.blocks c.args.store.now in
    let told = result_err-inspected v (first_broken v) c.inspect.result c.inspect.ensures in
    let none : first_broken v ≡ None = cc (answered, c.err.ensures.value, told) in
    sound_volume v (rules_hold v none)
