-- A rule that is broken or kept, as the check finds it.
use Rattle.std.proofs.Common.{◌≡◌, Bool, true, false, Some, Option, sym, ap}
use Rattle.volume.specs.Soundness.{unless}
use Rattle.volume.specs.declared.rule.Rule.{Rule}

module _ (holds : Bool) (rule : Rule) (later : Option Rule) where
  pub broken : false ≡ holds → unless holds rule later ≡ Some rule
  broken e = sym (ap (λ b. unless b rule later) e)

  pub kept : true ≡ holds → unless holds rule later ≡ later
  kept e = sym (ap (λ b. unless b rule later) e)
