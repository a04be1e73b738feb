-- A volume that was opened, as the store behind it is.
use Rattle.std.proofs.Common.{◌≡◌, List, None, subst}
use Rattle.std.specs.Borrow.{Bor}
use Rattle.store.specs.Stores.{Block}
use Rattle.volume.specs.Openings.{Loaded}
use Rattle.volume.specs.Soundness.{first_broken}
use Rattle.volume.specs.declared.loaded.Volume.{Volume}
use Rattle.writing.specs.Changes.{IsSoundWith}

pub sound_as : {S : Type 0} (blocks : S → List Block) {b c : Bor S} (o : Volume) → b ≡ c → first_broken (blocks b.now) ≡ None → Loaded (blocks b.now) o → IsSoundWith (blocks c.now) o
sound_as {S} blocks {b} {c} o same sound loaded = let P : Bor S → Type 0 = λ x. IsSoundWith (blocks x.now) o in subst P same (record { sound = sound; loaded = loaded })
