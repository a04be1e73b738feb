-- What is known of a volume when its first block is put.
use Rattle.std.specs.Prelude.{◌≡◌, List, None}
use Rattle.store.specs.Stores.{Block}
use Rattle.volume.specs.Openings.{Loaded}
use Rattle.volume.specs.Soundness.{first_broken}
use Rattle.volume.specs.declared.loaded.Volume.{Volume}

-- A volume breaks no rule, and this was read of it.
pub record IsSoundWith (v : List Block) (o : Volume) : Type 0 where
  pub sound : first_broken v ≡ None
  pub loaded : Loaded v o
