-- What becomes of a live store that is written to.
use Rattle.std.specs.Prelude.{◌≡◌, List}
use Rattle.std.specs.Borrow.{MutBor}
use Rattle.store.specs.Stores.{Block}

-- Accepted puts alone lead from the store behind s to the one behind t, which is the same place, and leave these blocks.
pub record Leads {S : Type 0} (blocks : S → List Block) (moved : S → S → Type 0) (left : List Block) (s t : MutBor S) : Type 0 where
  pub after : blocks t.now ≡ left
  pub moves : moved s.now t.now
  pub same : t.ghost_name ≡ s.ghost_name
