-- What a pocket store means: the sixteen blocks of its own memory.
use Rattle.std.specs.Prelude.{ℕ, List}
use Rattle.store.specs.declared.plain.Plain.{Plain}
use Rattle.store.specs.Plain.{plain_condemned, plain_bytes, shown_blocks, shown_marks, PlainMoved, plain_laws}
use Rattle.store.specs.Stores.{Block, Mark, Laws}

abbrev pub Pocket : Type 0
Pocket = Plain (List ℕ)

abbrev items : List ℕ → List ℕ
items bytes = bytes

abbrev pub pocket_bytes : Pocket → List ℕ
pocket_bytes = plain_bytes items

abbrev pub pocket_condemned : Pocket → List ℕ
pocket_condemned = plain_condemned

abbrev pub pocket_blocks : Pocket → List Block
pocket_blocks = shown_blocks items

abbrev pub pocket_marks : Pocket → List Mark
pocket_marks = shown_marks items

abbrev pub PocketMoved : Pocket → Pocket → Type 0
PocketMoved = PlainMoved items (λ _. 0)

pub pocket_laws : Laws pocket_blocks pocket_marks PocketMoved
pocket_laws = plain_laws items (λ _. 0)
