-- What an image store means: the whole blocks of the caller's memory.
use Rattle.std.specs.Prelude.{ℕ, List}
use Rattle.std.specs.Borrow.{GName, MutBor}
use Rattle.store.specs.declared.plain.Plain.{Plain}
use Rattle.store.specs.Plain.{plain_condemned, plain_bytes, shown_blocks, shown_marks, PlainMoved, plain_laws}
use Rattle.store.specs.Stores.{Block, Mark, Laws}

abbrev pub Image : Type 0
Image = Plain (MutBor (List ℕ))

-- The bytes of the caller's memory, and the reference to it.
abbrev items : MutBor (List ℕ) → List ℕ
items m = m.now

abbrev reference : MutBor (List ℕ) → GName
reference m = m.ghost_name

abbrev pub image_bytes : Image → List ℕ
image_bytes = plain_bytes items

abbrev pub image_condemned : Image → List ℕ
image_condemned = plain_condemned

abbrev pub image_blocks : Image → List Block
image_blocks = shown_blocks items

abbrev pub image_marks : Image → List Mark
image_marks = shown_marks items

abbrev pub ImageMoved : Image → Image → Type 0
ImageMoved = PlainMoved items reference

pub image_laws : Laws image_blocks image_marks ImageMoved
image_laws = plain_laws items reference
