-- The questions of write, one after the other.
use Rattle.std.proofs.Common.{◌≡◌, ℕ, ◌≤◌, true, false, leb, List, length, Ok, Err, Result, ap, ◌∙◌}
use Rattle.std.proofs.lemmas.Bool.{le-leb}
use Rattle.faults.specs.Faults.{bare}
use Rattle.store.specs.Stores.{Block, Mark}
use Rattle.faults.specs.declared.Fault.{Fault}
use Rattle.faults.specs.declared.Question.TheVariants.{EnoughFreeBlocks, LengthWithinLimit, NameLawful}
use Rattle.layout.specs.Names.{lawful}
use Rattle.volume.specs.Openings.{open_answer}
use Rattle.volume.specs.Rules.{super_of}
use Rattle.volume.specs.Soundness.{followed_by}
use Rattle.reading.specs.Found.{file_named}
use Rattle.reading.specs.Questions.{asks, and_then}
use Rattle.reading.specs.declared.file.File.{File}
use Rattle.writing.specs.Writes.{enough_blocks, writable, write_asked}

module _ (v : List Block) (marks : List Mark) (name contents : List ℕ) where
  abbrev from_file : Result File Fault → Result File Fault
  from_file found = and_then found (writable (super_of v) (length contents))

  abbrev from_open : Result (Unit {0}) Fault → Result File Fault
  from_open opened = followed_by opened (from_file (file_named v name))

  module _ (named : lawful name ≡ true) where
    past_name : write_asked v marks name contents ≡ asks (leb (length contents) 4096) (bare LengthWithinLimit) (from_open (open_answer v marks))
    past_name = ap (λ b. asks b (bare NameLawful) (asks (leb (length contents) 4096) (bare LengthWithinLimit) (from_open (open_answer v marks)))) named

    module _ (short : length contents ≤ 4096) where
      past-length : write_asked v marks name contents ≡ from_open (open_answer v marks)
      past-length = past_name ∙ ap (λ b. asks b (bare LengthWithinLimit) (from_open (open_answer v marks))) (le-leb (length contents) 4096 short)

      pub write_unopened : (f : Fault) → open_answer v marks ≡ Err f → write_asked v marks name contents ≡ Err f
      write_unopened f is = past-length ∙ ap from_open is

      module _ (opened : open_answer v marks ≡ Ok tt) where
        pub write_absent : (f : Fault) → file_named v name ≡ Err f → write_asked v marks name contents ≡ Err f
        write_absent f is = past-length ∙ ap from_open opened ∙ ap from_file is

        module _ (f : File) (found : file_named v name ≡ Ok f) where
          past_file : write_asked v marks name contents ≡ writable (super_of v) (length contents) f
          past_file = past-length ∙ ap from_open opened ∙ ap from_file found

          pub write-full : enough_blocks (super_of v) f.inode (length contents) ≡ false → write_asked v marks name contents ≡ Err (bare EnoughFreeBlocks)
          write-full few = past_file ∙ ap (λ b. asks b (bare EnoughFreeBlocks) (Ok f)) few

          pub write_yes : enough_blocks (super_of v) f.inode (length contents) ≡ true → write_asked v marks name contents ≡ Ok f
          write_yes enough = past_file ∙ ap (λ b. asks b (bare EnoughFreeBlocks) (Ok f)) enough
