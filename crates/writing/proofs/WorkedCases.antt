-- The worked cases follow from the rules by calculation.
use Rattle.std.proofs.Common.{◌≡◌, List, [], length, set, refl, ap, ◌∙◌, arith}
use Rattle.std.proofs.lemmas.List.{length-set, get_or-set_same, get_or-set_other}
use Rattle.store.specs.Stores.{Block}
use Rattle.volume.specs.Rules.{super_of}
use Rattle.allotment.specs.Formats.{bare_super, new_super, first_inodes, root_entries, formatted}
use Rattle.allotment.specs.FreeSteps.{given, gives, taken, next_free, takes, numbers_taken}
use Rattle.allotment.specs.Records.{zero_block, cleared}
use Rattle.writing.specs.Worked.{WorkedFiles}
use Rattle.writing.specs.Writes.{given_back, super_rewritten, inode_rewritten}

-- the superblock that format leaves
super-formatted : (v : List Block) → length v ≡ 10 → super_of (formatted v 1) ≡ new_super 10 1
unfolding formatted cleared
super-formatted v ten =
    let v₁ = set v 0 zero_block in
    let v₂ = set v₁ 1 (new_super (length v) 1) in
    let v₃ = set v₂ 2 (first_inodes 1) in
    let long = length-set v 0 zero_block in
    get_or-set_other v₃ 3 1 root_entries [] (λ e. omega arith) ∙ get_or-set_other v₂ 2 1 (first_inodes 1) [] (λ e. omega arith) ∙ get_or-set_same v₁ 1 (new_super (length v) 1) [] (omega arith) ∙ ap (λ n. new_super n 1) ten

pub worked_files : WorkedFiles
unfolding zero_block bare_super new_super given gives taken next_free takes numbers_taken given_back super_rewritten inode_rewritten
worked_files = (super-formatted, refl, refl, refl, (refl, refl), (refl, refl), (refl, refl))
