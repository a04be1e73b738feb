-- Three words over zeros, then the blocks given back.
use Rattle.std.proofs.Common.{ap, ◌∙◌}
use Rattle.layout.specs.Words.{with_word}
use Rattle.allotment.specs.Formats.{bare_super}
use Rattle.allotment.specs.Records.{zero_block}
use Rattle.allotment.proofs.Formatting.{new_super-by}
use Rattle.allotment.proofs.format.new_superblock.Goals as goal

pub returns : goal.returns
unfolding bare_super zero_block
returns c =
    let bare = c.set_word-3.ensures ∙ ap (λ b. with_word b 4 1) (c.set_word-2.ensures ∙ ap (λ b. with_word b 2 c.args.count) c.set_word.ensures) in
    new_super-by c.args.count c.args.isize c.set_word-3.new.block c.give_back.new.superblock c.block_numbers.result c.requires.room c.requires.small bare c.block_numbers.ensures c.give_back.ensures
