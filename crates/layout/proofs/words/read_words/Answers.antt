-- All words are in their places.
use Rattle.std.proofs.Common.{◌+◌, ◌*◌, length, arith}
use Rattle.std.proofs.lemmas.List.FromFn.{fill_by_all}
use Rattle.layout.specs.Words.{word_at, words_at}
use Rattle.layout.proofs.words.read_words.Goals as goal

pub returns : goal.returns
unfolding words_at
returns c = fill_by_all (λ k. word_at c.args.block.now (c.args.at + 2 * k)) c.loop-j.words (length c.args.words.now) 0 c.loop-j.auto.words (λ k h. c.loop-j.invariant k (omega arith))
