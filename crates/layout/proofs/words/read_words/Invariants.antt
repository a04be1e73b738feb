-- The words so far are in their places.
use Rattle.std.proofs.Common.{◌≡◌, ℕ, ◌+◌, ◌*◌, ◌<◌, get_or}
use Rattle.layout.specs.Words.{word_at}
use Rattle.layout.proofs.words.read_words.Given as goal

abbrev pub invariant-loop-j : goal.invariant-loop-j
invariant-loop-j l = ((k : ℕ) → k < l.j → get_or l.words k 0 ≡ word_at l.block (l.at + 2 * k))
