-- The first number that passes the test.
use Rattle.std.proofs.Common.{◌≡◌, true, false, rules}
use borrow.Author.Tests.{tests}
use Rattle.std.proofs.lemmas.Iterator.{first_from_Range}
use Rattle.layout.specs.Entries.{entry_at}
use Rattle.reading.proofs.Lowests.{lowest-found}
use Rattle.writing.specs.Creates.{is_empty}
use Rattle.writing.proofs.vacancy.find_empty.Goals as goal

pub returns : goal.returns
returns c =
    let empty = is_empty (entry_at c.args.directory.now.bytes) in
    lowest-found empty c.args.directory.now.len c.find.result (first_from_Range _ _ _ c.find.result (λ e. empty e ≡ true) (λ e. empty e ≡ false) c.find.ensures.ran (λ x q k. search (rules, tests)) (λ x q k. search (rules, tests)))
