-- The first number that passes the test is what is answered: by a search, so that a body that answers another number fails at that equation,
-- and not for the name of a call.
use Rattle.std.proofs.Common.{◌≡◌, ◌∙◌, true, false, rules}
use borrow.Author.Tests.{tests}
use Rattle.std.proofs.lemmas.Iterator.{first_from_Range}
use Rattle.layout.specs.Entries.{entry_at}
use Rattle.reading.proofs.Lowests.{lowest-found}
use Rattle.reading.specs.Lookups.{is_named, field_of}
use Rattle.reading.proofs.lookup.find_entry.Goals as goal

pub returns : goal.returns
returns c =
    let named = is_named (entry_at c.args.directory.now.bytes) (field_of c.args.name.now) in
    search rules ∙ lowest-found named c.args.directory.now.len c.find.result (first_from_Range _ _ _ c.find.result (λ e. named e ≡ true) (λ e. named e ≡ false) c.find.ensures.ran (λ x q k. search (rules, tests)) (λ x q k. search (rules, tests)))
