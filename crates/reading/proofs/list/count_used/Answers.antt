-- How many numbers pass the test.
use Rattle.std.proofs.Common.{length, ap, ◌∙◌, rules, arith}
use borrow.Author.Tests.{tests}
use Rattle.std.proofs.lemmas.Iterator.{YieldsList-from_range}
use Rattle.std.proofs.lemmas.Iterator.Consumers.{YieldsList-from_filter, count_from_yields_List}
use Rattle.layout.specs.Entries.{entry_at}
use Rattle.volume.specs.Directories.{used}
use Rattle.reading.proofs.Listing.{used_among-filter}
use Rattle.reading.proofs.list.count_used.Goals as goal

pub returns : goal.returns
returns c =
    let d = entry_at c.args.directory.now.bytes in
    let n = c.args.directory.now.len in
    count_from_yields_List c.filter.result c.count.result c.count.ensures.ran (YieldsList-from_filter _ (used d) (YieldsList-from_range 0 n n (cc) (omega arith)) c.filter.ensures.closure (λ x b q k. search (rules, tests))) ∙ ap length (used_among-filter d n)
