-- Two entries written over zeros.
use Rattle.allotment.specs.Formats.{root_entries}
use Rattle.allotment.specs.Records.{zero_block}
use Rattle.allotment.proofs.format.root_entries.Goals as goal

pub returns : goal.returns
unfolding root_entries zero_block
returns c = cc
