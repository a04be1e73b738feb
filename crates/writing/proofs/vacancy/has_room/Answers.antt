-- A new block is needed.
use Rattle.std.proofs.Common.{leb, sym, ap, ◌∙◌}
use Rattle.writing.proofs.Creating.{two_places}
use Rattle.writing.proofs.vacancy.has_room.Goals as goal

pub returns-else-not-needs_block : goal.returns-else-not-needs_block
returns-else-not-needs_block c = ap (leb 2) c.nfree_of.ensures ∙ two_places c.args.volume.now.superblock c.args.volume.now.directory.len c.args.e (sym c.if-not-needs_block.ensures)
