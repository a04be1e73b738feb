-- The places in use from 1 on are the free list.
use Rattle.std.proofs.Common.{◌-◌, take, drop, ap, ◌∙◌, arith}
use Rattle.volume.specs.Tallies.{tallied}
use Rattle.volume.proofs.FreeLists.{named-is}
use Rattle.volume.proofs.tally.Tally.add_free.Goals as goal

pub returns : goal.returns
returns c =
    let b = c.args.superblock.now in
    let nfree = c.nfree_of-nfree.result in
    c.add_all.ensures ∙ ap (λ ps. tallied c.args.self.now.counts (take (nfree - 1) (drop 1 ps))) c.free_places.ensures ∙
    ap (tallied c.args.self.now.counts) (named-is b nfree c.nfree_of-nfree.ensures (omega (arith, c.requires.most)))
