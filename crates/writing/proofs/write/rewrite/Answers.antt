-- There is room for the file's blocks in the free list, and what is taken is in the volume.
use Rattle.std.proofs.Common.{◌+◌, ◌<◌, length, get_or, sym, ap, ◌∙◌, arith}
use Rattle.std.proofs.lemmas.Bool.{leb-true}
use Rattle.layout.specs.Inodes.{blocks_for}
use Rattle.layout.specs.Superblocks.{nfree_of, free_list}
use Rattle.volume.proofs.FreeLists.{length-free_list}
use Rattle.volume.proofs.RuleFacts.{sizes_from}
use Rattle.volume.proofs.SoundFacts.{rules_hold}
use Rattle.volume.specs.Rules.{super_of}
use Rattle.reading.proofs.Finding.{file_data, number_facts}
use Rattle.allotment.proofs.Leading.{leads_to, leads_join, still_long}
use Rattle.writing.proofs.Rewriting.{written_by}
use Rattle.writing.proofs.Room.{nfree_range, own_room, rewritten_there}
use Rattle.writing.specs.Writes.{enough_blocks, inode_rewritten}
use Rattle.writing.proofs.write.rewrite.Goals as goal

pub resize-inode-requires : goal.resize-inode-requires
resize-inode-requires g c =
    let v = g.S.Store.blocks c.args.live.now.store.now in
    let f = c.args.file.now in
    let sound = rules_hold v c.requires.sound.sound in
    let same = ap nfree_of c.requires.sound.loaded.superblock in
    record {
      small = (file_data v f sound c.requires.found).0;
      fits = c.requires.fits;
      some = omega (arith, (nfree_range v sound).0);
      room = omega (arith, own_room v sound f c.requires.found);
      enough = c.requires.enough;
    }

pub put_contents-requires : goal.put_contents-requires
put_contents-requires g c =
    let v = g.S.Store.blocks c.args.live.now.store.now in
    let f = c.args.file.now in
    let n = length c.args.contents.now in
    let sound = rules_hold v c.requires.sound.sound in
    let free = length-free_list (super_of v) in
    let room = leb-true (blocks_for n) (length (free_list (super_of v)) + blocks_for f.inode.size) (ap (λ b. enough_blocks b f.inode n) (sym c.requires.sound.loaded.superblock) ∙ c.requires.enough) in
    let sizes = sizes_from (super_of v) (length v) sound.sizes in
    let long = g.S.Store.laws.sized c.args.live.now.store.now 1 (omega arith) in
    let enough : blocks_for n < nfree_of (super_of v) + blocks_for f.inode.size = omega (arith, (nfree_range v sound).0) in
    let inode = c.resize-inode.ensures.inode ∙ ap (λ b. inode_rewritten b f.inode n) c.requires.sound.loaded.superblock in
    record {
      few = c.requires.fits;
      there = λ j lt. let same = ap (λ i. get_or i.addresses j 0) inode in omega (arith, rewritten_there v sound f c.requires.found long n enough j lt, still_long g.S.Store.laws c.put.ensures);
    }

pub put_inode-requires : goal.put_inode-requires
put_inode-requires g c =
    let v = g.S.Store.blocks c.args.live.now.store.now in
    let laws = g.S.Store.laws in
    let sofar = leads_join laws c.put.ensures c.put_contents.ensures in
    let facts = number_facts v c.args.file.now (rules_hold v c.requires.sound.sound) c.requires.found in
    omega (arith, facts.there, still_long laws sofar)

pub returns : goal.returns
returns g c =
    let laws = g.S.Store.laws in
    let v = g.S.Store.blocks c.args.live.now.store.now in
    let joined = leads_join laws c.put.ensures (leads_join laws c.put_contents.ensures c.put_inode.ensures) in
    leads_to laws (written_by v _ _ c.args.volume.now.superblock c.resize-inode.new.superblock c.resize-inode.result c.args.contents.now c.args.file.now c.requires.sound.loaded.superblock c.resize-inode.ensures.after c.resize-inode.ensures.inode c.put.ensures.after c.put_contents.ensures.after) joined
