-- The entry is there, or it is one more in the last block, or in a new one.
use Rattle.std.proofs.Common.{◌≡◌, ◌/◌, ◌<◌, ◌≤◌, cond, length, set, sym, ap, ◌∙◌, subst, arith}
use Rattle.std.proofs.lemmas.Bool.{cond-true, cond-false}
use Rattle.store.specs.declared.liveness.LiveMut.{LiveMut}
use Rattle.store.specs.Lives.{Leads}
use Rattle.layout.specs.Inodes.{inode_of}
use Rattle.layout.specs.Superblocks.{nfree_of}
use Rattle.volume.proofs.RuleFacts.{sizes_from, directory_size}
use Rattle.volume.proofs.SoundFacts.{rules_hold}
use Rattle.volume.specs.Rules.{super_of, entry_count}
use Rattle.writing.proofs.Creating.{blocks_same, needs_none, room_there, room_past, blocks-new, block_free, next_there, lengthened-by}
use Rattle.allotment.proofs.Leading.{leads_none, leads_to, leads_join, still_long}
use Rattle.writing.proofs.Room.{nfree_range}
use Rattle.writing.specs.Creates.{needs_block, directory_blocks, with_new_block}
use Rattle.allotment.specs.FreeSteps.{next_free}
use Rattle.writing.proofs.create.make_room.Goals as goal
use Rattle.writing.proofs.create.make_room.Goals.{then-needs_block, else-needs_block}

pub returns-then-e-volume : goal.returns-then-e-volume
returns-then-e-volume g c =
    let s = c.args.live.now.store in
    let v = g.S.Store.blocks s.now in
    let o = c.requires.sound.loaded in
    let there : c.args.e < entry_count v = omega (arith, o.entries) in
    record {
      leads = leads_to g.S.Store.laws (room_there v c.args.e there) (leads_none g.S.Store.laws s);
      numbers = ap (λ i. i.addresses) o.root ∙ blocks_same v c.args.e (needs_none v c.args.e there);
    }

pub add_block-requires : goal.add_block-requires
add_block-requires g c =
    let s = c.args.live.now.store.now in
    let v = g.S.Store.blocks s in
    let e = c.args.e in
    let o = c.requires.sound.loaded in
    let sound = rules_hold v c.requires.sound.sound in
    let sizes = sizes_from (super_of v) (length v) sound.sizes in
    let need = sym (c.if-needs_block.ensures ∙ ap (λ n. needs_block n e) o.entries) in
    let long = g.S.Store.laws.sized s 1 (omega arith) in
    let nfree = ap nfree_of o.superblock in
    record {
      read = o.superblock;
      some = omega (arith, nfree_range v sound);
      most = omega (arith, nfree_range v sound);
      there = omega (arith, ap next_free o.superblock, next_there v sound long (block_free v e need c.requires.room));
      long = omega arith;
    }

pub put_root-requires : goal.put_root-requires
put_root-requires g c =
    let s = c.args.live.now.store in
    let v = g.S.Store.blocks s.now in
    let laws = g.S.Store.laws in
    let sound = rules_hold v c.requires.sound.sound in
    let size = ap (λ i. i.size) c.requires.sound.loaded.root in
    let long : length (g.S.Store.blocks c.if-needs_block.live.store.now) ≡ length v =
    elim c.if-needs_block.branch [
      | then-needs_block w ↦ ap (λ l. length (g.S.Store.blocks l.store.now)) w.live-is ∙ still_long laws w.add_block.ensures.leads
      | else-needs_block w ↦ ap (λ l. length (g.S.Store.blocks l.store.now)) w.live-is
    ] in
    record {
      within = omega (arith, sizes_from (super_of v) (length v) sound.sizes);
      small = omega (arith, (directory_size (inode_of v 1) sound.root).1);
    }

pub returns : goal.returns
returns g c =
    let s = c.args.live.now.store in
    let v = g.S.Store.blocks s.now in
    let laws = g.S.Store.laws in
    let e = c.args.e in
    let o = c.requires.sound.loaded in
    let past : entry_count v ≤ e = omega (arith, o.entries) in
    let need = c.needs_block.ensures ∙ ap (λ n. needs_block n e) o.entries in
    let whole = cond (needs_block (entry_count v) e) (with_new_block v) v in
    let Reached : LiveMut g.row.S.Denot g.S.Store → Type 0 = λ l. Leads g.S.Store.blocks g.S.Store.moved whole s l.store in
    let room : Reached c.if-needs_block.live =
    elim c.if-needs_block.branch [
      | then-needs_block w ↦ subst Reached (sym w.live-is) (leads_to laws (sym (cond-true (needs_block (entry_count v) e) _ v (sym need ∙ w.if-needs_block.true))) w.add_block.ensures.leads)
      | else-needs_block w ↦ subst Reached (sym w.live-is) (leads_to laws (sym (cond-false (needs_block (entry_count v) e) _ v (sym need ∙ w.if-needs_block.false))) (leads_none laws s))
    ] in
    let numbers : c.if-needs_block.addresses ≡ directory_blocks v e =
    elim c.if-needs_block.branch [
      | then-needs_block w ↦
          w.addresses-is ∙ ap (set c.args.volume.now.root.addresses (e / 32)) (w.add_block.ensures.number ∙ ap next_free o.superblock) ∙ ap (λ i. set i.addresses (e / 32) (next_free (super_of v))) o.root ∙ blocks-new v e (sym need ∙ w.if-needs_block.true)
      | else-needs_block w ↦ w.addresses-is ∙ ap (λ i. i.addresses) o.root ∙ blocks_same v e (sym need ∙ w.if-needs_block.false)
    ] in
    record {
      leads = leads_to laws (lengthened-by v whole c.args.volume.now.root c.if-needs_block.addresses (directory_blocks v e) o.root numbers room.after ∙ sym (room_past v e past)) (leads_join laws room c.put_root.ensures);
      numbers = numbers;
    }
