-- The ways out: each question's no, and the rewritten file.
use Rattle.std.proofs.Common.{length, Err, sym, ap, ◌∙◌, rules}
use Rattle.volume.proofs.SoundFacts.{rules_hold}
use Rattle.reading.proofs.Finding.{file_in, file_data}
use Rattle.reading.specs.Found.{file_named}
use Rattle.allotment.proofs.Leading.{served_yes, served_no, served_refused}
use Rattle.writing.proofs.Opening.{sound_as}
use Rattle.writing.proofs.Writing.{write_unopened, write_absent, write-full, write_yes}
use Rattle.writing.specs.Writes.{written, enough_blocks, write_asked}
use Rattle.writing.proofs.write.write.Goals as goal

pub returns-in_err-volume : goal.returns-in_err-volume
returns-in_err-volume g c =
    let s = c.args.store.now in
    let v = g.S.Store.blocks s in
    let name = c.args.name.now in
    let contents = c.args.contents.now in
    served_refused g.S.Store.laws s (write_asked v (g.S.Store.marks s) name contents) (written v contents) c.from_residual.ensures.1 (write_unopened v (g.S.Store.marks s) name contents (sym c.if-not-is_lawful.ensures) c.if-contents-gt-MAX_FILE.false _ c.in_err-volume.ensures.answer)

pub returns-in_err-file : goal.returns-in_err-file
returns-in_err-file g c =
    let s = c.args.store.now in
    let v = g.S.Store.blocks s in
    let name = c.args.name.now in
    let contents = c.args.contents.now in
    let opened = c.in_ok-volume.ensures in
    let absent = ap (λ b. file_named (g.S.Store.blocks b.now) name) (sym opened.same) ∙ sym c.in_err-file.ensures in
    served_refused g.S.Store.laws s (write_asked v (g.S.Store.marks s) name contents) (written v contents) c.from_residual-in_err-file.ensures.1 (write_absent v (g.S.Store.marks s) name contents (sym c.if-not-is_lawful.ensures) c.if-contents-gt-MAX_FILE.false opened.answer _ absent)

pub has_enough_blocks-requires-clause-small : goal.has_enough_blocks-requires-clause-small
has_enough_blocks-requires-clause-small g c =
    let o = c.in_ok-volume.volume in
    let v = g.S.Store.blocks o.live.store.now in
    let file = c.in_ok-file.file in
    (file_data v file (rules_hold v o.sound) (file_in v c.args.name.now file (sym c.in_ok-file.ensures))).0

pub returns-then-not-has_enough_blocks : goal.returns-then-not-has_enough_blocks
returns-then-not-has_enough_blocks g c =
    let s = c.args.store.now in
    let v = g.S.Store.blocks s in
    let name = c.args.name.now in
    let contents = c.args.contents.now in
    let o = c.in_ok-volume.volume in
    let opened = c.in_ok-volume.ensures in
    let file = c.in_ok-file.file in
    let known = sound_as g.S.Store.blocks o.read opened.same o.sound o.loaded in
    let named = ap (λ b. file_named (g.S.Store.blocks b.now) name) (sym opened.same) ∙ sym c.in_ok-file.ensures in
    let few = sym (c.if-not-has_enough_blocks.ensures ∙ ap (λ b. enough_blocks b file.inode (length contents)) known.loaded.superblock) in
    served_no g.S.Store.laws s (write_asked v (g.S.Store.marks s) name contents) (written v contents) (ap Err c.from-then-not-has_enough_blocks.ensures) (write-full v (g.S.Store.marks s) name contents (sym c.if-not-is_lawful.ensures) c.if-contents-gt-MAX_FILE.false opened.answer file named few)

pub rewrite-requires-clause-found : goal.rewrite-requires-clause-found
rewrite-requires-clause-found g c =
    let s = c.args.store.now in
    let v = g.S.Store.blocks s in
    let name = c.args.name.now in
    let o = c.in_ok-volume.volume in
    let opened = c.in_ok-volume.ensures in
    let named = ap (λ b. file_named (g.S.Store.blocks b.now) name) (sym opened.same) ∙ sym c.in_ok-file.ensures in
    file_in v name c.in_ok-file.file named

pub returns : goal.returns
returns g c =
    let s = c.args.store.now in
    let v = g.S.Store.blocks s in
    let name = c.args.name.now in
    let contents = c.args.contents.now in
    let o = c.in_ok-volume.volume in
    let opened = c.in_ok-volume.ensures in
    let file = c.in_ok-file.file in
    let known = sound_as g.S.Store.blocks o.read opened.same o.sound o.loaded in
    let named = ap (λ b. file_named (g.S.Store.blocks b.now) name) (sym opened.same) ∙ sym c.in_ok-file.ensures in
    let enough = sym (c.if-not-has_enough_blocks.ensures ∙ ap (λ b. enough_blocks b file.inode (length contents)) known.loaded.superblock) in
    let served = served_yes g.S.Store.laws (write_asked v (g.S.Store.marks s) name contents) (written v contents) (write_yes v (g.S.Store.marks s) name contents (sym c.if-not-is_lawful.ensures) c.if-contents-gt-MAX_FILE.false opened.answer file named enough) c.rewrite.ensures in
    search rules
