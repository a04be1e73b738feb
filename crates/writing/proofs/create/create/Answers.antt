-- The ways out: each question's no, and the new file.
use Rattle.std.proofs.Common.{is_some, Err, sym, ap, ◌∙◌, rules}
use Rattle.reading.proofs.Finding.{looked_up}
use Rattle.allotment.proofs.Leading.{served_yes, served_no, served_refused}
use Rattle.writing.proofs.Creating.{create_unopened, create-present, create_last}
use Rattle.writing.proofs.Opening.{sound_as}
use Rattle.writing.specs.Creates.{created, create_asked, vacancy_in}
use Rattle.writing.proofs.create.create.Goals as goal

pub returns-in_err-volume : goal.returns-in_err-volume
returns-in_err-volume g c =
    let s = c.args.store.now in
    let v = g.S.Store.blocks s in
    let name = c.args.name.now in
    served_refused g.S.Store.laws s (create_asked v (g.S.Store.marks s) name) (created v name) c.from_residual.ensures.1 (create_unopened v (g.S.Store.marks s) name (sym c.if-not-is_lawful.ensures) _ c.in_err-volume.ensures.answer)

pub returns-then-is_some : goal.returns-then-is_some
returns-then-is_some g c =
    let s = c.args.store.now in
    let v = g.S.Store.blocks s in
    let name = c.args.name.now in
    let o = c.in_ok-volume.volume in
    let opened = c.in_ok-volume.ensures in
    let known = sound_as g.S.Store.blocks o.read opened.same o.sound o.loaded in
    let present = sym (c.if-is_some.ensures ∙ ap is_some (c.find_entry.ensures ∙ looked_up v o.read name known.loaded)) in
    served_no g.S.Store.laws s (create_asked v (g.S.Store.marks s) name) (created v name) (ap Err c.from-then-is_some.ensures) (create-present v (g.S.Store.marks s) name (sym c.if-not-is_lawful.ensures) opened.answer present)

pub returns-in_err-vacancy : goal.returns-in_err-vacancy
returns-in_err-vacancy g c =
    let s = c.args.store.now in
    let v = g.S.Store.blocks s in
    let name = c.args.name.now in
    let o = c.in_ok-volume.volume in
    let opened = c.in_ok-volume.ensures in
    let known = sound_as g.S.Store.blocks o.read opened.same o.sound o.loaded in
    let absent = sym (c.if-is_some.ensures ∙ ap is_some (c.find_entry.ensures ∙ looked_up v o.read name known.loaded)) in
    let none = ap (λ b. vacancy_in (g.S.Store.blocks b.now)) (sym opened.same) ∙ sym c.in_err-vacancy.ensures in
    served_refused g.S.Store.laws s (create_asked v (g.S.Store.marks s) name) (created v name) c.from_residual-in_err-vacancy.ensures.1 (create_last v (g.S.Store.marks s) name (sym c.if-not-is_lawful.ensures) opened.answer _ absent none)

pub returns : goal.returns
returns g c =
    let s = c.args.store.now in
    let v = g.S.Store.blocks s in
    let name = c.args.name.now in
    let o = c.in_ok-volume.volume in
    let opened = c.in_ok-volume.ensures in
    let known = sound_as g.S.Store.blocks o.read opened.same o.sound o.loaded in
    let absent = sym (c.if-is_some.ensures ∙ ap is_some (c.find_entry.ensures ∙ looked_up v o.read name known.loaded)) in
    let found = ap (λ b. vacancy_in (g.S.Store.blocks b.now)) (sym opened.same) ∙ sym c.in_ok-vacancy.ensures in
    let served = served_yes g.S.Store.laws (create_asked v (g.S.Store.marks s) name) (created v name) (create_last v (g.S.Store.marks s) name (sym c.if-not-is_lawful.ensures) opened.answer _ absent found) c.enter.ensures in
    search rules
