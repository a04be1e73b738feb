-- The ways out: each question's no, and the removed file.
use Rattle.std.proofs.Common.{sym, ap, ◌∙◌, rules}
use Rattle.reading.proofs.Finding.{file_in}
use Rattle.reading.specs.Found.{file_named}
use Rattle.allotment.proofs.Leading.{served_yes, served_refused}
use Rattle.writing.proofs.Removing.{remove_unopened, remove_last}
use Rattle.writing.specs.Removes.{removed, remove_asked}
use Rattle.writing.proofs.remove.remove.Goals as goal

pub returns-in_err-volume : goal.returns-in_err-volume
returns-in_err-volume g c =
    let s = c.args.store.now in
    let v = g.S.Store.blocks s in
    let name = c.args.name.now in
    served_refused g.S.Store.laws s (remove_asked v (g.S.Store.marks s) name) (removed v) c.from_residual.ensures.1 (remove_unopened v (g.S.Store.marks s) name (sym c.if-not-is_lawful.ensures) _ c.in_err-volume.ensures.answer)

pub returns-in_err-file : goal.returns-in_err-file
returns-in_err-file g c =
    let s = c.args.store.now in
    let v = g.S.Store.blocks s in
    let name = c.args.name.now in
    let opened = c.in_ok-volume.ensures in
    let absent = ap (λ b. file_named (g.S.Store.blocks b.now) name) (sym opened.same) ∙ sym c.in_err-file.ensures in
    served_refused g.S.Store.laws s (remove_asked v (g.S.Store.marks s) name) (removed v) c.from_residual-in_err-file.ensures.1 (remove_last v (g.S.Store.marks s) name (sym c.if-not-is_lawful.ensures) _ opened.answer absent)

pub discard-requires-clause-found : goal.discard-requires-clause-found
discard-requires-clause-found g c =
    let s = c.args.store.now in
    let v = g.S.Store.blocks s in
    let name = c.args.name.now in
    let opened = c.in_ok-volume.ensures in
    let named = ap (λ b. file_named (g.S.Store.blocks b.now) name) (sym opened.same) ∙ sym c.in_ok-file.ensures in
    file_in v name c.in_ok-file.file named

pub returns : goal.returns
returns g c =
    let s = c.args.store.now in
    let v = g.S.Store.blocks s in
    let name = c.args.name.now in
    let opened = c.in_ok-volume.ensures in
    let named = ap (λ b. file_named (g.S.Store.blocks b.now) name) (sym opened.same) ∙ sym c.in_ok-file.ensures in
    let served = served_yes g.S.Store.laws (remove_asked v (g.S.Store.marks s) name) (removed v) (remove_last v (g.S.Store.marks s) name (sym c.if-not-is_lawful.ensures) _ opened.answer named) c.discard.ensures in
    search rules
