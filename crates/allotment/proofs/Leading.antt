-- Puts after puts, for any store.
use Rattle.std.proofs.Common.{◌≡◌, ℕ, ◌+◌, List, length, get_or, set, Ok, Err, Result, sym, refl, ap, ◌∙◌}
use Rattle.std.proofs.lemmas.Result.{err_from_is_err_and}
use Rattle.std.specs.Borrow.{MutBor}
use Rattle.std.specs.Result.{IsErrAnd}
use Rattle.store.specs.Lives.{Leads}
use Rattle.store.specs.Stores.{Block, Mark, Laws}
use Rattle.faults.specs.declared.Fault.{Fault}
use Rattle.allotment.proofs.Laying.{laid_more}
use Rattle.allotment.specs.Calls.{Served, carried_out}
use Rattle.allotment.specs.Volumes.{contents_block, laid}

module _ {S : Type 0} {blocks : S → List Block} {marks : S → List Mark} {moved : S → S → Type 0} (laws : Laws blocks marks moved) where
  -- no put yet
  pub leads_none : (s : MutBor S) → Leads blocks moved (blocks s.now) s s
  leads_none s = record { after = refl; moves = laws.stays s.now; same = refl }

  -- the blocks that are left, in other words
  pub leads_to : {w x : List Block} {s t : MutBor S} → w ≡ x → Leads blocks moved w s t → Leads blocks moved x s t
  leads_to e led = record { after = led.after ∙ e; moves = led.moves; same = led.same }

  pub leads_join : {w x : List Block} {s t u : MutBor S} → Leads blocks moved w s t → Leads blocks moved x t u → Leads blocks moved x s u
  leads_join {w} {x} {s} {t} {u} first second = record { after = second.after; moves = laws.joins s.now t.now u.now first.moves second.moves; same = second.same ∙ first.same }

  -- one block more of a file's contents
  pub leads_laid : {s t u : MutBor S} {n after : ℕ} {block : Block} (v : List Block) (numbers contents : List ℕ) (k : ℕ)
      → Leads blocks moved (laid v numbers contents k) s t → Leads blocks moved (set (blocks t.now) n block) t u → n ≡ get_or numbers k 0 → block ≡ contents_block contents k → k + 1 ≡ after → Leads blocks moved (laid v numbers contents after) s u
  leads_laid {s} {t} {u} {n} {after} {block} v numbers contents k first second there holds more =
      leads_to
      (ap (λ w. set w n block) first.after ∙ ap (λ i. set (laid v numbers contents k) i block) there ∙ ap (set (laid v numbers contents k) (get_or numbers k 0)) holds ∙ laid_more v numbers contents k ∙ ap (laid v numbers contents) more)
      (leads_join first second)

  -- a store keeps its length
  pub still_long : {w : List Block} {s t : MutBor S} → Leads blocks moved w s t → length (blocks t.now) ≡ length (blocks s.now)
  still_long {w} {s} {t} led = sym (laws.paired t.now) ∙ ap length (laws.keeps s.now t.now led.moves) ∙ laws.paired s.now

  -- a call whose questions are answered by yes
  pub served_yes : {X : Type 0} {x : X} {s t : MutBor S} (asked : Result X Fault) (leaves : X → List Block) → asked ≡ Ok x → Leads blocks moved (leaves x) s t → Served blocks marks moved (carried_out asked leaves (blocks s.now)) s.now t.now (Ok tt)
  served_yes {X} {x} {s} {t} asked leaves is led =
      let call = ap (λ a. carried_out a leaves (blocks s.now)) is in
      record {
        answer = sym (ap (λ p. p.0) call);
        after = led.after ∙ sym (ap (λ p. p.1) call);
        moves = led.moves;
        keeps = laws.keeps s.now t.now led.moves;
        refused = λ not. (cc);
      }

  -- and one with a no
  pub served_no : {X : Type 0} (s : S) {r : Result (Unit {0}) Fault} {f : Fault} (asked : Result X Fault) (leaves : X → List Block) → r ≡ Err f → asked ≡ Err f → Served blocks marks moved (carried_out asked leaves (blocks s)) s s r
  served_no s asked leaves answered is =
      let call = ap (λ a. carried_out a leaves (blocks s)) is in
      record {
        answer = answered ∙ sym (ap (λ p. p.0) call);
        after = sym (ap (λ p. p.1) call);
        moves = laws.stays s;
        keeps = refl;
        refused = λ _. refl;
      }

  -- the same where a question's fault is passed on
  pub served_refused : {X : Type 0} (s : S) {r : Result (Unit {0}) Fault} {f : Fault} (asked : Result X Fault) (leaves : X → List Block) → IsErrAnd r (λ e. e ≡ f) → asked ≡ Err f → Served blocks marks moved (carried_out asked leaves (blocks s)) s s r
  served_refused s {r} asked leaves refused is = let p = err_from_is_err_and r refused in served_no s asked leaves (p.1 ∙ ap Err p.2) is
