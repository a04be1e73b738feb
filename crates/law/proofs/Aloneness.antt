-- The law of lone levels, from any sound wallet and so from every new one.
use Rattle.std.proofs.Common.{◌≡◌, ℕ, ◌^◌, ◌<◌, eqb, List, [], ◌∷◌, length, get_or, Some, None, Option, sym, refl, ap, ◌∙◌, subst, ap₂, ⊎_elim, arith}
use Rattle.keys.specs.Bits.{bits, entry}
use Rattle.keys.specs.Keys.{product, Sound, Fits}
use Rattle.keys.proofs.Standing.{product-comm}
use Rattle.std.proofs.lemmas.Bool.{eqb-true, eq-eqb, cases_Bool, cond-true, cond-false}
use Rattle.store.specs.Stores.{Block, Mark}
use Rattle.wallet.specs.Levels.{level_marks}
use Rattle.wallet.specs.Places.{Covers}
use Rattle.wallet.specs.Wallets.{State, key_at, shown_under, marks_under}
use Rattle.law.specs.Alone.{Asked, Goes, goes, only, sent_to, lone_step, blocks_under, marks_at, StandsAlone, Ran, RunsStandAlone}
use Rattle.law.specs.Runs.{Call, Reply, step, run, SoundWallet}
use Rattle.law.specs.Services.{Service, Keeps}
use Rattle.law.proofs.Keeping.{step-leads, run-leads, new-sound}
use Rattle.law.proofs.Serving.{Serves, level_itself, step-serves, step-spares}
use Rattle.law.proofs.Simulating.{simulated}

module _ {C : Type 0} (j : ℕ) where
  -- what is sent to level j goes there
  sent-goes : (o : Option (Goes C)) (a : Asked C) → only j o ≡ Some a → o ≡ Some (record { level = j; asks = a })
  sent-goes None a e = cc
  sent-goes (Some g) a e =
      ⊎_elim
      (λ here. let same : g.asks ≡ a = cc (cond-true (eqb g.level j) (Some g.asks) None here) in ap₂ (λ l b. Some (record { level = l; asks = b })) (eqb-true g.level j here) same)
      (λ other. absurd (cc (cond-false (eqb g.level j) (Some g.asks) None other)))
      (cases_Bool (eqb g.level j))

  -- what is not sent to it goes elsewhere
  unsent-goes : (g : Goes C) → only j (Some g) ≡ None → g.level ≡ j → ⊥
  unsent-goes g e here = cc (cond-true (eqb g.level j) (Some g.asks) None (eq-eqb g.level j here))

module _ {C V M : Type 0} (s : Service C V M) (keeps : Keeps s) (covers : Covers) (keys : List ℕ) where
  -- A sound wallet from which the calls that are left lead to these covers and keys.
  record Ends (cs : List (Call C)) (w : State) : Type 0 where
    sound : SoundWallet w
    covers_then : (run s cs w).1.covers ≡ covers
    keys_then : (run s cs w).1.keys ≡ keys

  ends_more : (c : Call C) (cs : List (Call C)) (w : State) → Ends (c ∷ cs) w → Ends cs (step s c w).1
  ends_more c cs w ends = record { sound = (step-leads s w ends.sound c).sound; covers_then = ends.covers_then; keys_then = ends.keys_then }

  -- of a level that stands, covers and key are those of the end
  module _ (cs : List (Call C)) (w : State) (ends : Ends cs w) (i : ℕ) (standing : i < length w.keys) where
    covers-now : w.covers ≡ covers
    covers-now = sym ((run-leads s cs w ends.sound).grows.covers (ends.sound.laid (omega arith))) ∙ ends.covers_then

    key-now : key_at w i ≡ get_or keys i 0
    key-now = sym ((run-leads s cs w ends.sound).grows.keys.same i standing) ∙ ap (λ ks. get_or ks i 0) ends.keys_then

    stands-then : i < length keys
    stands-then = omega (arith, (run-leads s cs w ends.sound).grows.keys.many, ap length ends.keys_then)

  module _ (sound : Sound covers.count keys) where
    -- a key that has product 0 with that of the level a call goes to shows what it showed
    spared : (v : ℕ) → v < 2 ^ covers.count → (c : Call C) (cs : List (Call C)) (w : State) → Ends (c ∷ cs) w → ((g : Goes C) → goes c w ≡ Some g → g.level < length keys → product v (get_or keys g.level 0) ≡ 0) → blocks_under covers v (step s c w).1 ≡ blocks_under covers v w
    spared v lt c cs w ends apart =
        step-spares s keeps w ends.sound c covers v
        (λ g e standing. (covers-now (c ∷ cs) w ends g.level standing, lt, ap (product v) (key-now (c ∷ cs) w ends g.level standing) ∙ apart g e (stands-then (c ∷ cs) w ends g.level standing)))

    unopened-run : (v : ℕ) → v < 2 ^ covers.count → Fits keys v → (cs : List (Call C)) (w : State) → Ends cs w → blocks_under covers v (run s cs w).1 ≡ blocks_under covers v w
    unopened-run v lt fits [] w ends = refl
    unopened-run v lt fits (c ∷ cs) w ends =
        unopened-run v lt fits cs (step s c w).1 (ends_more c cs w ends) ∙
        spared v lt c cs w ends (λ g e standing. product-comm v (get_or keys g.level 0) ∙ fits.others g.level standing)

    module _ (j : ℕ) (stands : j < length keys) (ms : List Mark) where
      abbrev key : ℕ
      key = get_or keys j 0

      record Holds (cs : List (Call C)) (w : State) (bs : List Block) : Type 0 where
        ends : Ends cs w
        marks : w.marks ≡ ms
        holds : bs ≡ blocks_under covers key w

      passes : (c : Call C) (cs : List (Call C)) (w : State) (bs : List Block) → sent_to j c w ≡ None → Holds (c ∷ cs) w bs → Holds cs (step s c w).1 bs
      passes c cs w bs unsent h = record {
        ends = ends_more c cs w h.ends;
        marks = (step-leads s w h.ends.sound c).grows.marks ∙ h.marks;
        holds = h.holds ∙ sym (spared key (sound.below j stands) c cs w h.ends (λ g e standing. sound.orthonormal.others j g.level (stands, standing, λ same. unsent-goes j g (ap (only j) (sym e) ∙ unsent) (sym same))));
      }

      acts : (c : Call C) (cs : List (Call C)) (w : State) (bs : List Block) (a : Asked C) → sent_to j c w ≡ Some a → Holds (c ∷ cs) w bs
          → ((step s c w).0 ≡ (lone_step s j (level_marks bits covers j (entry key) ms) a bs).0) × Holds cs (step s c w).1 (lone_step s j (level_marks bits covers j (entry key) ms) a bs).1
      acts c cs w bs a sent h = (
        serves.reply ∙ same (λ out. out.0),
        record {
          ends = ends_more c cs w h.ends;
          marks = (step-leads s w h.ends.sound c).grows.marks ∙ h.marks;
          holds = sym (same (λ out. out.1)) ∙ sym (level_itself s keeps w h.ends.sound _ (step s c w) serves) ∙ under (step s c w).1;
        },
      )
        where
          serves : Serves s w (record { level = j; asks = a }) (step s c w)
          serves = step-serves s keeps w h.ends.sound c (record { level = j; asks = a }) (sent-goes j (goes c w) a sent)

          under : (x : State) → blocks_under w.covers (key_at w j) x ≡ blocks_under covers key x
          under x = ap₂ (λ c' u. blocks_under c' u x) (covers-now (c ∷ cs) w h.ends j serves.standing) (key-now (c ∷ cs) w h.ends j serves.standing)

          marks_are : marks_under w j (key_at w j) ≡ level_marks bits covers j (entry key) ms
          marks_are = ap₂ (λ c' u. level_marks bits c' j (entry u) w.marks) (covers-now (c ∷ cs) w h.ends j serves.standing) (key-now (c ∷ cs) w h.ends j serves.standing) ∙ ap (level_marks bits covers j (entry key)) h.marks

          same : {Z : Type 0} (part : Reply V M × List Block → Z) → part (lone_step s j (marks_under w j (key_at w j)) a (shown_under w (key_at w j))) ≡ part (lone_step s j (level_marks bits covers j (entry key) ms) a bs)
          same part = ap₂ (λ x y. part (lone_step s j x a y)) marks_are (under w ∙ sym h.holds)

module _ {C V M : Type 0} (s : Service C V M) (keeps : Keeps s) where
  pub stands-alone : (w : State) → SoundWallet w → (calls : List (Call C)) → StandsAlone s w calls (run s calls w).0 (run s calls w).1
  stands-alone w sound calls = record {
    levels = λ j stands.
        let both = simulated s (sent_to j) (lone_step s j (marks_at w'.covers j (key_at w' j) w)) (Holds s keeps w'.covers w'.keys good j stands w.marks) (passes s keeps w'.covers w'.keys good j stands w.marks) (acts s keeps w'.covers w'.keys good j stands w.marks) calls w (blocks_under w'.covers (key_at w' j) w) (record { ends = ends; marks = refl; holds = refl }) in
        record { answers = both.0; contents = sym both.1.holds };
    unopened = λ key lt fits. unopened-run s keeps w'.covers w'.keys good key lt fits calls w ends;
  }
    where
      w' : State
      w' = (run s calls w).1

      good : Sound w'.covers.count w'.keys
      good = (run-leads s calls w sound).sound.keys

      ends : Ends s keeps w'.covers w'.keys calls w
      ends = record { sound = sound; covers_then = refl; keys_then = refl }

  -- so it is of what was observed of a run from a sound wallet
  pub ran-alone : (w : State) (calls : List (Call C)) (replies : List (Reply V M)) (w' : State) → SoundWallet w → Ran s w calls replies w' → StandsAlone s w calls replies w'
  ran-alone w calls replies w' sound ran = subst (λ (out : List (Reply V M) × State). StandsAlone s w calls out.0 out.1) ran (stands-alone w sound calls)

  pub runs_stand-alone : RunsStandAlone s
  runs_stand-alone w calls replies w' new = ran-alone w calls replies w' (new-sound w new)
