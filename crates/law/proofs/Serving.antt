-- A call does to the level that it goes to what it does to a lone one, and spares the others.
use Rattle.std.proofs.Common.{◌≡◌, ℕ, ◌^◌, ◌<◌, Bool, true, false, cond, eqb, List, length, is_ok, Some, None, Ok, Err, Option, Result, sym, refl, ap, ◌∙◌, subst}
use Rattle.keys.specs.Bits.{bits, entry}
use Rattle.keys.specs.Keys.{product}
use Rattle.std.proofs.lemmas.Bool.{ltb-true, cond_both}
use Rattle.store.specs.Stores.{Block, Mark}
use Rattle.faults.specs.declared.Fault.{Fault}
use Rattle.wallet.specs.Levels.{shown, refilled}
use Rattle.wallet.specs.Places.{Covers}
use Rattle.wallet.specs.Wallets.{State, lay_out_answer, with_chosen, stands, not_standing, key_at, shown_under, marks_under}
use Rattle.wallet.proofs.Changing.{Whole, length-shown}
use Rattle.law.specs.Alone.{Asked, chosen, named, unnamed, Goes, to_chosen, goes, lone_step, blocks_under}
use Rattle.law.specs.Runs.{Call, lay_out, add_key, take_key, disclose, choose, by_level, by_store, Reply, done, served, asking, changed_by, store_call, step, SoundWallet}
use Rattle.law.specs.Services.{Answer, Service, Keeps, stamped, refused}
use Rattle.law.proofs.Showing.{whole-shown, refilled-shown, shown-itself, shown-other, length-level_marks}

module _ {C V M : Type 0} (s : Service C V M) where
  -- What a lone level does with what the wallet's level shows.
  abbrev pub alone : State → Goes C → Reply V M × List Block
  alone w g = lone_step s g.level (marks_under w g.level (key_at w g.level)) g.asks (shown_under w (key_at w g.level))

  -- The level stands, replies as a lone one, and takes what that then holds.
  pub record Serves (w : State) (g : Goes C) (out : Reply V M × State) : Type 0 where
    pub standing : g.level < length w.keys
    pub reply : out.0 ≡ (alone w g).0
    pub blocks : out.1.blocks ≡ refilled bits w.covers (entry (key_at w g.level)) (alone w g).1 w.blocks

  -- What a call does: where it goes to no level, no block changes.
  abbrev pub Does : State → Option (Goes C) → Reply V M × State → Type 0
  Does w None out = out.1.blocks ≡ w.blocks
  Does w (Some g) out = Serves w g out

  module _ (w : State) (sound : SoundWallet w) where
    pub step-does : (c : Call C) → Does w (goes c w) (step s c w)
    unfolding step
    step-does (lay_out k n) = cond_both (is_ok (lay_out_answer w k n)) _ w (λ (x : State). x.blocks ≡ w.blocks) (λ ok. refl) (λ no'. refl)
    step-does (add_key v) = cond_both (eqb w.covers.count 0) _ _ (λ (out : Result ℕ Fault × State). out.1.blocks ≡ w.blocks) (λ none. refl) (λ some. refl)
    step-does (take_key v) = cond_both (eqb w.covers.count 0) _ _ (λ (out : Result ℕ Fault × State). out.1.blocks ≡ w.blocks) (λ none. refl) (λ some. refl)
    step-does (disclose d list) = refl
    step-does (choose level) = by_standing (stands w level) refl
      where
        by_standing : (b : Bool) → stands w level ≡ b → Does w (cond b (Some (record { level = level; asks = chosen })) None) (done (cond b (Ok tt) (Err (not_standing level))), cond b (with_chosen level w) w)
        by_standing true e = record { standing = ltb-true level (length w.keys) e; reply = refl; blocks = sym (refilled-shown w.covers (entry (key_at w level)) w.blocks sound.whole) }
        by_standing false e = refl
    step-does (by_level level c) = by_standing (stands w level) refl
      where
        answer : Bool → Answer V M × State
        answer b = cond b (stamped level (asking s w level c).0, with_chosen level (changed_by s w level c)) (refused s c (not_standing level), w)

        by_standing : (b : Bool) → stands w level ≡ b → Does w (cond b (Some (record { level = level; asks = named c })) None) (served (answer b).0, (answer b).1)
        by_standing true e = record { standing = ltb-true level (length w.keys) e; reply = refl; blocks = refl }
        by_standing false e = refl
    step-does (by_store c) = by_chosen w.chosen refl
      where
        by_chosen : (o : Option ℕ) → w.chosen ≡ o → Does w (to_chosen c o) (served (store_call s o w c).0, (store_call s o w c).1)
        by_chosen None e = refl
        by_chosen (Some level) e = record { standing = sound.chosen level e; reply = refl; blocks = refl }

  module _ (keeps : Keeps s) where
    module _ (j : ℕ) (ms : List Mark) (bs : List Block) (paired : length ms ≡ length bs) (whole : Whole bs) where
      lone-count : (a : Asked C) → length (lone_step s j ms a bs).1 ≡ length bs
      lone-count chosen = refl
      lone-count (named c) = keeps.count c bs ms paired whole
      lone-count (unnamed c) = keeps.count c bs ms paired whole

      lone-whole : (a : Asked C) → Whole (lone_step s j ms a bs).1
      lone-whole chosen = whole
      lone-whole (named c) = keeps.whole c bs ms paired whole
      lone-whole (unnamed c) = keeps.whole c bs ms paired whole

    module _ (w : State) (sound : SoundWallet w) (g : Goes C) (out : Reply V M × State) (serves : Serves w g out) where
      key : ℕ
      key = key_at w g.level

      -- the level shows what the lone one holds
      pub level_itself : blocks_under w.covers (key_at w g.level) out.1 ≡ (alone w g).1
      unfolding key
      level_itself =
          ap (shown bits w.covers (entry key)) serves.blocks ∙
          shown-itself w.covers w.blocks sound.room key (alone w g).1 (sound.keys.below g.level serves.standing) (sound.keys.orthonormal.own g.level serves.standing)
          (lone-count g.level (marks_under w g.level key) (shown_under w key) paired whole g.asks ∙ length-shown bits w.covers (entry key) w.blocks)
          (lone-whole g.level (marks_under w g.level key) (shown_under w key) paired whole g.asks)
        where
          paired : length (marks_under w g.level key) ≡ length (shown_under w key)
          paired = length-level_marks w.covers g.level (entry key) w.marks ∙ sym (length-shown bits w.covers (entry key) w.blocks)

          whole : Whole (shown_under w key)
          whole = whole-shown w.covers (entry key) w.blocks

      -- a key that has product 0 with the level's shows what it showed
      pub level_others : (v : ℕ) → v < 2 ^ w.covers.count → product v (key_at w g.level) ≡ 0 → blocks_under w.covers v out.1 ≡ blocks_under w.covers v w
      level_others v lt apart =
          ap (shown bits w.covers (entry v)) serves.blocks ∙
          shown-other w.covers w.blocks sound.room (key_at w g.level) (alone w g).1 v lt apart

    module _ (w : State) (sound : SoundWallet w) (c : Call C) where
      pub step-serves : (g : Goes C) → goes c w ≡ Some g → Serves w g (step s c w)
      step-serves g e = subst (λ o. Does w o (step s c w)) e (step-does w sound c)

      -- a key that has product 0 with that of the level it goes to, if any, shows what it showed
      pub step-spares : (covers : Covers) (v : ℕ) → ((g : Goes C) → goes c w ≡ Some g → g.level < length w.keys → (w.covers ≡ covers) × (v < 2 ^ covers.count) × (product v (key_at w g.level) ≡ 0)) → blocks_under covers v (step s c w).1 ≡ blocks_under covers v w
      step-spares covers v apart = by_place (goes c w) refl (step-does w sound c)
        where
          by_place : (o : Option (Goes C)) → goes c w ≡ o → Does w o (step s c w) → blocks_under covers v (step s c w).1 ≡ blocks_under covers v w
          by_place None e same = ap (shown bits covers (entry v)) same
          by_place (Some g) e serves =
              let facts = apart g e serves.standing in
              subst (λ c'. blocks_under c' v (step s c w).1 ≡ blocks_under c' v w) facts.0
              (level_others w sound g (step s c w) serves v (subst (λ (c' : Covers). v < 2 ^ c'.count) (sym facts.0) facts.1) facts.2)
