-- What every call keeps: the wallet stays sound, its keys only grow, and covers once laid out, marks and the number of blocks stay.
use Rattle.std.proofs.Common.{◌≡◌, ℕ, ◌*◌, ◌<◌, ◌≤◌, true, eqb, leb, List, [], ◌∷◌, length, get_or, is_ok, Some, None, Ok, Err, Option, Result, sym, refl, ap, ◌∙◌, subst, ⊎_elim, arith}
use Rattle.keys.specs.Bits.{entry}
use Rattle.keys.specs.Calls.{extended, add_call, take_call}
use Rattle.keys.specs.Keys.{Sound}
use Rattle.keys.proofs.Keeping.{sound-added, sound_taken}
use Rattle.std.proofs.lemmas.List.{length_push, get_or_append_left}
use Rattle.std.proofs.lemmas.Bool.{eqb-true, leb-true, ltb-true, cond_both, cases_lt, eqb-false, false≢true}
use Rattle.store.specs.Stores.{Block}
use Rattle.faults.specs.declared.Fault.{Fault}
use Rattle.wallet.specs.Places.{Covers}
use Rattle.wallet.specs.Wallets.{State, in_limits, lay_out_answer, with_covers, with_keys, with_chosen, key_call, stands, filled_under}
use Rattle.law.specs.Runs.{Call, lay_out, add_key, take_key, disclose, choose, by_level, by_store, changed_by, store_call, step, run, New, SoundWallet}
use Rattle.law.specs.Services.{Answer, Service}
use Rattle.law.proofs.Showing.{length-refilled, whole-refilled}

-- The keys that stood still stand, at their levels.
pub record Longer (keys keys' : List ℕ) : Type 0 where
  pub many : length keys ≤ length keys'
  pub same : (i : ℕ) → i < length keys → get_or keys' i 0 ≡ get_or keys i 0

pub record Grows (w w' : State) : Type 0 where
  pub keys : Longer w.keys w'.keys
  pub covers : 0 < w.covers.count → w'.covers ≡ w.covers
  pub marks : w'.marks ≡ w.marks

pub grows_none : (w : State) → Grows w w
grows_none w = record { keys = record { many = omega arith; same = λ i lt. refl }; covers = λ pos. refl; marks = refl }

pub grows_on : (w w' w'' : State) → Grows w w' → Grows w' w'' → Grows w w''
grows_on w w' w'' p q = record {
  keys = record { many = omega (arith, p.keys.many, q.keys.many); same = λ i lt. q.keys.same i (omega (arith, p.keys.many)) ∙ p.keys.same i lt };
  covers = λ pos. q.covers (subst (λ (c : Covers). 0 < c.count) (sym (p.covers pos)) pos) ∙ p.covers pos;
  marks = q.marks ∙ p.marks;
}

-- What a call leads to.
pub record Leads (w w' : State) : Type 0 where
  pub sound : SoundWallet w'
  pub grows : Grows w w'

module _ (w : State) (sound : SoundWallet w) where
  leads_none : Leads w w
  leads_none = record { sound = sound; grows = grows_none w }

  pub laid_out : (k n : ℕ) → is_ok (lay_out_answer w k n) ≡ true → (w.covers.count ≡ 0) × (k * n ≤ length w.blocks) × (in_limits k n ≡ true)
  laid_out k n =
      cond_both (eqb w.covers.count 0) _ _ Says
      (λ none.
      cond_both (in_limits k n) _ _ Says
      (λ limits. cond_both (leb (k * n) (length w.blocks)) _ _ Says (λ room ok. (eqb-true w.covers.count 0 none, leb-true (k * n) (length w.blocks) room, limits)) (λ _ wrong. absurd (false≢true wrong)))
      (λ _ wrong. absurd (false≢true wrong)))
      (λ _ wrong. absurd (false≢true wrong))
    where
      Says : Result (Unit {0}) Fault → Type 0
      Says r = is_ok r ≡ true → (w.covers.count ≡ 0) × (k * n ≤ length w.blocks) × (in_limits k n ≡ true)

  no_keys : w.covers.count ≡ 0 → length w.keys ≡ 0
  no_keys none = ⊎_elim (λ some. let pos = sound.laid some in absurd (omega arith)) (λ few. omega arith) (cases_lt 0 (length w.keys))

  leads_covers : (k n : ℕ) → is_ok (lay_out_answer w k n) ≡ true → Leads w (with_covers (record { count = k; blocks = n }) w)
  leads_covers k n ok = record {
    sound = record {
      keys = record {
        few = sound.keys.few;
        orthonormal = sound.keys.orthonormal;
        below = λ i lt. absurd (omega (arith, no_keys none));
      };
      laid = λ some. absurd (omega (arith, no_keys none));
      room = (laid_out k n ok).1;
      chosen = sound.chosen;
      paired = sound.paired;
      whole = sound.whole;
    };
    grows = record { keys = (grows_none w).keys; covers = λ pos. absurd (omega (arith, none)); marks = refl };
  }
    where
      none : w.covers.count ≡ 0
      none = (laid_out k n ok).0

  leads_keys : (keys : List ℕ) → 0 < w.covers.count → Sound w.covers.count keys → Longer w.keys keys → Leads w (with_keys keys w)
  leads_keys keys pos good longer = record {
    sound = record {
      keys = good;
      laid = λ some. pos;
      room = sound.room;
      chosen = λ level e. omega (arith, sound.chosen level e, longer.many);
      paired = sound.paired;
      whole = sound.whole;
    };
    grows = record { keys = longer; covers = λ p. refl; marks = refl };
  }

  leads_chosen : (level : ℕ) → level < length w.keys → Leads w (with_chosen level w)
  leads_chosen level lt = record {
    sound = record {
      keys = sound.keys;
      laid = sound.laid;
      room = sound.room;
      chosen = λ other e. let same : level ≡ other = cc in omega arith;
      paired = sound.paired;
      whole = sound.whole;
    };
    grows = record { keys = (grows_none w).keys; covers = λ p. refl; marks = refl };
  }

  leads_filled : (key : ℕ) (new : List Block) → Leads w (filled_under w key new)
  leads_filled key new = record {
    sound = record {
      keys = sound.keys;
      laid = sound.laid;
      room = omega (arith, sound.room, size);
      chosen = sound.chosen;
      paired = sound.paired ∙ sym size;
      whole = whole-refilled w.covers (entry key) w.blocks new;
    };
    grows = record { keys = (grows_none w).keys; covers = λ p. refl; marks = refl };
  }
    where
      size : length (filled_under w key new).blocks ≡ length w.blocks
      size = length-refilled w.covers (entry key) w.blocks new

-- a key call leaves the keys as they were or one more at their end
pub extended-longer : (keys : List ℕ) (v : ℕ) (r : Result ℕ Fault) → Longer keys (extended keys v r)
extended-longer keys v (Ok level) = record { many = omega (arith, length_push keys v); same = λ i lt. get_or_append_left keys (v ∷ []) 0 i lt }
extended-longer keys v (Err f) = record { many = omega arith; same = λ i lt. refl }

module _ {C V M : Type 0} (s : Service C V M) where
  module _ (w : State) (sound : SoundWallet w) where
    key_leads : (call : ℕ → List ℕ → ℕ → Result ℕ Fault × List ℕ) (v : ℕ) → Sound w.covers.count (call w.covers.count w.keys v).1 → Longer w.keys (call w.covers.count w.keys v).1 → Leads w (key_call call w v).1
    key_leads call v good longer =
        cond_both (eqb w.covers.count 0) _ _ (λ (out : Result ℕ Fault × State). Leads w out.1) (λ none. leads_none w sound)
        (λ some. let other = eqb-false w.covers.count 0 some in leads_keys w sound (call w.covers.count w.keys v).1 (omega arith) good longer)

    leads-asked : (level : ℕ) (c : C) → level < length w.keys → Leads w (with_chosen level (changed_by s w level c))
    leads-asked level c lt = record {
      sound = (leads_chosen filled there.sound level lt).sound;
      grows = grows_on w filled (with_chosen level filled) there.grows (leads_chosen filled there.sound level lt).grows;
    }
      where
        filled : State
        filled = changed_by s w level c

        there : Leads w filled
        there = leads_filled w sound _ _

    pub step-leads : (c : Call C) → Leads w (step s c w).1
    unfolding step
    step-leads (lay_out k n) = cond_both (is_ok (lay_out_answer w k n)) _ w (Leads w) (leads_covers w sound k n) (λ no'. leads_none w sound)
    step-leads (add_key v) = key_leads add_call v (sound-added w.covers.count w.keys sound.keys v) (extended-longer w.keys _ _)
    step-leads (take_key v) = key_leads take_call v (sound_taken w.covers.count w.keys sound.keys v) (extended-longer w.keys v _)
    step-leads (disclose d list) = leads_none w sound
    step-leads (choose level) = cond_both (stands w level) _ w (Leads w) (λ yes'. leads_chosen w sound level (ltb-true level (length w.keys) yes')) (λ no'. leads_none w sound)
    step-leads (by_level level c) = cond_both (stands w level) _ _ (λ (out : Answer V M × State). Leads w out.1) (λ yes'. leads-asked level c (ltb-true level (length w.keys) yes')) (λ no'. leads_none w sound)
    step-leads (by_store c) = by_chosen w.chosen
      where
        by_chosen : (o : Option ℕ) → Leads w (store_call s o w c).1
        by_chosen None = leads_none w sound
        by_chosen (Some level) = leads_filled w sound _ _

  pub run-leads : (calls : List (Call C)) (w : State) → SoundWallet w → Leads w (run s calls w).1
  run-leads [] w sound = leads_none w sound
  run-leads (c ∷ cs) w sound =
      let here = step-leads w sound c in
      let there = run-leads cs (step s c w).1 here.sound in
      record { sound = there.sound; grows = grows_on w (step s c w).1 (run s cs (step s c w).1).1 here.grows there.grows }

-- a new wallet is sound
pub new-sound : (w : State) → New w → SoundWallet w
new-sound w new = record {
  keys = record {
    few = omega (arith, none);
    orthonormal = record { own = λ i lt. absurd (omega (arith, none)); others = λ i j two. absurd (omega (arith, two.0, none)) };
    below = λ i lt. absurd (omega (arith, none));
  };
  laid = λ some. absurd (omega (arith, none));
  room = subst (λ (c : Covers). c.count * c.blocks ≤ length w.blocks) (sym new.covers) (omega arith);
  chosen = λ level e. cc new.chosen;
  paired = new.paired;
  whole = new.whole;
}
  where
    none : length w.keys ≡ 0
    none = ap length new.keys
