-- The law of withheld levels: what the shown ones answer can be had from them alone.
use Rattle.std.proofs.lemmas.Grind.{common_steps}
use Rattle.std.proofs.Common.{◌≡◌, ℕ, ◌*◌, ◌^◌, ◌<◌, ◌≤◌, Bool, true, false, cond, eqb, ltb, leb, List, [], ◌∷◌, ◌++◌, length, get_or, take, drop, is_ok, Some, None, Ok, Err, Option, Result, sym, refl, ap, ◌∙◌, subst, ap₂, ⊎_elim, arith, length-take}
use Rattle.keys.specs.Bits.{bits, entry}
use Rattle.keys.specs.Calls.{disclose_answer, disclose_call, disclosed as disclosed_in}
use Rattle.keys.specs.Keys.{product}
use Rattle.std.proofs.lemmas.List.{get_or-take, ext_get_or}
use Rattle.std.proofs.lemmas.Bool.{eq-eqb, ne_eqb, cases_eq, le-leb, leb-true, ltb-true, ltb-false, cases_Bool, cond-true, cond-false, and_parts, false≢true}
use Rattle.faults.specs.Faults.{bare}
use Rattle.store.specs.Stores.{Block, Mark}
use Rattle.faults.specs.declared.Fault.{Fault}
use Rattle.faults.specs.declared.Question.TheVariants.{EnoughPlaces}
use Rattle.wallet.specs.Levels.{shown, level_marks}
use Rattle.wallet.specs.Places.{Covers}
use Rattle.wallet.specs.Wallets.{State, key_at, shown_under, marks_under, with_covers, lay_out_answer}
use Rattle.law.specs.Alone.{Goes, goes, requests, replies_to, lone_step, blocks_under, marks_at, Ran}
use Rattle.law.specs.Runs.{Call, lay_out, add_key, take_key, disclose, choose, by_level, by_store, Reply, disclosed, carried, step, run, SoundWallet}
use Rattle.law.specs.Services.{Service, Keeps}
use Rattle.law.specs.Withheld.{Open, disclosing, asks_level, below, opening, brings_key, all_bring_keys, Begins, Observed, SameOpenCalls, TellTheSame, GoesOn, ShowsNothingAbove}
use Rattle.law.proofs.Keeping.{Longer, Leads, laid_out, step-leads, run-leads, new-sound}
use Rattle.law.proofs.Serving.{Serves, Does, step-does, level_itself, step-serves, step-spares}
use Rattle.law.proofs.Showing.{level_marks-same}
use Rattle.law.proofs.Simulating.{simulated}

-- at most as many keys as both lists begin with are disclosed alike
module _ (keys more list : List ℕ) (longer : Longer keys more) (d : ℕ) (few : d ≤ length keys) where
  take-longer : take d more ≡ take d keys
  take-longer =
      ext_get_or 0 (take d more) (take d keys) (omega (arith, length-take d more, length-take d keys, longer.many))
      (λ i lt. let below : i < d = omega (arith, length-take d more) in get_or-take d more i 0 below ∙ longer.same i (omega arith) ∙ sym (get_or-take d keys i 0 below))

  -- What question 14 says once enough levels stand.
  abbrev placed : Bool → Result ℕ Fault
  placed b = cond b (Ok d) (Err (bare EnoughPlaces))

  stood : (xs : List ℕ) → d ≤ length xs → disclose_answer d xs (length list) ≡ placed (leb d (length list))
  stood xs enough = cond-true (leb d (length xs)) _ _ (le-leb d (length xs) enough)

  list_longer : (b : Bool) → disclosed_in more list (placed b) ≡ disclosed_in keys list (placed b)
  list_longer true = ap (λ ks. ks ++ drop d list) take-longer
  list_longer false = refl

  disclosed_longer : {V M : Type 0} → ◌≡◌ {A = Reply V M} (disclosed (disclose_call d more list).0 (disclose_call d more list).1) (disclosed (disclose_call d keys list).0 (disclose_call d keys list).1)
  disclosed_longer = grind (arith, common_steps, list_longer, stood, longer.many)

module _ {C : Type 0} (d : ℕ) where
  -- a call that is open by the level it goes to
  below-goes : (o : Option (Goes C)) (x : Open C) → below d o ≡ Some x → (g : Goes C) × (o ≡ Some g) × (g.level < d) × (asks_level g.level g.asks ≡ x)
  below-goes None x e = cc
  below-goes (Some g) x e =
      ⊎_elim
      (λ low. let same : asks_level g.level g.asks ≡ x = cc (cond-true (ltb g.level d) (Some (asks_level g.level g.asks)) None low) in (g, refl, ltb-true g.level d low, same))
      (λ high. absurd (cc (cond-false (ltb g.level d) (Some (asks_level g.level g.asks)) None high)))
      (cases_Bool (ltb g.level d))

  above-goes : (g : Goes C) → below d (Some g) ≡ None → d ≤ g.level
  above-goes g e = grind (arith, common_steps, ltb-false)

  -- a call that is not open goes to no level below d
  unopen-goes : (c : Call C) (w : State) → opening d c w ≡ None → below d (goes c w) ≡ None
  unopen-goes (lay_out k n) w e = refl
  unopen-goes (add_key v) w e = refl
  unopen-goes (take_key v) w e = refl
  unopen-goes (disclose many list) w e = refl
  unopen-goes (choose level) w e = e
  unopen-goes (by_level level c) w e = e
  unopen-goes (by_store c) w e = e

module _ {C V M : Type 0} (s : Service C V M) (keys : List ℕ) (ms : ℕ → List Mark) where
  -- A machine that holds only the shown levels, by their numbers, and their keys.
  abbrev open_step : Open C → (ℕ → List Block) → Reply V M × (ℕ → List Block)
  open_step (disclosing d list) held = (disclosed (disclose_call d keys list).0 (disclose_call d keys list).1, held)
  open_step (asks_level j a) held = ((lone_step s j (ms j) a (held j)).0, λ i. cond (eqb i j) (lone_step s j (ms j) a (held j)).1 (held i))

-- A sound wallet over these covers in which these are the first keys, with these marks of their levels.
pub record Shown (covers : Covers) (keys : List ℕ) (ms : ℕ → List Mark) (w : State) : Type 0 where
  pub sound : SoundWallet w
  pub same_covers : w.covers ≡ covers
  pub longer : Longer keys w.keys
  pub marks : (j : ℕ) → j < length keys → marks_at covers j (get_or keys j 0) w ≡ ms j

-- The machine holds the blocks of the shown levels.
record Held (covers : Covers) (keys : List ℕ) (ms : ℕ → List Mark) (w : State) (held : ℕ → List Block) : Type 0 where
  shows : Shown covers keys ms w
  holds : (j : ℕ) → j < length keys → held j ≡ blocks_under covers (get_or keys j 0) w

module _ {C V M : Type 0} (s : Service C V M) (keeps : Keeps s) (covers : Covers) (laid : 0 < covers.count) (keys : List ℕ) (ms : ℕ → List Mark) where
  shown-more : (c : Call C) (w : State) → Shown covers keys ms w → Shown covers keys ms (step s c w).1
  shown-more c w h = record {
    sound = leads.sound;
    same_covers = leads.grows.covers (subst (λ (x : Covers). 0 < x.count) (sym h.same_covers) laid) ∙ h.same_covers;
    longer = record { many = omega (arith, h.longer.many, leads.grows.keys.many); same = λ i lt. leads.grows.keys.same i (omega (arith, h.longer.many)) ∙ h.longer.same i lt };
    marks = λ j lt. ap (level_marks bits covers j (entry (get_or keys j 0))) leads.grows.marks ∙ h.marks j lt;
  }
    where
      leads : Leads w (step s c w).1
      leads = step-leads s w h.sound c

  -- a shown level is spared by a call that goes to none or to another
  shown-spared : (c : Call C) (w : State) → Shown covers keys ms w → (j : ℕ) → j < length keys → ((g : Goes C) → goes c w ≡ Some g → j ≡ g.level → ⊥) → blocks_under covers (get_or keys j 0) (step s c w).1 ≡ blocks_under covers (get_or keys j 0) w
  shown-spared c w h j lt apart =
      step-spares s keeps w h.sound c covers (get_or keys j 0)
      (λ g e standing. (
        h.same_covers,
        subst (λ (x : Covers). get_or keys j 0 < 2 ^ x.count) h.same_covers (subst (λ u. u < 2 ^ w.covers.count) (h.longer.same j lt) (h.sound.keys.below j (omega (arith, h.longer.many)))),
        ap (λ u. product u (key_at w g.level)) (sym (h.longer.same j lt)) ∙ h.sound.keys.orthonormal.others j g.level (omega (arith, h.longer.many), standing, apart g e),
      ))

  passes : (c : Call C) (cs : List (Call C)) (w : State) (held : ℕ → List Block) → opening (length keys) c w ≡ None → Held covers keys ms w held → Held covers keys ms (step s c w).1 held
  passes c cs w held unopen h = record {
    shows = shown-more c w h.shows;
    holds = λ j lt. h.holds j lt ∙ sym (shown-spared c w h.shows j lt (λ g e same. omega (arith, above-goes (length keys) g (ap (below (length keys)) (sym e) ∙ unopen-goes (length keys) c w unopen))));
  }

  -- The machine does with an open request what the wallet does with the call.
  abbrev Follows : Call C → State → (ℕ → List Block) → Open C → Type 0
  Follows c w held x = ((step s c w).0 ≡ (open_step s keys ms x held).0) × Held covers keys ms (step s c w).1 (open_step s keys ms x held).1

  module _ (c : Call C) (w : State) (held : ℕ → List Block) (h : Held covers keys ms w held) where
    acts_level : (g : Goes C) → goes c w ≡ Some g → g.level < length keys → Follows c w held (asks_level g.level g.asks)
    acts_level g e low = (
      serves.reply ∙ same (λ out. out.0),
      record {
        shows = shown-more c w h.shows;
        holds = λ i lt.
            ⊎_elim
            (λ here.
            cond-true (eqb i j) _ (held i) (eq-eqb i j here) ∙ sym (same (λ out. out.1)) ∙ sym (level_itself s keeps w h.shows.sound g (step s c w) serves) ∙ under (step s c w).1 ∙
            ap (λ n. blocks_under covers (get_or keys n 0) (step s c w).1) (sym here))
            (λ other.
            cond-false (eqb i j) _ (held i) (ne_eqb i j other) ∙ h.holds i lt ∙
            sym (shown-spared c w h.shows i lt (λ g' e' at. let there : g ≡ g' = cc in other (at ∙ sym (ap (λ (x : Goes C). x.level) there)))))
            (cases_eq i j);
      },
    )
      where
        j : ℕ
        j = g.level

        serves : Serves s w g (step s c w)
        serves = step-serves s keeps w h.shows.sound c g e

        under : (x : State) → blocks_under w.covers (key_at w j) x ≡ blocks_under covers (get_or keys j 0) x
        under x = ap₂ (λ c' u. blocks_under c' u x) h.shows.same_covers (h.shows.longer.same j low)

        marks_are : marks_under w j (key_at w j) ≡ ms j
        marks_are = ap₂ (λ c' u. level_marks bits c' j (entry u) w.marks) h.shows.same_covers (h.shows.longer.same j low) ∙ h.shows.marks j low

        same : {Z : Type 0} (part : Reply V M × List Block → Z) → part (lone_step s j (marks_under w j (key_at w j)) g.asks (shown_under w (key_at w j))) ≡ part (lone_step s j (ms j) g.asks (held j))
        same part = ap₂ (λ x y. part (lone_step s j x g.asks y)) marks_are (under w ∙ sym (h.holds j low))

    acts-below : (x : Open C) → below (length keys) (goes c w) ≡ Some x → Follows c w held x
    acts-below x e =
        let found = below-goes (length keys) (goes c w) x e in
        subst (Follows c w held) found.3 (acts_level found.0 found.1 found.2)

  acts_disclosing : (w : State) (held : ℕ → List Block) → Held covers keys ms w held → (d : ℕ) (list : List ℕ) → d ≤ length keys → Follows (disclose d list) w held (disclosing d list)
  unfolding step
  acts_disclosing w held h d list few = (disclosed_longer keys w.keys list h.shows.longer d few, h)

  acts : (c : Call C) (cs : List (Call C)) (w : State) (held : ℕ → List Block) (x : Open C) → opening (length keys) c w ≡ Some x → Held covers keys ms w held → Follows c w held x
  acts (lay_out k n) cs w held x e h = cc
  acts (add_key v) cs w held x e h = cc
  acts (take_key v) cs w held x e h = cc
  acts (disclose d list) cs w held x e h =
      ⊎_elim
      (λ few. let same : disclosing d list ≡ x = cc (cond-true {A = Option (Open C)} (leb d (length keys)) (Some (disclosing d list)) None few) in subst (Follows (disclose d list) w held) same (acts_disclosing w held h d list (leb-true d (length keys) few)))
      (λ many. absurd (cc (cond-false {A = Option (Open C)} (leb d (length keys)) (Some (disclosing d list)) None many)))
      (cases_Bool (leb d (length keys)))
  acts (choose level) cs w held x e h = acts-below (choose level) w held h x e
  acts (by_level level c) cs w held x e h = acts-below (by_level level c) w held h x e
  acts (by_store c) cs w held x e h = acts-below (by_store c) w held h x e

  -- two runs from wallets with these first keys, alike in the marks and blocks of their levels
  pub tell_the_same : (one two : Observed C V M) → Shown covers keys ms one.before → Shown covers keys ms two.before
      → ((j : ℕ) → j < length keys → blocks_under covers (get_or keys j 0) one.before ≡ blocks_under covers (get_or keys j 0) two.before)
      → Ran s one.before one.calls one.replies one.after → Ran s two.before two.calls two.replies two.after
      → SameOpenCalls s (length keys) one two → TellTheSame s covers keys one two
  tell_the_same one two shows₁ shows₂ alike ran₁ ran₂ same = record {
    answers = does₁.0 ∙ ap (λ xs. (carried (open_step s keys ms) xs held).0) same ∙ sym does₂.0;
    contents = λ j lt. sym (does₁.1.holds j lt) ∙ ap (λ xs. (carried (open_step s keys ms) xs held).1 j) same ∙ does₂.1.holds j lt;
  }
    where
      held : ℕ → List Block
      held j = blocks_under covers (get_or keys j 0) one.before

      -- Replies and end of a run are those of the machine.
      Done : Observed C V M → Type 0
      Done o = (replies_to s (opening (length keys)) o.calls o.replies o.before ≡ (carried (open_step s keys ms) (requests s (opening (length keys)) o.calls o.before) held).0) × Held covers keys ms o.after (carried (open_step s keys ms) (requests s (opening (length keys)) o.calls o.before) held).1

      done_by : (o : Observed C V M) → Ran s o.before o.calls o.replies o.after → Held covers keys ms o.before held → Done o
      done_by o ran h =
          subst (λ (out : List (Reply V M) × State). Done (record { before = o.before; calls = o.calls; replies = out.0; after = out.1 })) ran
          (simulated s (opening (length keys)) (open_step s keys ms) (λ cs. Held covers keys ms) passes acts o.calls o.before held h)

      does₁ : Done one
      does₁ = done_by one ran₁ (record { shows = shows₁; holds = λ j lt. refl })

      does₂ : Done two
      does₂ = done_by two ran₂ (record { shows = shows₂; holds = alike })

-- a call that brings a key goes to no level
key-goes : {C : Type 0} (c : Call C) (w : State) → brings_key c ≡ true → goes c w ≡ None
key-goes (lay_out k n) w e = refl
key-goes (add_key v) w e = refl
key-goes (take_key v) w e = refl
key-goes (disclose d list) w e = refl
key-goes (choose level) w e = absurd (false≢true e)
key-goes (by_level level c) w e = absurd (false≢true e)
key-goes (by_store c) w e = absurd (false≢true e)

module _ {C V M : Type 0} (s : Service C V M) where
  blocks_kept : (first : List (Call C)) (w : State) → SoundWallet w → all_bring_keys first ≡ true → (run s first w).1.blocks ≡ w.blocks
  blocks_kept [] w sound all = refl
  blocks_kept (c ∷ cs) w sound all =
      let both = and_parts (brings_key c) (all_bring_keys cs) all in
      blocks_kept cs (step s c w).1 (step-leads s w sound c).sound both.1 ∙ subst (λ o. Does s w o (step s c w)) (key-goes c w both.0) (step-does s w sound c)

  module _ (k n : ℕ) (keys : List ℕ) (w : State) (first : List (Call C)) (b : Begins s k n keys w first) where
    abbrev laid : Covers
    laid = record { count = k; blocks = n }

    abbrev begun : State
    begun = (run s (lay_out k n ∷ first) w).1

    after_laying : (step s (lay_out k n) w).1 ≡ with_covers laid w
    unfolding step
    after_laying = cond-true (is_ok (lay_out_answer w k n)) (with_covers laid w) w (ap is_ok b.laid)

    some_covers : 0 < k
    some_covers = grind (arith, common_steps, and_parts, laid_out, leb-true)

    whole_run : Leads w begun
    whole_run = run-leads s (lay_out k n ∷ first) w (new-sound w b.new)

    sound-laid : SoundWallet (step s (lay_out k n) w).1
    sound-laid = (step-leads s w (new-sound w b.new) (lay_out k n)).sound

    begun-covers : begun.covers ≡ laid
    begun-covers =
        (run-leads s first (step s (lay_out k n) w).1 sound-laid).grows.covers (subst (λ (x : State). 0 < x.covers.count) (sym after_laying) some_covers) ∙
        ap (λ (x : State). x.covers) after_laying

    begun-blocks : begun.blocks ≡ w.blocks
    begun-blocks = blocks_kept first (step s (lay_out k n) w).1 sound-laid b.bring ∙ ap (λ (x : State). x.blocks) after_laying

    begun-room : k * n ≤ length w.marks
    begun-room =
        let fits = subst (λ (x : Covers). x.count * x.blocks ≤ length begun.blocks) begun-covers whole_run.sound.room in
        omega (arith, fits, ap length begun-blocks, b.new.paired)

    begun-shows : (ms : ℕ → List Mark) → ((j : ℕ) → j < length keys → marks_at laid j (get_or keys j 0) w ≡ ms j) → Shown laid keys ms begun
    begun-shows ms marks = record {
      sound = whole_run.sound;
      same_covers = begun-covers;
      longer = subst (λ ks. Longer ks begun.keys) b.gives (record { many = omega arith; same = λ i lt. refl });
      marks = λ j lt. ap (level_marks bits laid j (entry (get_or keys j 0))) whole_run.grows.marks ∙ marks j lt;
    }

    begun-under : (key : ℕ) → blocks_under laid key begun ≡ blocks_under laid key w
    begun-under key = ap (shown bits laid (entry key)) begun-blocks

  -- where a run goes on, these are the first keys, and they show what they showed of the new wallet
  goes-on_shows : (k n : ℕ) (keys : List ℕ) (w : State) (o : Observed C V M) (g : GoesOn s k n keys w o) (ms : ℕ → List Mark) → ((j : ℕ) → j < length keys → marks_at (record { count = k; blocks = n }) j (get_or keys j 0) w ≡ ms j) → Shown (record { count = k; blocks = n }) keys ms o.before
  goes-on_shows k n keys w o g ms marks = subst (Shown (record { count = k; blocks = n }) keys ms) (sym g.starts) (begun-shows k n keys w g.first g.begins ms marks)

  goes-on_under : (k n : ℕ) (keys : List ℕ) (w : State) (o : Observed C V M) (g : GoesOn s k n keys w o) (key : ℕ) → blocks_under (record { count = k; blocks = n }) key o.before ≡ blocks_under (record { count = k; blocks = n }) key w
  goes-on_under k n keys w o g key = ap (blocks_under (record { count = k; blocks = n }) key) g.starts ∙ begun-under k n keys w g.first g.begins key

  pub shows_nothing_above : Keeps s → ShowsNothingAbove s
  shows_nothing_above keeps k n keys w₁ w₂ one two g₁ g₂ alike same =
      tell_the_same s keeps covers (some_covers k n keys w₁ g₁.first g₁.begins) keys (λ j. marks_at covers j (get_or keys j 0) w₁) one two
      (goes-on_shows k n keys w₁ one g₁ _ (λ j lt. refl))
      (goes-on_shows k n keys w₂ two g₂ _ (λ j lt. sym (level_marks-same covers w₁.marks w₂.marks (begun-room k n keys w₁ g₁.first g₁.begins) (begun-room k n keys w₂ g₂.first g₂.begins) alike.marks j (entry (get_or keys j 0)))))
      (λ j lt. goes-on_under k n keys w₁ one g₁ (get_or keys j 0) ∙ alike.blocks j lt ∙ sym (goes-on_under k n keys w₂ two g₂ (get_or keys j 0)))
      g₁.ran g₂.ran same
    where
      covers : Covers
      covers = record { count = k; blocks = n }
