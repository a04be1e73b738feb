-- The store calls keep blocks, and the wallet's level fetch and put are cases of a call by level.
use Rattle.std.proofs.lemmas.Grind.{common_steps}
use Rattle.std.proofs.Common.{◌≡◌, ℕ, ◌<◌, Bool, true, false, cond, List, [], length, get_or, set, is_ok, Some, None, Ok, Err, Option, Result, sym, refl, ap, ◌∙◌, ap₂, ⊎_elim, arith}
use Rattle.keys.specs.Bits.{entry}
use Rattle.std.proofs.lemmas.List.{length-set, get_or-set_same, get_or-set_other}
use Rattle.std.proofs.lemmas.Bool.{cases_eq, cond_both}
use Rattle.store.specs.Stores.{Block, Mark, asked, Fetched}
use Rattle.faults.specs.declared.Fault.{Fault}
use Rattle.wallet.specs.Each.{length-each, each-is}
use Rattle.wallet.specs.Wallets.{State, with_blocks, with_chosen, stands, not_standing, key_at, shown_under, marks_under, filled_under, named, fetch_call, put_call}
use Rattle.wallet.proofs.Changing.{Whole}
use Rattle.law.specs.Runs.{by_level, by_store, store_blocks, store_marks, store_filled, Reply, served, asking, changed_by, step}
use Rattle.law.specs.Services.{Answer, Keeps, naming, stamped, refused}
use Rattle.law.specs.StoreCalls.{StoreCall, count, live, fetch, put, Value, Memory, block, succeeds, bytes_of, store_serve, store_calls}
use Rattle.law.proofs.Showing.{refilled-shown}

-- a block set to 512 bytes leaves all blocks of 512 bytes
whole_set : (bs : List Block) (n : ℕ) (contents : Block) → length contents ≡ 512 → Whole bs → Whole (set bs n contents)
whole_set bs n contents size whole i lt =
    let inside : i < length bs = omega (arith, length-set bs n contents) in
    ⊎_elim
    (λ here. ap (λ x. length (get_or (set bs n contents) x [])) here ∙ ap length (get_or-set_same bs n contents [] (omega arith)) ∙ size)
    (λ other. ap length (get_or-set_other bs n i contents [] other) ∙ whole i inside)
    (cases_eq i n)

length-bytes_of : (contents : Block) → length (bytes_of contents) ≡ 512
length-bytes_of contents = length-each 512 (λ p. get_or contents p 0)

-- a buffer of 512 bytes is its 512 bytes
bytes_of_whole : (contents : Block) → length contents ≡ 512 → contents ≡ bytes_of contents
bytes_of_whole contents size = each-is 512 (λ p. get_or contents p 0) contents 0 size (λ p lt. refl)

pub store_calls_keep : Keeps store_calls
store_calls_keep = record { count = keeps-count; whole = keeps_whole }
  where
    keeps-count : (c : StoreCall) (bs : List Block) (ms : List Mark) → length ms ≡ length bs → Whole bs → length (store_serve c bs ms).1 ≡ length bs
    keeps-count count bs ms paired whole = refl
    keeps-count (live n) bs ms paired whole = refl
    keeps-count (fetch n buffer) bs ms paired whole = refl
    keeps-count (put n contents) bs ms paired whole = cond_both (is_ok (asked ms n)) _ bs (λ x. length x ≡ length bs) (λ ok. length-set bs n (bytes_of contents)) (λ no'. refl)

    keeps_whole : (c : StoreCall) (bs : List Block) (ms : List Mark) → length ms ≡ length bs → Whole bs → Whole (store_serve c bs ms).1
    keeps_whole count bs ms paired whole = whole
    keeps_whole (live n) bs ms paired whole = whole
    keeps_whole (fetch n buffer) bs ms paired whole = whole
    keeps_whole (put n contents) bs ms paired whole = cond_both (is_ok (asked ms n)) _ bs Whole (λ ok. whole_set bs n (bytes_of contents) (length-bytes_of contents) whole) (λ no'. whole)

-- The reply of a block call: its answer and the block buffer afterwards.
abbrev pub block_reply : Result (Unit {0}) Fault → Block → Reply Value Memory
block_reply r buffer = served (record { outcome = succeeds r; memory = block buffer })

naming-succeeds : (level : ℕ) (r : Result (Unit {0}) Fault) → naming level (succeeds r) ≡ succeeds (named level r)
naming-succeeds level (Ok u) = refl
naming-succeeds level (Err f) = refl

is_ok-named : (level : ℕ) (r : Result (Unit {0}) Fault) → is_ok r ≡ is_ok (named level r)
is_ok-named level (Ok u) = refl
is_ok-named level (Err f) = refl

module _ (w : State) (whole : Whole w.blocks) (level b : ℕ) where
  -- What questions 1 and 2 say of the level's block, and 15 before them.
  abbrev asks : Result (Unit {0}) Fault
  asks = asked (marks_under w level (key_at w level)) b

  abbrev answers : Bool → Result (Unit {0}) Fault
  answers standing = cond standing (named level asks) (Err (not_standing level))

  -- The blocks of the level.
  abbrev now : List Block
  now = shown_under w (key_at w level)

  -- The call by level, when it stands and when it doesn't.
  abbrev called : StoreCall → Bool → Answer Value Memory × State
  called c standing = cond standing (stamped level (asking store_calls w level c).0, with_chosen level (changed_by store_calls w level c)) (refused store_calls c (not_standing level), w)

  -- a level that takes what it shows is only chosen
  same_chosen : with_chosen level (filled_under w (key_at w level) now) ≡ with_chosen level w
  same_chosen = ap (λ bs. with_chosen level (with_blocks bs w)) (refilled-shown w.covers (entry (key_at w level)) w.blocks whole)

  pub fetch-step : (buffer : Block) → step store_calls (by_level level (fetch b buffer)) w ≡ (block_reply (fetch_call w level b buffer).0 (fetch_call w level b buffer).1, (fetch_call w level b buffer).2)
  unfolding step
  fetch-step buffer = by_standing (stands w level)
    where
      by_standing : (standing : Bool) → ◌≡◌ {A = Reply Value Memory × State} (served (called (fetch b buffer) standing).0, (called (fetch b buffer) standing).1) (block_reply (answers standing) (cond (is_ok (answers standing)) (get_or now b []) buffer), cond standing (with_chosen level w) w)
      by_standing true = ap₂ (λ r x. (r, x)) (ap₂ (λ o ok. served (record { outcome = o; memory = block (cond ok (get_or now b []) buffer) })) (naming-succeeds level asks) (is_ok-named level asks)) same_chosen
      by_standing false = refl

  pub put_step : (contents : Block) → length contents ≡ 512 → step store_calls (by_level level (put b contents)) w ≡ (block_reply (put_call w level b contents).0 contents, (put_call w level b contents).1)
  unfolding step
  put_step contents size = by_standing (stands w level)
    where
      filled : State → State
      filled x = filled_under x (key_at w level) (set now b contents)

      by_answer : (ok : Bool) → with_chosen level (filled_under w (key_at w level) (cond ok (set now b (bytes_of contents)) now)) ≡ cond ok (filled (with_chosen level w)) (with_chosen level w)
      by_answer true = ap (λ x. with_chosen level (filled_under w (key_at w level) (set now b x))) (sym (bytes_of_whole contents size))
      by_answer false = same_chosen

      by_standing : (standing : Bool) → ◌≡◌ {A = Reply Value Memory × State} (served (called (put b contents) standing).0, (called (put b contents) standing).1) (block_reply (answers standing) contents, cond (is_ok (answers standing)) (filled (cond standing (with_chosen level w) w)) (cond standing (with_chosen level w) w))
      by_standing true =
          ap₂ (λ r x. (r, x)) (ap (λ o. served (record { outcome = o; memory = block contents })) (naming-succeeds level asks))
          (by_answer (is_ok asks) ∙ ap (λ ok. cond ok (filled (with_chosen level w)) (with_chosen level w)) (is_ok-named level asks))
      by_standing false = refl

-- a wallet that takes what it shows as a store is as it was
store_same : (o : Option ℕ) (w : State) → Whole w.blocks → store_filled o w (store_blocks o w) ≡ w
store_same None w whole = refl
store_same (Some level) w whole = ap (λ bs. with_blocks bs w) (refilled-shown w.covers (entry (key_at w level)) w.blocks whole)

-- fetch and put of the wallet as a store, by the contracts of a store
module _ (w : State) (n : ℕ) where
  pub store_fetch-step : (before after : Block) (r : Result (Unit {0}) Fault) → Whole w.blocks → Fetched (store_blocks w.chosen w) (store_marks w.chosen w) n before after r → step store_calls (by_store (fetch n before)) w ≡ (block_reply r after, w)
  unfolding step
  store_fetch-step before after r whole fetched = grind (arith, common_steps, store_same)

  pub store_put-step : (contents : Block) (w' : State) (r : Result (Unit {0}) Fault) → length contents ≡ 512 → r ≡ asked (store_marks w.chosen w) n
      → w' ≡ store_filled w.chosen w (cond (is_ok r) (set (store_blocks w.chosen w) n contents) (store_blocks w.chosen w))
      → step store_calls (by_store (put n contents)) w ≡ (block_reply r contents, w')
  unfolding step
  store_put-step contents w' r size answer after = grind (arith, common_steps, bytes_of_whole)
