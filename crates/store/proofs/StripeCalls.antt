-- A call on a stripe is the call on the part that has the block.
use Rattle.std.proofs.Common.{◌≡◌, ℕ, ◌/◌, ◌%◌, ◌<◌, cond, List, [], length, get_or, set, is_ok, Err, Result, sym, refl, ap, ◌∙◌, arith}
use Rattle.store.proofs.Turns.{is_ok-from_part, get_or-even, get_or-odd, asked-striped-past, asked-even, asked-odd, after_even, after_odd, rest_kept}
use Rattle.store.specs.Stores.{Block, Mark, asked, Laws, Fetched, Placed}
use Rattle.store.specs.Stripes.{stripe_count, LiesAt, from_part, length_striped, stripe_blocks, stripe_marks, StripeMoved, stripe_laws}
use Rattle.faults.specs.declared.Fault.{Fault}
use Rattle.store.specs.declared.stripe.Stripe.{Stripe}

module _ {A B : Type 0} {blocks_a : A → List Block} {blocks_b : B → List Block} {marks_a : A → List Mark} {marks_b : B → List Mark} {moved_a : A → A → Type 0} {moved_b : B → B → Type 0} (a : Laws blocks_a marks_a moved_a) (b : Laws blocks_b marks_b moved_b) (s : Stripe A B) (n : ℕ) where
  abbrev total : ℕ
  total = length (stripe_blocks blocks_a blocks_b s)

  by_blocks : total ≡ stripe_count (length (blocks_a s.first)) (length (blocks_b s.second))
  by_blocks = length_striped [] (blocks_a s.first) (blocks_b s.second)

  by_marks : total ≡ stripe_count (length (marks_a s.first)) (length (marks_b s.second))
  by_marks = by_blocks ∙ sym (ap (λ m. stripe_count m (length (marks_b s.second))) (a.paired s.first) ∙ ap (stripe_count (length (blocks_a s.first))) (b.paired s.second))

  module _ (f : Fault) (past : LiesAt total n (Err f)) where
    pub ask_past : Err f ≡ asked (stripe_marks marks_a marks_b s) n
    ask_past = ap Err past.1 ∙ sym (asked-striped-past (marks_a s.first) (marks_b s.second) n (omega (arith, by_marks, past.0)))

    pub fetch_past : (buffer : Block) → Fetched (stripe_blocks blocks_a blocks_b s) (stripe_marks marks_a marks_b s) n buffer buffer (Err f)
    fetch_past buffer = record { answer = ask_past; buffer = refl }

    pub put_past : (contents : Block) → Placed (stripe_blocks blocks_a blocks_b) (stripe_marks marks_a marks_b) (StripeMoved blocks_a blocks_b moved_a moved_b) n contents s s (Err f)
    put_past contents = record { answer = ask_past; after = refl; moves = (stripe_laws a b).stays s; refused = λ _. refl }

  module _ (within : n < total) (even : n % 2 ≡ 0) where
    ask_first : asked (stripe_marks marks_a marks_b s) n ≡ from_part n (asked (marks_a s.first) (n / 2))
    ask_first = asked-even (marks_a s.first) (marks_b s.second) n (omega (arith, by_marks)) even

    pub live_first : is_ok (asked (marks_a s.first) (n / 2)) ≡ is_ok (asked (stripe_marks marks_a marks_b s) n)
    live_first = sym (ap is_ok ask_first ∙ is_ok-from_part n _)

    pub fetch_first : (before after : Block) (r : Result (Unit {0}) Fault) → Fetched (blocks_a s.first) (marks_a s.first) (n / 2) before after r → Fetched (stripe_blocks blocks_a blocks_b s) (stripe_marks marks_a marks_b s) n before after (from_part n r)
    fetch_first before after r part = record {
      answer = ap (from_part n) part.answer ∙ sym ask_first;
      buffer = part.buffer ∙ ap (λ x. cond (is_ok r) x before) (sym (get_or-even [] (blocks_a s.first) (blocks_b s.second) n (omega (arith, by_blocks)) even)) ∙ ap (λ ok. cond ok (get_or (stripe_blocks blocks_a blocks_b s) n []) before) (sym (is_ok-from_part n r));
    }

    pub put_first : (contents : Block) (t : A) (r : Result (Unit {0}) Fault) → Placed blocks_a marks_a moved_a (n / 2) contents s.first t r → Placed (stripe_blocks blocks_a blocks_b) (stripe_marks marks_a marks_b) (StripeMoved blocks_a blocks_b moved_a moved_b) n contents s (record { first = t; second = s.second }) (from_part n r)
    put_first contents t r part = record {
      answer = ap (from_part n) part.answer ∙ sym ask_first;
      after = after_even [] (blocks_a s.first) (blocks_b s.second) n contents (omega (arith, by_blocks)) (is_ok r) (blocks_a t) even part.after ∙ ap (λ ok. cond ok (set (stripe_blocks blocks_a blocks_b s) n contents) (stripe_blocks blocks_a blocks_b s)) (sym (is_ok-from_part n r));
      moves = record {
        first = part.moves;
        second = b.stays s.second;
        first_rest = rest_kept (is_ok r) (blocks_a s.first) (blocks_a t) (n / 2) _ contents (omega (arith, by_blocks)) part.after;
        second_rest = refl;
      };
      refused = λ no-put. ap (λ x. record { first = x; second = s.second }) (part.refused (sym (is_ok-from_part n r) ∙ no-put));
    }

  module _ (within : n < total) (odd : n % 2 ≡ 0 → ⊥) where
    ask_second : asked (stripe_marks marks_a marks_b s) n ≡ from_part n (asked (marks_b s.second) (n / 2))
    ask_second = asked-odd (marks_a s.first) (marks_b s.second) n (omega (arith, by_marks)) odd

    pub live_second : is_ok (asked (marks_b s.second) (n / 2)) ≡ is_ok (asked (stripe_marks marks_a marks_b s) n)
    live_second = sym (ap is_ok ask_second ∙ is_ok-from_part n _)

    pub fetch_second : (before after : Block) (r : Result (Unit {0}) Fault) → Fetched (blocks_b s.second) (marks_b s.second) (n / 2) before after r → Fetched (stripe_blocks blocks_a blocks_b s) (stripe_marks marks_a marks_b s) n before after (from_part n r)
    fetch_second before after r part = record {
      answer = ap (from_part n) part.answer ∙ sym ask_second;
      buffer = part.buffer ∙ ap (λ x. cond (is_ok r) x before) (sym (get_or-odd [] (blocks_a s.first) (blocks_b s.second) n (omega (arith, by_blocks)) odd)) ∙ ap (λ ok. cond ok (get_or (stripe_blocks blocks_a blocks_b s) n []) before) (sym (is_ok-from_part n r));
    }

    pub put_second : (contents : Block) (t : B) (r : Result (Unit {0}) Fault) → Placed blocks_b marks_b moved_b (n / 2) contents s.second t r → Placed (stripe_blocks blocks_a blocks_b) (stripe_marks marks_a marks_b) (StripeMoved blocks_a blocks_b moved_a moved_b) n contents s (record { first = s.first; second = t }) (from_part n r)
    put_second contents t r part = record {
      answer = ap (from_part n) part.answer ∙ sym ask_second;
      after = after_odd [] (blocks_a s.first) (blocks_b s.second) n contents (omega (arith, by_blocks)) (is_ok r) (blocks_b t) odd part.after ∙ ap (λ ok. cond ok (set (stripe_blocks blocks_a blocks_b s) n contents) (stripe_blocks blocks_a blocks_b s)) (sym (is_ok-from_part n r));
      moves = record {
        first = a.stays s.first;
        second = part.moves;
        first_rest = refl;
        second_rest = rest_kept (is_ok r) (blocks_b s.second) (blocks_b t) (n / 2) _ contents (omega (arith, by_blocks)) part.after;
      };
      refused = λ no-put. ap (λ x. record { first = s.first; second = x }) (part.refused (sym (is_ok-from_part n r) ∙ no-put));
    }
