-- What a stripe of two stores means: the blocks of its parts in turn.
use Rattle.std.specs.Prelude.{◌≡◌, ◌≢◌, ℕ, ◌*◌, ◌/◌, ◌%◌, ◌<◌, ◌≤◌, min, cond, List, [], map, length, drop, Ok, Err, Result, ◌==◌, slice_index_or, refl}
use Rattle.std.proofs.Common.{sym, ap, ◌∙◌, arith}
use Rattle.std.proofs.lemmas.List.FromFn.{length-map-range_with_len, get_or-map-range_with_len}
use Rattle.std.proofs.lemmas.Bool.{cond_both}
use Rattle.std.specs.List.{range_with_len}
use Rattle.faults.specs.Faults.{past_count, renumbered}
use Rattle.store.specs.Stores.{Block, Mark, live, Laws}
use Rattle.faults.specs.declared.Fault.{Fault}
use Rattle.store.specs.declared.stripe.Place.{Place}
use Rattle.store.specs.declared.stripe.Place.TheVariants.{First, Second}
use Rattle.store.specs.declared.stripe.Stripe.{Stripe}

-- How many blocks a stripe shows: twice the smaller count, up to the greatest number.
abbrev pub stripe_count : ℕ → ℕ → ℕ
stripe_count a b = min (2 * min a b) 1048576

-- What stands at n: even places are the first part's, odd places the second's.
abbrev pub in_turn : {X : Type 0} → X → List X → List X → ℕ → X
in_turn d xs ys n = cond (n % 2 == 0) (slice_index_or xs (n / 2) d) (slice_index_or ys (n / 2) d)

-- Two lists in turn. The default d is never reached.
unfoldable pub striped : {X : Type 0} → X → List X → List X → List X
striped d xs ys = map (in_turn d xs ys) (range_with_len 0 (stripe_count (length xs) (length ys)))

-- Where block n of a stripe of count blocks lies, and the refusal if there is none.
abbrev pub LiesAt : (count n : ℕ) → Result Place Fault → Type 0
LiesAt count n (Ok (First k)) = (n < count) × (n % 2 ≡ 0) × (k ≡ n / 2)
LiesAt count n (Ok (Second k)) = (n < count) × (n % 2 ≢ 0) × (k ≡ n / 2)
LiesAt count n (Err f) = (count ≤ n) × (f ≡ past_count n)

-- What a part answered, for the block's number in the stripe.
abbrev pub from_part : ℕ → Result (Unit {0}) Fault → Result (Unit {0}) Fault
from_part n (Ok u) = Ok u
from_part n (Err f) = Err (renumbered n f)

pub length_striped : {X : Type 0} (d : X) (xs ys : List X) → length (striped d xs ys) ≡ stripe_count (length xs) (length ys)
unfolding striped
length_striped d xs ys = length-map-range_with_len (in_turn d xs ys) 0 (stripe_count (length xs) (length ys))

pub get_or_striped : {X : Type 0} (d : X) (xs ys : List X) (n : ℕ) → n < stripe_count (length xs) (length ys) → slice_index_or (striped d xs ys) n d ≡ in_turn d xs ys n
unfolding striped
get_or_striped d xs ys n within = get_or-map-range_with_len (in_turn d xs ys) 0 (stripe_count (length xs) (length ys)) n n d within (omega arith)

module _ {A B : Type 0} (blocks_a : A → List Block) (blocks_b : B → List Block) where
  abbrev pub stripe_blocks : Stripe A B → List Block
  stripe_blocks s = striped [] (blocks_a s.first) (blocks_b s.second)

  -- How many blocks of each part are shown.
  abbrev pub stripe_half : Stripe A B → ℕ
  stripe_half s = stripe_count (length (blocks_a s.first)) (length (blocks_b s.second)) / 2

module _ {A B : Type 0} (marks_a : A → List Mark) (marks_b : B → List Mark) where
  abbrev pub stripe_marks : Stripe A B → List Mark
  stripe_marks s = striped live (marks_a s.first) (marks_b s.second)

-- Puts move each part, and leave the blocks of the longer one that are not shown.
pub record StripeMoved {A B : Type 0} (blocks_a : A → List Block) (blocks_b : B → List Block) (moved_a : A → A → Type 0) (moved_b : B → B → Type 0) (s t : Stripe A B) : Type 0 where
  pub first : moved_a s.first t.first
  pub second : moved_b s.second t.second
  pub first_rest : drop (stripe_half blocks_a blocks_b s) (blocks_a t.first) ≡ drop (stripe_half blocks_a blocks_b s) (blocks_a s.first)
  pub second_rest : drop (stripe_half blocks_a blocks_b s) (blocks_b t.second) ≡ drop (stripe_half blocks_a blocks_b s) (blocks_b s.second)

-- accepted puts keep the number of blocks
pub length_moved : {S : Type 0} {blocks : S → List Block} {marks : S → List Mark} {moved : S → S → Type 0} (laws : Laws blocks marks moved) (s t : S) → moved s t → length (blocks t) ≡ length (blocks s)
length_moved laws s t go = sym (laws.paired t) ∙ ap length (laws.keeps s t go) ∙ laws.paired s

module _ {A B : Type 0} {blocks_a : A → List Block} {blocks_b : B → List Block} {marks_a : A → List Mark} {marks_b : B → List Mark} {moved_a : A → A → Type 0} {moved_b : B → B → Type 0} (a : Laws blocks_a marks_a moved_a) (b : Laws blocks_b marks_b moved_b) where
  half_moved : (s t : Stripe A B) → StripeMoved blocks_a blocks_b moved_a moved_b s t → stripe_half blocks_a blocks_b t ≡ stripe_half blocks_a blocks_b s
  half_moved s t go =
      ap (λ n. stripe_count n (length (blocks_b t.second)) / 2) (length_moved a s.first t.first go.first) ∙ ap (λ n. stripe_count (length (blocks_a s.first)) n / 2) (length_moved b s.second t.second go.second)

  sized : (s : Stripe A B) (n : ℕ) → n < length (stripe_blocks blocks_a blocks_b s) → length (slice_index_or (stripe_blocks blocks_a blocks_b s) n []) ≡ 512
  sized s n within =
      let count = length_striped [] (blocks_a s.first) (blocks_b s.second) in
      ap length (get_or_striped [] (blocks_a s.first) (blocks_b s.second) n (omega arith)) ∙
      cond_both (n % 2 == 0) _ _ (λ x. length x ≡ 512) (λ _. a.sized s.first (n / 2) (omega arith)) (λ _. b.sized s.second (n / 2) (omega arith))

  pub stripe_laws : Laws (stripe_blocks blocks_a blocks_b) (stripe_marks marks_a marks_b) (StripeMoved blocks_a blocks_b moved_a moved_b)
  stripe_laws = record {
    paired = λ s. length_striped live (marks_a s.first) (marks_b s.second) ∙ ap (λ n. stripe_count n (length (marks_b s.second))) (a.paired s.first) ∙ ap (λ n. stripe_count (length (blocks_a s.first)) n) (b.paired s.second) ∙ sym (length_striped [] (blocks_a s.first) (blocks_b s.second));
    bounded = λ s. omega (arith, length_striped [] (blocks_a s.first) (blocks_b s.second));
    sized = sized;
    stays = λ s. record { first = a.stays s.first; second = b.stays s.second; first_rest = refl; second_rest = refl };
    joins = λ s t u p q. record {
      first = a.joins s.first t.first u.first p.first q.first;
      second = b.joins s.second t.second u.second p.second q.second;
      first_rest = ap (λ n. drop n (blocks_a u.first)) (sym (half_moved s t p)) ∙ q.first_rest ∙ ap (λ n. drop n (blocks_a t.first)) (half_moved s t p) ∙ p.first_rest;
      second_rest = ap (λ n. drop n (blocks_b u.second)) (sym (half_moved s t p)) ∙ q.second_rest ∙ ap (λ n. drop n (blocks_b t.second)) (half_moved s t p) ∙ p.second_rest;
    };
    keeps = λ s t p. ap (λ ms. striped live ms (marks_b t.second)) (a.keeps s.first t.first p.first) ∙ ap (striped live (marks_a s.first)) (b.keeps s.second t.second p.second);
  }
