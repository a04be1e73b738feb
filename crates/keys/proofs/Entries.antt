-- The bits of a number as a vector: sums, products and remainders of numbers are those of their vectors.
use Rattle.std.proofs.Common.{◌≡◌, ℕ, zero, suc, ◌+◌, ◌-◌, ◌*◌, ◌/◌, ◌%◌, ◌^◌, ◌<◌, Bool, true, false, cond, ◌&&◌, eqb, List, [], ◌∷◌, length, get_or, sym, refl, ap, ◌∙◌, pow-suc, arith}
use lib.Bits.{bit_and, bit_xor, and_le_l}
use lib.Count.{ones, ones_in, ones_step}
use Rattle.std.proofs.lemmas.Bool.{eq-eqb, ne_eqb, cond_both}
use Rattle.std.specs.Int.{bit_at}
use Rattle.std.proofs.lemmas.Nat.Bits.{bit_at_lowest, bit_at-suc, bit_at-lt, bit_at_and, bit_at_xor, bit_at_ones, same_from_bits_below}
use Rattle.std.proofs.lemmas.Bool.Decides.{nat_tests}
use Rattle.keys.specs.Bits.{either, bits, entry, either_assoc, either_false}
use Rattle.keys.specs.Keys.{parity, product, reduced, key_sum}
use Rattle.keys.specs.Vectors.{sum, dot}
use Rattle.keys.proofs.Sums.{sum_same}

-- entry i of a number is its bit i
entry-bit : (i n : ℕ) → entry n i ≡ eqb (bit_at n i) 1
entry-bit zero n = ap (λ b. eqb b 1) (sym (bit_at_lowest n))
entry-bit (suc i) n = entry-bit i (n / 2) ∙ ap (λ b. eqb b 1) (sym (bit_at-suc n i))

odd-add : (x y : ℕ) → eqb ((x + y) % 2) 1 ≡ either (eqb (x % 2) 1) (eqb (y % 2) 1)
odd-add x y = grind (arith, nat_tests)

pub entry-xor : (i a b : ℕ) → entry (bit_xor a b) i ≡ either (entry a i) (entry b i)
entry-xor i a b = grind (arith, nat_tests, entry-bit i a, entry-bit i b, entry-bit i (bit_xor a b), bit_at_xor a b i)

pub entry-and : (i a b : ℕ) → entry (bit_and a b) i ≡ (entry a i && entry b i)
entry-and i a b = grind (arith, nat_tests, entry-bit i a, entry-bit i b, entry-bit i (bit_and a b), bit_at_and a b i)

ones_zero : ones 0 ≡ 0
unfolding ones ones_in
ones_zero = refl

-- a number of k bits is odd exactly when its bits sum to 1
pub odd-sum : (k n : ℕ) → n < 2 ^ k → eqb (parity n) 1 ≡ sum bits k (entry n)
odd-sum zero n lt = let z : n ≡ 0 = omega arith in ap (λ m. eqb (parity m) 1) z ∙ ap (λ m. eqb (m % 2) 1) ones_zero
odd-sum (suc k) n lt = grind (arith, ones_step n, odd-add (n % 2) (ones (n / 2)), odd-sum k (n / 2) (omega (arith, pow-suc 2 k)))

pub product-dot : (k a b : ℕ) → a < 2 ^ k → eqb (product a b) 1 ≡ dot bits k (entry a) (entry b)
product-dot k a b lt =
    odd-sum k (bit_and a b) (omega (arith, and_le_l a b)) ∙ sum_same bits k _ _ (λ i below. entry-and i a b)

-- a remainder of numbers has the entries of the remainder of vectors
pub entry-reduced : (p v r : ℕ) (keys : List ℕ) → entry (reduced v r keys) p ≡ either (entry r p) (sum bits (length keys) (λ j. eqb (product (get_or keys j 0) v) 1 && entry (get_or keys j 0) p))
entry-reduced p v r [] = sym (either_false (entry r p))
entry-reduced p v r (u ∷ us) =
    entry-reduced p v (cond (eqb (product u v) 1) (bit_xor r u) r) us ∙ rw (one_key (eqb (product u v) 1)) (either_assoc (entry r p) _ _)
  where
    one_key : (b : Bool) → entry (cond b (bit_xor r u) r) p ≡ either (entry r p) (b && entry u p)
    one_key true = entry-xor p r u
    one_key false = sym (either_false (entry r p))

pub entry-key_sum : (p : ℕ) (keys : List ℕ) → entry (key_sum keys) p ≡ sum bits (length keys) (λ j. entry (get_or keys j 0) p)
entry-key_sum zero [] = refl
entry-key_sum (suc p) [] = entry-key_sum p []
entry-key_sum p (u ∷ us) = entry-xor p u (key_sum us) ∙ ap (either (entry u p)) (entry-key_sum p us)

-- the number of all covers
pub entry-ones : (k i : ℕ) → i < k → entry (2 ^ k - 1) i ≡ true
entry-ones k i lt = entry-bit i (2 ^ k - 1) ∙ ap (λ b. eqb b 1) (bit_at_ones k i lt)

-- numbers of k bits with the same bits are the same
pub same_from_entries : (k a b : ℕ) → a < 2 ^ k → b < 2 ^ k → ((i : ℕ) → i < k → entry a i ≡ entry b i) → a ≡ b
same_from_entries k a b la lb h =
    same_from_bits_below k a b la lb (λ i lt. grind (arith, nat_tests, entry-bit i a, entry-bit i b, h i lt, bit_at-lt a i, bit_at-lt b i))

-- the number of k bits that has the given ones
pub number : ℕ → (ℕ → Bool) → ℕ
number zero u = 0
number (suc k) u = cond (u 0) 1 0 + 2 * number k (λ i. u (suc i))

digit : (b : Bool) (n : ℕ) → ((cond b 1 0 + 2 * n) / 2 ≡ n) × (eqb ((cond b 1 0 + 2 * n) % 2) 1 ≡ b)
digit true n = (omega arith, eq-eqb ((1 + 2 * n) % 2) 1 (omega arith))
digit false n = (omega arith, ne_eqb ((0 + 2 * n) % 2) 1 (λ e. omega arith))

pub number-below : (k : ℕ) (u : ℕ → Bool) → number k u < 2 ^ k
unfolding number
number-below zero u = omega arith
number-below (suc k) u = cond_both (u 0) 1 0 (λ d. d + 2 * number k (λ i. u (suc i)) < 2 ^ suc k) (λ e. omega (arith, pow-suc 2 k, number-below k (λ i. u (suc i)))) (λ e. omega (arith, pow-suc 2 k, number-below k (λ i. u (suc i))))

pub entry-number : (k : ℕ) (u : ℕ → Bool) (i : ℕ) → i < k → entry (number k u) i ≡ u i
unfolding number
entry-number zero u i lt = absurd (omega arith)
entry-number (suc k) u zero lt = (digit (u 0) _).1
entry-number (suc k) u (suc i) lt = ap (λ n. entry n i) (digit (u 0) _).0 ∙ entry-number k _ i (omega arith)
