-- Bits as a field, and a number as the vector of its bits.
use Rattle.std.specs.Prelude.{◌≡◌, ℕ, zero, suc, ◌/◌, ◌%◌, Bool, true, false, not, ◌&&◌, ◌⊎◌, ◌==◌, ◌≢◌, bit_xor, refl}
use Rattle.std.proofs.Math.Bool.{and_comm, and_assoc, and-true}
use Rattle.std.specs.Int.Bits.{xor_self, xor_zero_r}
use Rattle.std.proofs.Common.{inl, inr, sym}
use Rattle.std.proofs.lemmas.Bool.{true≢false}
use Rattle.keys.specs.Field.{Field}

-- One or the other, not both.
abbrev pub either : Bool → Bool → Bool
either true y = not y
either false y = y

-- A bit takes a byte, or leaves 0.
abbrev pub taken : Bool → ℕ → ℕ
taken true b = b
taken false b = 0

pub either_comm : (x y : Bool) → either x y ≡ either y x
either_comm true true = refl
either_comm true false = refl
either_comm false true = refl
either_comm false false = refl

pub not_either : (x y : Bool) → either (not x) y ≡ not (either x y)
not_either true true = refl
not_either true false = refl
not_either false y = refl

pub either_assoc : (x y z : Bool) → either (either x y) z ≡ either x (either y z)
either_assoc true y z = not_either y z
either_assoc false y z = refl

pub either_false : (x : Bool) → either x false ≡ x
either_false true = refl
either_false false = refl

pub either_self : (x : Bool) → either x x ≡ false
either_self true = refl
either_self false = refl

pub both_either : (x y z : Bool) → (x && either y z) ≡ either (x && y) (x && z)
both_either true y z = refl
both_either false y z = refl

pub own_inverse : (x : Bool) → (x ≢ false) → (x && x) ≡ true
own_inverse true h = refl
own_inverse false h = absurd (h refl)

pub is_false : (x : Bool) → (x ≡ false) ⊎ (x ≢ false)
is_false true = inr true≢false
is_false false = inl refl

pub taken_either : (x y : Bool) (b : ℕ) → taken (either x y) b ≡ bit_xor (taken x b) (taken y b)
taken_either true true b = sym (xor_self b)
taken_either true false b = sym (xor_zero_r b)
taken_either false y b = refl

pub taken_xor : (x : Bool) (b c : ℕ) → taken x (bit_xor b c) ≡ bit_xor (taken x b) (taken x c)
taken_xor true b c = refl
taken_xor false b c = refl

pub taken_both : (x y : Bool) (b : ℕ) → taken (x && y) b ≡ taken x (taken y b)
taken_both true y b = refl
taken_both false y b = refl

abbrev pub bits : Field Bool
bits = record {
  zero = false;
  one = true;
  add = either;
  mul = λ x y. x && y;
  inv = λ x. x;
  act = taken;
  add_comm = either_comm;
  add_assoc = either_assoc;
  add-zero = either_false;
  add_self = either_self;
  mul_comm = and_comm;
  mul_assoc = and_assoc;
  mul-one = and-true;
  mul-add = both_either;
  inv-zero = refl;
  mul-inv = own_inverse;
  one_zero = true≢false;
  decides = is_false;
  act_add = taken_either;
  act_xor = taken_xor;
  act_mul = taken_both;
  act_one = λ b. refl;
  act_zero = λ b. refl;
}

-- Entry i of a number is its bit worth 2 to the i.
abbrev pub entry : ℕ → ℕ → Bool
entry n zero = n % 2 == 1
entry n (suc i) = entry (n / 2) i
