-- Fields in which 1 + 1 is 0 and that act on bytes: what the entries of keys are calculated with.
use Rattle.std.specs.Prelude.{◌≡◌, ℕ, ◌⊎◌, ◌≢◌, bit_xor}

-- Bytes are numbers, and their sum is the exclusive or.
pub record Field (F : Type 0) : Type 0 where
  pub zero : F
  pub one : F
  pub add : F → F → F
  pub mul : F → F → F
  pub inv : F → F
  pub act : F → ℕ → ℕ
  pub add_comm : (x y : F) → add x y ≡ add y x
  pub add_assoc : (x y z : F) → add (add x y) z ≡ add x (add y z)
  pub add-zero : (x : F) → add x zero ≡ x
  pub add_self : (x : F) → add x x ≡ zero
  pub mul_comm : (x y : F) → mul x y ≡ mul y x
  pub mul_assoc : (x y z : F) → mul (mul x y) z ≡ mul x (mul y z)
  pub mul-one : (x : F) → mul x one ≡ x
  pub mul-add : (x y z : F) → mul x (add y z) ≡ add (mul x y) (mul x z)
  pub inv-zero : inv zero ≡ zero
  pub mul-inv : (x : F) → (x ≢ zero) → mul x (inv x) ≡ one
  pub one_zero : one ≡ zero → ⊥
  pub decides : (x : F) → (x ≡ zero) ⊎ (x ≢ zero)
  pub act_add : (x y : F) (b : ℕ) → act (add x y) b ≡ bit_xor (act x b) (act y b)
  pub act_xor : (x : F) (b c : ℕ) → act x (bit_xor b c) ≡ bit_xor (act x b) (act x c)
  pub act_mul : (x y : F) (b : ℕ) → act (mul x y) b ≡ act x (act y b)
  pub act_one : (b : ℕ) → act one b ≡ b
  pub act_zero : (b : ℕ) → act zero b ≡ 0
