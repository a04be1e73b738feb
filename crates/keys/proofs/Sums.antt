-- Laws of sums and products of vectors over any field in which 1 + 1 is 0.
use Rattle.std.proofs.Common.{◌≡◌, ℕ, zero, suc, ◌<◌, sym, refl, ap, ◌∙◌, ap₂, ⊎_elim, arith}
use Rattle.keys.specs.Field.{Field}
use Rattle.keys.specs.Vectors.{sum, dot}

module _ {F : Type 0} (f : Field F) where
  pub zero-add : (x : F) → f.add f.zero x ≡ x
  zero-add x = f.add_comm f.zero x ∙ f.add-zero x

  pub one-mul : (x : F) → f.mul f.one x ≡ x
  one-mul x = f.mul_comm f.one x ∙ f.mul-one x

  pub add-mul : (x y z : F) → f.mul (f.add x y) z ≡ f.add (f.mul x z) (f.mul y z)
  add-mul x y z = f.mul_comm _ z ∙ f.mul-add z x y ∙ ap₂ f.add (f.mul_comm z x) (f.mul_comm z y)

  pub mul-zero : (x : F) → f.mul x f.zero ≡ f.zero
  mul-zero x = ap (f.mul x) (sym (f.add_self f.zero)) ∙ f.mul-add x f.zero f.zero ∙ f.add_self (f.mul x f.zero)

  pub zero-mul : (x : F) → f.mul f.zero x ≡ f.zero
  zero-mul x = f.mul_comm f.zero x ∙ mul-zero x

  -- what is added to x twice is gone
  pub add_cancel : (x y : F) → f.add x (f.add x y) ≡ y
  add_cancel x y = sym (f.add_assoc x x y) ∙ ap (λ z. f.add z y) (f.add_self x) ∙ zero-add y

  -- with x + y = 0 each is the other
  pub same_from-sum : (x y : F) → f.add x y ≡ f.zero → y ≡ x
  same_from-sum x y e = sym (add_cancel x y) ∙ ap (f.add x) e ∙ f.add-zero x

  pub add-four : (a b c d : F) → f.add (f.add a b) (f.add c d) ≡ f.add (f.add a c) (f.add b d)
  add-four a b c d =
      f.add_assoc a b _ ∙ ap (f.add a) (sym (f.add_assoc b c d) ∙ ap (λ z. f.add z d) (f.add_comm b c) ∙ f.add_assoc c b d) ∙ sym (f.add_assoc a c _)

  -- the square of a sum is the sum of the squares
  pub square_add : (x y : F) → f.mul (f.add x y) (f.add x y) ≡ f.add (f.mul x x) (f.mul y y)
  square_add x y =
      add-mul x y _ ∙ ap₂ f.add (f.mul-add x x y) (f.mul-add y x y ∙ f.add_comm _ _) ∙ add-four _ _ _ _ ∙
      ap (f.add _) (ap (f.add _) (f.mul_comm y x) ∙ f.add_self _) ∙ f.add-zero _

  -- only 0 has the square 0
  pub zero_from_square : (x : F) → f.mul x x ≡ f.zero → x ≡ f.zero
  zero_from_square x e =
      ⊎_elim (λ z. z)
      (λ other. sym (f.mul-one x) ∙ ap (f.mul x) (sym (f.mul-inv x other)) ∙ sym (f.mul_assoc x x (f.inv x)) ∙ ap (λ z. f.mul z (f.inv x)) e ∙ zero-mul (f.inv x))
      (f.decides x)

  -- and only 1 the square 1
  pub one-from_square : (x : F) → f.mul x x ≡ f.one → x ≡ f.one
  one-from_square x e =
      same_from-sum f.one x
      (zero_from_square (f.add f.one x) (square_add f.one x ∙ ap₂ f.add (f.mul-one f.one) e ∙ f.add_self f.one))

  pub sum_same : (k : ℕ) (u v : ℕ → F) → ((i : ℕ) → i < k → u i ≡ v i) → sum f k u ≡ sum f k v
  sum_same zero u v h = refl
  sum_same (suc k) u v h =
      ap₂ f.add (h 0 (omega arith)) (sum_same k _ _ (λ i lt. h (suc i) (omega arith)))

  pub sum-none : (k : ℕ) (u : ℕ → F) → ((i : ℕ) → i < k → u i ≡ f.zero) → sum f k u ≡ f.zero
  sum-none zero u h = refl
  sum-none (suc k) u h = ap₂ f.add (h 0 (omega arith)) (sum-none k _ (λ i lt. h (suc i) (omega arith))) ∙ f.add_self f.zero

  -- all entries but the one at m are 0
  pub sum-single : (k m : ℕ) (u : ℕ → F) → m < k → ((i : ℕ) → i < k → (i ≡ m → ⊥) → u i ≡ f.zero) → sum f k u ≡ u m
  sum-single zero m u lt h = absurd (omega arith)
  sum-single (suc k) zero u lt h =
      ap (f.add (u 0)) (sum-none k _ (λ i below. h (suc i) (omega arith) (λ e. omega arith))) ∙ f.add-zero (u 0)
  sum-single (suc k) (suc m) u lt h =
      ap₂ f.add (h 0 (omega arith) (λ e. omega arith)) (sum-single k m _ (omega arith) (λ i below other. h (suc i) (omega arith) (λ e. other (omega arith)))) ∙ zero-add (u (suc m))

  pub sum-add : (k : ℕ) (u v : ℕ → F) → sum f k (λ i. f.add (u i) (v i)) ≡ f.add (sum f k u) (sum f k v)
  sum-add zero u v = sym (f.add_self f.zero)
  sum-add (suc k) u v =
      ap (f.add (f.add (u 0) (v 0))) (sum-add k _ _) ∙
      add-four _ _ _ _

  pub sum-mul : (k : ℕ) (c : F) (u : ℕ → F) → sum f k (λ i. f.mul c (u i)) ≡ f.mul c (sum f k u)
  sum-mul zero c u = sym (mul-zero c)
  sum-mul (suc k) c u = ap (f.add (f.mul c (u 0))) (sum-mul k c _) ∙ sym (f.mul-add c _ _)

  -- sums over two kinds of places may be taken in either order
  pub sum-swap : (k n : ℕ) (a : ℕ → ℕ → F) → sum f k (λ i. sum f n (λ j. a j i)) ≡ sum f n (λ j. sum f k (a j))
  sum-swap k zero a = sum-none k _ (λ i lt. refl)
  sum-swap k (suc n) a = sum-add k _ _ ∙ ap (f.add (sum f k (a 0))) (sum-swap k n _)

  pub sum-square : (k : ℕ) (u : ℕ → F) → sum f k (λ i. f.mul (u i) (u i)) ≡ f.mul (sum f k u) (sum f k u)
  sum-square zero u = sym (mul-zero f.zero)
  sum-square (suc k) u =
      ap (f.add (f.mul (u 0) (u 0))) (sum-square k _) ∙ sym (square_add _ _)

  pub dot-comm : (k : ℕ) (u v : ℕ → F) → dot f k u v ≡ dot f k v u
  dot-comm k u v = sum_same k _ _ (λ i lt. f.mul_comm (u i) (v i))

  pub dot-add : (k : ℕ) (u v w : ℕ → F) → dot f k u (λ i. f.add (v i) (w i)) ≡ f.add (dot f k u v) (dot f k u w)
  dot-add k u v w =
      sum_same k _ _ (λ i lt. f.mul-add (u i) (v i) (w i)) ∙
      sum-add k _ _

  pub mul_swap : (x y z : F) → f.mul x (f.mul y z) ≡ f.mul y (f.mul x z)
  mul_swap x y z = sym (f.mul_assoc x y z) ∙ ap (λ t. f.mul t z) (f.mul_comm x y) ∙ f.mul_assoc y x z

  pub dot-mul : (k : ℕ) (c : F) (u v : ℕ → F) → dot f k u (λ i. f.mul c (v i)) ≡ f.mul c (dot f k u v)
  dot-mul k c u v =
      sum_same k _ _ (λ i lt. mul_swap (u i) c (v i)) ∙
      sum-mul k c _

  -- the product with a sum of vectors, each taken some times
  pub dot-sum : (k n : ℕ) (u : ℕ → F) (c : ℕ → F) (us : ℕ → ℕ → F) → dot f k u (λ i. sum f n (λ j. f.mul (c j) (us j i))) ≡ sum f n (λ j. f.mul (c j) (dot f k u (us j)))
  dot-sum k n u c us =
      sum_same k _ _
      (λ i lt.
      sym (sum-mul n (u i) _) ∙
      sum_same n _ _ (λ j below. mul_swap (u i) (c j) (us j i))) ∙
      sum-swap k n _ ∙
      sum_same n _ _ (λ j below. sum-mul k (c j) _)
