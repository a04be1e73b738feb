-- What hidden levels add to the covers: each level shows its own part, and no other level shows it.
use Rattle.std.proofs.Common.{◌≡◌, ℕ, zero, suc, ◌+◌, ◌-◌, ◌*◌, ◌<◌, ◌≤◌, List, length, sym, refl, ap, ◌∙◌, ap₂, inl, arith}
use lib.Bits.{bit_xor, xor_assoc, xor_comm, xor_zero_r, xor_lt}
use Rattle.keys.specs.Field.{Field}
use Rattle.keys.specs.Vectors.{dot, Orthonormal-vectors}
use Rattle.store.specs.Stores.{Block}
use Rattle.wallet.specs.Levels.{byte_sum, changed, shown_byte}
use Rattle.wallet.specs.Matched.{hidden_sum}
use Rattle.wallet.specs.Places.{Covers, place}
use Rattle.wallet.proofs.Changing.{Reached, shown_byte-changed}
use Rattle.wallet.proofs.PlaceLaws.{place-covered, below_all}
use Rattle.wallet.proofs.Summing.{byte_sum-same, byte_sum-xor, byte_sum-dot, act_none}

module _ {F : Type 0} (f : Field F) where
  pub byte_sum-none : (n : ℕ) (u : ℕ → F) (a : ℕ → ℕ) → ((j : ℕ) → j < n → f.act (u j) (a j) ≡ 0) → byte_sum f n u a ≡ 0
  byte_sum-none zero u a e = refl
  byte_sum-none (suc n) u a e = ap₂ bit_xor (e 0 (omega arith)) (byte_sum-none n (λ j. u (suc j)) (λ j. a (suc j)) (λ j lt. e (suc j) (omega arith)))

  pub byte_sum-entries : (n : ℕ) (u v : ℕ → F) (a : ℕ → ℕ) → ((j : ℕ) → j < n → u j ≡ v j) → byte_sum f n u a ≡ byte_sum f n v a
  byte_sum-entries zero u v a e = refl
  byte_sum-entries (suc n) u v a e = ap₂ (λ x y. bit_xor (f.act x (a 0)) y) (e 0 (omega arith)) (byte_sum-entries n (λ j. u (suc j)) (λ j. v (suc j)) (λ j. a (suc j)) (λ j lt. e (suc j) (omega arith)))

  -- all but the one at m are without effect
  pub byte_sum-single : (n m : ℕ) (u : ℕ → F) (a : ℕ → ℕ) → m < n → ((j : ℕ) → j < n → (j ≡ m → ⊥) → f.act (u j) (a j) ≡ 0) → byte_sum f n u a ≡ f.act (u m) (a m)
  byte_sum-single zero m u a lt e = absurd (omega arith)
  byte_sum-single (suc n) zero u a lt e = ap (bit_xor (f.act (u 0) (a 0))) (byte_sum-none n (λ j. u (suc j)) (λ j. a (suc j)) (λ j below. e (suc j) (omega arith) (λ same. omega arith))) ∙ xor_zero_r (f.act (u 0) (a 0))
  byte_sum-single (suc n) (suc m) u a lt e =
      ap₂ bit_xor (e 0 (omega arith) (λ same. omega arith)) (byte_sum-single n m (λ j. u (suc j)) (λ j. a (suc j)) (omega arith) (λ j below other. e (suc j) (omega arith) (λ same. other (omega arith))))

  -- one byte of a sum changes
  pub byte_sum-update : (n m : ℕ) (u : ℕ → F) (a a' : ℕ → ℕ) (y : ℕ) → m < n → ((j : ℕ) → j < n → (j ≡ m → ⊥) → a' j ≡ a j) → a' m ≡ bit_xor (a m) y → byte_sum f n u a' ≡ bit_xor (byte_sum f n u a) (f.act (u m) y)
  byte_sum-update zero m u a a' y lt same new = absurd (omega arith)
  byte_sum-update (suc n) zero u a a' y lt same new =
      ap₂ bit_xor (ap (f.act (u 0)) new ∙ f.act_xor (u 0) (a 0) y) (byte_sum-same f n (λ j. u (suc j)) (λ j. a' (suc j)) (λ j. a (suc j)) (λ j below. same (suc j) (omega arith) (λ e. omega arith))) ∙
      xor_assoc (f.act (u 0) (a 0)) (f.act (u 0) y) (byte_sum f n (λ j. u (suc j)) (λ j. a (suc j))) ∙
      ap (bit_xor (f.act (u 0) (a 0))) (xor_comm (f.act (u 0) y) (byte_sum f n (λ j. u (suc j)) (λ j. a (suc j)))) ∙
      sym (xor_assoc (f.act (u 0) (a 0)) (byte_sum f n (λ j. u (suc j)) (λ j. a (suc j))) (f.act (u 0) y))
  byte_sum-update (suc n) (suc m) u a a' y lt same new =
      ap₂ (λ x z. bit_xor (f.act (u 0) x) z) (same 0 (omega arith) (λ e. omega arith)) (byte_sum-update n m (λ j. u (suc j)) (λ j. a (suc j)) (λ j. a' (suc j)) y (omega arith) (λ j below other. same (suc j) (omega arith) (λ e. other (omega arith))) new) ∙
      sym (xor_assoc (f.act (u 0) (a 0)) (byte_sum f n (λ j. u (suc j)) (λ j. a (suc j))) (f.act (u (suc m)) y))

  -- a sum along n vectors, summed along another, goes by their products with it
  pub byte_sum-levels : (k n : ℕ) (v : ℕ → F) (us : ℕ → ℕ → F) (e : ℕ → ℕ) → byte_sum f k v (λ i. byte_sum f n (λ j. us j i) e) ≡ byte_sum f n (λ j. dot f k v (us j)) e
  byte_sum-levels k zero v us e = byte_sum-none k v (λ i. 0) (λ i lt. act_none f (v i))
  byte_sum-levels k (suc n) v us e =
      byte_sum-xor f k v (λ i. f.act (us 0 i) (e 0)) (λ i. byte_sum f n (λ j. us (suc j) i) (λ j. e (suc j))) ∙
      ap₂ bit_xor (byte_sum-dot f k v (us 0) (e 0)) (byte_sum-levels k n v (λ j. us (suc j)) (λ j. e (suc j)))

  pub byte_sum-below : ((x : F) (b : ℕ) → b < 256 → f.act x b < 256) → (n : ℕ) (u : ℕ → F) (a : ℕ → ℕ) → ((j : ℕ) → j < n → a j < 256) → byte_sum f n u a < 256
  byte_sum-below keeps zero u a lt = omega arith
  byte_sum-below keeps (suc n) u a lt = xor_lt 8 (f.act (u 0) (a 0)) (byte_sum f n (λ j. u (suc j)) (λ j. a (suc j))) (keeps (u 0) (a 0) (lt 0 (omega arith))) (byte_sum-below keeps n (λ j. u (suc j)) (λ j. a (suc j)) (λ j below. lt (suc j) (omega arith)))

  -- m orthonormal keys, of which those from d on are hidden
  module _ (c : Covers) (us : ℕ → ℕ → F) (d m : ℕ) (orthonormal : Orthonormal-vectors f c.count m us) (e : ℕ → ℕ → ℕ → ℕ) where
    -- the hidden levels' parts, summed along the key of one of them, leave its own part
    pub own_part : (j b p : ℕ) → d ≤ j → j < m → byte_sum f c.count (us j) (λ i. hidden_sum f us d m e i b p) ≡ e j b p
    own_part j b p from below =
        let at : d + (j - d) ≡ j = omega arith in
        byte_sum-levels c.count (m - d) (us j) (λ l. us (d + l)) (λ l. e (d + l) b p) ∙
        byte_sum-single (m - d) (j - d) (λ l. dot f c.count (us j) (us (d + l))) (λ l. e (d + l) b p) (omega arith)
        (λ l lt other. ap (λ x. f.act x (e (d + l) b p)) (orthonormal.others j (d + l) below (omega arith) (λ same. other (omega arith))) ∙ f.act_zero (e (d + l) b p)) ∙
        ap (λ l. f.act (dot f c.count (us j) (us l)) (e l b p)) at ∙ ap (λ x. f.act x (e j b p)) (orthonormal.own j below) ∙ f.act_one (e j b p)

    -- and along the key of another level nothing
    pub no_part : (j b p : ℕ) → j < d → j < m → byte_sum f c.count (us j) (λ i. hidden_sum f us d m e i b p) ≡ 0
    no_part j b p before below =
        byte_sum-levels c.count (m - d) (us j) (λ l. us (d + l)) (λ l. e (d + l) b p) ∙
        byte_sum-none (m - d) (λ l. dot f c.count (us j) (us (d + l))) (λ l. e (d + l) b p)
        (λ l lt. ap (λ x. f.act x (e (d + l) b p)) (orthonormal.others j (d + l) below (omega arith) (λ same. omega arith)) ∙ f.act_zero (e (d + l) b p))

    module _ (bs : List Block) (reached : Reached c (hidden_sum f us d m e) bs) where
      pub shown_byte-own : (j b p : ℕ) → d ≤ j → j < m → b < c.blocks → p < 512 → shown_byte f c (us j) (changed c (hidden_sum f us d m e) bs) b p ≡ bit_xor (shown_byte f c (us j) bs b p) (e j b p)
      shown_byte-own j b p from below lb lp =
          shown_byte-changed f c (hidden_sum f us d m e) bs reached (us j) b p lb lp ∙ ap (bit_xor (shown_byte f c (us j) bs b p)) (own_part j b p from below)

      pub shown_byte-disclosed : (j b p : ℕ) → j < d → j < m → b < c.blocks → p < 512 → shown_byte f c (us j) (changed c (hidden_sum f us d m e) bs) b p ≡ shown_byte f c (us j) bs b p
      shown_byte-disclosed j b p before below lb lp =
          shown_byte-changed f c (hidden_sum f us d m e) bs reached (us j) b p lb lp ∙ ap (bit_xor (shown_byte f c (us j) bs b p)) (no_part j b p before below) ∙ xor_zero_r (shown_byte f c (us j) bs b p)

-- every block of a cover is within a list that has at least as many
pub reached_all : (c : Covers) (change : ℕ → ℕ → ℕ → ℕ) (bs : List Block) → c.count * c.blocks ≤ length bs → Reached c change bs
reached_all c change bs enough i b p li lb lp = inl (omega (arith, below_all c (place c i b) (place-covered c i b lb li)))
