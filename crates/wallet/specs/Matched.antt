-- Cover sets matched one to one: alike in the levels disclosed, each with its own contents in the levels hidden.
use Rattle.std.specs.Prelude.{◌≡◌, ℕ, ◌+◌, ◌-◌, ◌*◌, ◌<◌, ◌≤◌, Bool, true, false, ◌&&◌, ◌||◌, List, [], ◌∷◌, ◌++◌, length, is_ok, Ok, ◌==◌, bit_xor, slice_index, slice_index_or}
use Rattle.keys.specs.Bits.{bits, entry}
use Rattle.keys.specs.Field.{Field}
use Rattle.keys.specs.Keys.{Orthonormal, Below}
use Rattle.store.specs.Stores.{Block, all_live}
use Rattle.wallet.specs.Each.{byte_at}
use Rattle.wallet.specs.Levels.{byte_sum, changed, shown}
use Rattle.wallet.specs.Places.{Covers}
use Rattle.wallet.specs.Wallets.{State, put_call}

-- So many blocks of 512 bytes.
pub record BlocksOf (many : ℕ) (bs : List Block) : Type 0 where
  pub size : length bs ≡ many
  pub whole : (n : ℕ) → n < length bs → length (slice_index_or bs n []) ≡ 512
  pub bytes : (n p : ℕ) → n < length bs → p < 512 → byte_at bs n p < 256

-- A cover set has a block for each block of each cover.
abbrev pub CoverSet : Covers → List Block → Type 0
CoverSet c bs = BlocksOf (c.count * c.blocks) bs

-- Levels d to m - 1 are hidden, and each has contents.
abbrev pub HiddenContents : Covers → (d m : ℕ) → (ℕ → List Block) → Type 0
HiddenContents c d m contents = (j : ℕ) → d ≤ j → j < m → BlocksOf c.blocks (contents j)

-- Both contents of level j together, at byte p of block b.
abbrev pub both_of : (first second : ℕ → List Block) → (j b p : ℕ) → ℕ
both_of first second j b p = bit_xor (byte_at (first j) b p) (byte_at (second j) b p)

-- The keys are vectors us, one for each of m levels.
module _ {F : Type 0} (f : Field F) where
  -- What the hidden levels add to byte p of block b of cover i, each by its key's entry there, where level j adds e j b p.
  abbrev pub hidden_sum : (us : ℕ → ℕ → F) (d m : ℕ) → (ℕ → ℕ → ℕ → ℕ) → (i b p : ℕ) → ℕ
  hidden_sum us d m e i b p = byte_sum f (m - d) (λ j. us (d + j) i) (λ j. e (d + j) b p)

  -- In a set's partner both contents of each hidden level are added to the covers of its key.
  unfoldable pub partner : Covers → (us : ℕ → ℕ → F) (d m : ℕ) (first second : ℕ → List Block) → List Block → List Block
  partner c us d m first second bs = changed c (hidden_sum us d m (both_of first second)) bs

  -- The hidden levels show the contents.
  abbrev pub Shows : Covers → (us : ℕ → ℕ → F) (d m : ℕ) → (ℕ → List Block) → List Block → Type 0
  Shows c us d m contents bs = (j : ℕ) → d ≤ j → j < m → shown f c (us j) bs ≡ contents j

  pub record Matching (c : Covers) (us : ℕ → ℕ → F) (d m : ℕ) (first second : ℕ → List Block) : Type 0 where
    -- A set's partner is a set,
    pub partner-set : (bs : List Block) → CoverSet c bs → CoverSet c (partner c us d m first second bs)
    -- and the set is its partner's partner.
    pub again : (bs : List Block) → CoverSet c bs → partner c us d m first second (partner c us d m first second bs) ≡ bs
    -- It shows the first contents exactly when the partner shows the second.
    pub onward : (bs : List Block) → CoverSet c bs → Shows c us d m first bs → Shows c us d m second (partner c us d m first second bs)
    pub back : (bs : List Block) → CoverSet c bs → Shows c us d m second (partner c us d m first second bs) → Shows c us d m first bs
    -- Both agree in every disclosed level.
    pub disclosed : (bs : List Block) → CoverSet c bs → (j : ℕ) → j < d → j < m → shown f c (us j) (partner c us d m first second bs) ≡ shown f c (us j) bs
    -- Different sets have different partners,
    pub one-to-one : (bs cs : List Block) → CoverSet c bs → CoverSet c cs → partner c us d m first second bs ≡ partner c us d m first second cs → bs ≡ cs
    -- and every set that shows the second contents is the partner of one that shows the first.
    pub onto : (cs : List Block) → CoverSet c cs → Shows c us d m second cs → (bs : List Block) × CoverSet c bs × Shows c us d m first bs × (partner c us d m first second bs ≡ cs)

-- Keys as the vectors of their bits.
abbrev pub key_vectors : List ℕ → ℕ → ℕ → Bool
key_vectors keys j = entry (slice_index keys j)

-- Level puts, each of a level and a block of it: the block takes its second contents.
abbrev pub Puts : Type 0
Puts = List (ℕ × ℕ)

abbrev pub after_puts : (ℕ → List Block) → Puts → State → State
after_puts contents [] w = w
after_puts contents (at ∷ puts) w = after_puts contents puts (put_call w at.0 at.1 (slice_index_or (contents at.0) at.1 [])).1

-- Each of the puts is accepted.
abbrev pub Accepted : (ℕ → List Block) → Puts → State → Type 0
Accepted contents [] w = Unit {0}
Accepted contents (at ∷ puts) w =
    ((put_call w at.0 at.1 (slice_index_or (contents at.0) at.1 [])).0 ≡ Ok tt) × Accepted contents puts (put_call w at.0 at.1 (slice_index_or (contents at.0) at.1 [])).1

-- All are puts of hidden levels and of blocks that these have.
abbrev pub OfHidden : (d m n : ℕ) → Puts → Type 0
OfHidden d m n [] = Unit {0}
OfHidden d m n (at ∷ puts) = ((d ≤ at.0) × (at.0 < m) × (at.1 < n)) × OfHidden d m n puts

-- Block b of level j is among them.
abbrev pub has : Puts → (j b : ℕ) → Bool
has [] j b = false
has (at ∷ puts) j b = (at.0 == j && at.1 == b) || has puts j b

-- In a wallet with these keys and no dead block, puts of all the second contents, in any order, are accepted and lead from a set that
-- shows the first contents to its partner. The store may have further blocks, which stay.
abbrev pub PutsLead : Covers → (d : ℕ) → List ℕ → (first second : ℕ → List Block) → Type 0
PutsLead c d keys first second =
    (w : State) (set rest : List Block) (puts : Puts)
    → w.covers ≡ c
    → w.keys ≡ keys
    → w.blocks ≡ set ++ rest
    → length w.marks ≡ length w.blocks
    → is_ok (all_live w.marks) ≡ true
    → CoverSet c set
    → ((n : ℕ) → n < length rest → length (slice_index_or rest n []) ≡ 512)
    → Shows bits c (key_vectors keys) d (length keys) first set
    → OfHidden d (length keys) c.blocks puts
    → ((j b : ℕ) → d ≤ j → j < length keys → b < c.blocks → has puts j b ≡ true)
    → Accepted second puts w × ((after_puts second puts w).blocks ≡ partner bits c (key_vectors keys) d (length keys) first second set ++ rest)

-- For any two contents of the hidden levels, the sets that show the first are matched one to one with all that show the second.
abbrev pub MatchedCovers : Covers → (d : ℕ) → List ℕ → Type 0
MatchedCovers c d keys =
    (first second : ℕ → List Block)
    → HiddenContents c d (length keys) first
    → HiddenContents c d (length keys) second
    → Matching bits c (key_vectors keys) d (length keys) first second × PutsLead c d keys first second

-- This holds of any orthonormal keys over any covers, however many of them are disclosed.
abbrev pub CoversAreMatched : Type 0
CoversAreMatched = (c : Covers) (d : ℕ) (keys : List ℕ) → Orthonormal keys → Below c.count keys → MatchedCovers c d keys
