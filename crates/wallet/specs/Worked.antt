-- Worked cases over four covers: what four keys show of their first bytes, and a put under one of them.
use Rattle.std.specs.Prelude.{◌≡◌, ℕ, ◌*◌, ◌<◌, ◌≤◌, List, [], ◌∷◌, length, slice_index, slice_set}
use Rattle.keys.specs.Bits.{bits, entry}
use Rattle.store.specs.Stores.{Block}
use Rattle.wallet.specs.Each.{byte_at}
use Rattle.wallet.specs.Levels.{shown, refilled}
use Rattle.wallet.specs.Places.{Covers, place}

abbrev pub four : ℕ → Covers
four n = record { count = 4; blocks = n }

-- The first bytes of the four covers.
abbrev pub FirstBytes : Covers → List Block → List ℕ → Type 0
FirstBytes c bs bytes = (i : ℕ) → i < 4 → byte_at bs (place c i 0) 0 ≡ slice_index bytes i

-- The first byte that a key shows.
abbrev pub ShowsFirst : Covers → List Block → (key byte : ℕ) → Type 0
ShowsFirst c bs key byte = byte_at (shown bits c (entry key) bs) 0 0 ≡ byte

abbrev pub WorkedCovers : Type 0
WorkedCovers =
    (n : ℕ) (bs : List Block) (contents : Block)
    → 0 < n
    → 4 * n ≤ length bs
    → FirstBytes (four n) bs (0x10 ∷ 0x22 ∷ 0x35 ∷ 0x4F ∷ [])
    → slice_index contents 0 ≡ 0x41
    → ShowsFirst (four n) bs 7 0x07
    × ShowsFirst (four n) bs 14 0x58
    × ShowsFirst (four n) bs 11 0x7D
    × ShowsFirst (four n) bs 13 0x6A
    × FirstBytes (four n) (refilled bits (four n) (entry 7) (slice_set (shown bits (four n) (entry 7) bs) 0 contents) bs) (0x56 ∷ 0x64 ∷ 0x73 ∷ 0x4F ∷ [])
