-- The worked cases follow from the rules by calculation.
use Rattle.std.proofs.Common.{◌≡◌, ℕ, zero, suc, ◌*◌, ◌<◌, ◌≤◌, List, [], ◌∷◌, length, get_or, set, refl, ap, ◌∙◌, ap₂, arith}
use lib.Bits.{bit_xor}
use Rattle.keys.specs.Bits.{bits, entry, taken}
use Rattle.store.specs.Stores.{Block}
use Rattle.wallet.specs.Each.{byte_at}
use Rattle.wallet.specs.Levels.{byte_sum, shown_byte, shown, refilled}
use Rattle.wallet.specs.Places.{place}
use Rattle.wallet.specs.Worked.{WorkedCovers, four, FirstBytes}
use Rattle.wallet.proofs.Changing.{along, byte_at-shown, byte_at-place, renewed-here}
use Rattle.wallet.proofs.Hiding.{reached_all}
use Rattle.wallet.proofs.Summing.{byte_sum-same}

abbrev given : List ℕ
given = 0x10 ∷ 0x22 ∷ 0x35 ∷ 0x4F ∷ []

module _ (n : ℕ) (bs : List Block) (some : 0 < n) (enough : 4 * n ≤ length bs) (firsts : FirstBytes (four n) bs given) where
  shows_byte : (key : ℕ) → shown_byte bits (four n) (entry key) bs 0 0 ≡ byte_sum bits 4 (entry key) (λ i. get_or given i 0)
  unfolding shown_byte
  shows_byte key = byte_sum-same bits 4 (entry key) (λ i. byte_at bs (place (four n) i 0) 0) (λ i. get_or given i 0) firsts

  shows_first : (key : ℕ) → byte_at (shown bits (four n) (entry key) bs) 0 0 ≡ byte_sum bits 4 (entry key) (λ i. get_or given i 0)
  shows_first key = byte_at-shown bits (four n) (entry key) bs 0 0 some (omega arith) ∙ shows_byte key

  module _ (contents : Block) (byte : get_or contents 0 0 ≡ 0x41) where
    abbrev new : List Block
    new = set (shown bits (four n) (entry 7) bs) 0 contents

    -- each cover in the key gets 0x07 and 0x41 together
    put_byte : (i : ℕ) → i < 4 → byte_at (refilled bits (four n) (entry 7) new bs) (place (four n) i 0) 0 ≡ bit_xor (get_or given i 0) (taken (entry 7 i) 0x46)
    unfolding refilled
    put_byte i lt =
        byte_at-place bits (four n) (along bits (four n) (entry 7) new bs) bs (reached_all (four n) (along bits (four n) (entry 7) new bs) bs enough) i 0 0 lt some (omega arith) ∙
        ap₂ bit_xor (firsts i lt)
        (ap (taken (entry 7 i)) (ap₂ bit_xor (shows_byte 7) (ap (λ x. get_or x 0 0) (renewed-here bits (four n) (entry 7) bs 0 contents some) ∙ byte)))

    put_bytes : FirstBytes (four n) (refilled bits (four n) (entry 7) new bs) (0x56 ∷ 0x64 ∷ 0x73 ∷ 0x4F ∷ [])
    put_bytes i lt = put_byte i lt ∙ by_cover i lt
      where
        by_cover : (i : ℕ) → i < 4 → bit_xor (get_or given i 0) (taken (entry 7 i) 0x46) ≡ get_or (0x56 ∷ 0x64 ∷ 0x73 ∷ 0x4F ∷ []) i 0
        by_cover zero lt = refl
        by_cover (suc zero) lt = refl
        by_cover (suc (suc zero)) lt = refl
        by_cover (suc (suc (suc zero))) lt = refl
        by_cover (suc (suc (suc (suc i)))) lt = absurd (omega arith)

pub worked_covers : WorkedCovers
worked_covers n bs contents some enough firsts byte =
    (shows_first n bs some enough firsts 7, shows_first n bs some enough firsts 14, shows_first n bs some enough firsts 11, shows_first n bs some enough firsts 13, put_bytes n bs some enough firsts contents byte)
