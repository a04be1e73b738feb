-- The cover sets of orthonormal keys are matched, for keys as numbers.
use Rattle.std.proofs.Common.{ℕ, ◌<◌, Bool, true, false, List, [], length, Some, None, Option, arith}
use Rattle.keys.specs.Bits.{bits, taken}
use Rattle.keys.specs.Keys.{Orthonormal, Below}
use Rattle.keys.proofs.Standing.{vectors-orthonormal}
use Rattle.wallet.specs.Matched.{key_vectors, MatchedCovers}
use Rattle.wallet.specs.Places.{Covers}
use Rattle.wallet.specs.Wallets.{no_covers, covers_in, keys_in}
use Rattle.wallet.specs.declared.layout.Layout.{Layout}
use Rattle.wallet.proofs.Leading.{puts_lead}
use Rattle.wallet.proofs.Matching.{matching}

-- a bit takes a byte or leaves 0
taken-below : (x : Bool) (b : ℕ) → b < 256 → taken x b < 256
taken-below true b lt = lt
taken-below false b lt = omega arith

pub matched_covers : (c : Covers) (d : ℕ) (keys : List ℕ) → Orthonormal keys → Below c.count keys → MatchedCovers c d keys
matched_covers c d keys orthonormal below first second one two =
    let vectors = vectors-orthonormal c.count keys below orthonormal in
    (matching bits taken-below c (key_vectors keys) d (length keys) vectors first second one two, puts_lead c d keys vectors first second)

-- so are those of the keys that stand in a wallet
pub withheld_in : (layout : Option Layout) (d : ℕ) → MatchedCovers (covers_in layout) d (keys_in layout)
withheld_in None d = matched_covers no_covers d [] (record { own = λ i lt. absurd (omega arith); others = λ i j two. absurd (omega (arith, two.0)) }) (λ i lt. absurd (omega arith))
withheld_in (Some l) d = matched_covers (covers_in (Some l)) d (keys_in (Some l)) (record { own = l.keys.own; others = l.keys.others }) l.keys.below
