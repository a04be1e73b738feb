-- Runs of words and of bytes read from a place on.
use Rattle.std.proofs.Common.{◌≡◌, ℕ, ◌+◌, ◌*◌, ◌<◌, ◌≤◌, length, get_or, take, drop, ◌∙◌, arith}
use Rattle.std.proofs.lemmas.List.FromFn.{length-map-range_with_len, get_or-map-range_with_len, fill_by_all}
use Rattle.std.proofs.lemmas.List.{get_or-take, get_or-drop, length-take, length-drop}
use Rattle.store.specs.Stores.{Block}
use Rattle.layout.specs.Words.{byte_at, bytes_at, word_at, words_at}

pub length-words_at : (n : ℕ) (b : Block) (at : ℕ) → length (words_at n b at) ≡ n
unfolding words_at
length-words_at n b at = length-map-range_with_len (λ j. word_at b (at + 2 * j)) 0 n

pub get_or-words_at : (n : ℕ) (b : Block) (at j : ℕ) → j < n → get_or (words_at n b at) j 0 ≡ word_at b (at + 2 * j)
unfolding words_at
get_or-words_at n b at j within = get_or-map-range_with_len (λ i. word_at b (at + 2 * i)) 0 n j j 0 within (omega arith)

pub length-bytes_at : (n : ℕ) (b : Block) (at : ℕ) → length (bytes_at n b at) ≡ n
unfolding bytes_at
length-bytes_at n b at = length-map-range_with_len (λ j. byte_at b (at + j)) 0 n

-- a part of a list, byte by byte
pub part_bytes_at : (n k : ℕ) (b : Block) (at : ℕ) → k ≡ n → at + n ≤ length b → take k (drop at b) ≡ bytes_at n b at
unfolding bytes_at
part_bytes_at n k b at e within =
    let rest = length-drop at b in
    let front = length-take k (drop at b) in
    fill_by_all (λ j. byte_at b (at + j)) (take k (drop at b)) n 0 (omega arith) (λ j lt. get_or-take k (drop at b) j 0 (omega arith) ∙ get_or-drop at b j 0)
