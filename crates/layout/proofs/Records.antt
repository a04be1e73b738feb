-- An inode record read and written back is the same, and so are its bytes.
use Rattle.std.proofs.Common.{◌≡◌, ℕ, zero, suc, ◌+◌, ◌*◌, ◌/◌, ◌%◌, ◌<◌, ◌≤◌, List, ◌∷◌, ◌++◌, map, length, get_or, take, drop, sym, refl, ap, ◌∙◌, arith, drop-cons, take-add}
use Rattle.std.proofs.lemmas.List.FromFn.{fill_by_all}
use Rattle.std.proofs.lemmas.List.{length-take, length-drop, drop-drop}
use Rattle.std.specs.List.{range_with_len}
use Rattle.store.specs.Stores.{Block}
use Rattle.layout.proofs.Reading.{length-words_at}
use Rattle.layout.specs.Inodes.{eight, word_bytes, inode_at, inode_bytes, Recorded}
use Rattle.layout.specs.Words.{byte_at, word_at, words_at}
use Rattle.layout.specs.declared.inode.Inode.{Inode}

eight_is : (xs : List ℕ) → length xs ≡ 8 → eight xs ≡ xs
eight_is xs long = sym (fill_by_all (λ j. get_or xs j 0) xs 8 0 long (λ j lt. refl))

-- the bytes of a word make it again
word_whole : (x : ℕ) → x % 256 + 256 * (x / 256) ≡ x
word_whole x = omega arith

size_whole : (s : ℕ) → s < 16777216 → 65536 * (s / 65536 % 256) + (s % 65536 % 256 + 256 * (s % 65536 / 256)) ≡ s
size_whole s fits = omega arith

same_parts : (links user group mode mode' size size' : ℕ) (addresses addresses' times times' : List ℕ) → mode ≡ mode' → size ≡ size' → addresses ≡ addresses' → times ≡ times' → ◌≡◌ {A = Inode} (record { mode = mode; links = links; user = user; group = group; size = size; addresses = addresses; times = times }) (record { mode = mode'; links = links; user = user; group = group; size = size'; addresses = addresses'; times = times' })
same_parts links user group mode mode' size size' addresses addresses' times times' m s a t = cc

module _ (i : Inode) (fits : Recorded i) where
  addresses_whole : words_at 8 (inode_bytes i) 8 ≡ i.addresses
  unfolding words_at
  addresses_whole =
      let a = i.addresses in
      let w : (j : ℕ) → get_or a j 0 % 256 + 256 * (get_or a j 0 / 256) ≡ get_or a j 0 = λ j. word_whole (get_or a j 0) in
      let a0 = w 0 in let a1 = w 1 in let a2 = w 2 in let a3 = w 3 in let a4 = w 4 in let a5 = w 5 in let a6 = w 6 in let a7 = w 7 in
      let all : words_at 8 (inode_bytes i) 8 ≡ eight a = cc in
      all ∙ eight_is a fits.addresses_long

  pub decode-encode : inode_at (inode_bytes i) 0 ≡ i
  decode-encode =
      same_parts i.links i.user i.group _ i.mode _ i.size _ i.addresses _ i.times (word_whole i.mode) (size_whole i.size fits.size_fits) addresses_whole (eight_is i.times fits.times_long)

-- the first eight bytes, where the size has been taken apart
head_bytes : (mode links user group high low size : ℕ) (tail rest : List ℕ) → size / 65536 % 256 ≡ high → size % 65536 ≡ low → tail ≡ rest → ◌≡◌ {A = List ℕ} (mode % 256 ∷ mode / 256 ∷ links ∷ user ∷ group ∷ size / 65536 % 256 ∷ size % 65536 % 256 ∷ size % 65536 / 256 ∷ tail) (mode % 256 ∷ mode / 256 ∷ links ∷ user ∷ group ∷ high ∷ low % 256 ∷ low / 256 ∷ rest)
head_bytes mode links user group high low size tail rest h l t = cc

-- the two bytes of a word
low_byte : (x y : ℕ) → x < 256 → (x + 256 * y) % 256 ≡ x
low_byte x y fits = omega arith

high_byte : (x y : ℕ) → x < 256 → (x + 256 * y) / 256 ≡ y
high_byte x y fits = omega arith

module _ (b : Block) (bytes : (n : ℕ) → byte_at b n < 256) where
  next_byte : (n at next : ℕ) → next ≡ at + 1 → at < length b → take (suc n) (drop at b) ≡ byte_at b at ∷ take n (drop next b)
  next_byte n at next follows within = let e : suc at ≡ next = omega arith in ap (take (suc n)) (drop-cons b at 0 within) ∙ ap (λ k. byte_at b at ∷ take n (drop k b)) e

  next_word : (n at next : ℕ) → next ≡ at + 2 → at + 1 < length b → take (suc (suc n)) (drop at b) ≡ word_at b at % 256 ∷ word_at b at / 256 ∷ take n (drop next b)
  next_word n at next follows within =
      let here : at < length b = omega arith in
      let low = low_byte (byte_at b at) (byte_at b (at + 1)) (bytes at) in
      let high = high_byte (byte_at b at) (byte_at b (at + 1)) (bytes at) in
      let first = next_byte (suc n) at (at + 1) refl here in
      let second = next_byte n (at + 1) next (omega arith) within in
      cc

  next_words : (base n j : ℕ) → base + 2 * (j + n) ≤ length b → word_bytes (map (λ k. word_at b (base + 2 * k)) (range_with_len j n)) ≡ take (2 * n) (drop (base + 2 * j) b)
  next_words base zero j within = refl
  next_words base (suc n) j within =
      let at = base + 2 * j in
      let more : suc (suc (2 * n)) ≡ 2 * suc n = omega arith in
      ap (λ ys. word_at b at % 256 ∷ word_at b at / 256 ∷ ys) (next_words base n (j + 1) (omega arith)) ∙ sym (next_word (2 * n) at (base + 2 * (j + 1)) (omega arith) (omega arith)) ∙ ap (λ k. take k (drop at b)) more

  module _ (at : ℕ) (within : at + 32 ≤ length b) where
    addresses_bytes : word_bytes (eight (words_at 8 b (at + 8))) ≡ take 16 (drop (at + 8) b)
    unfolding words_at
    addresses_bytes =
        let same : at + 8 + 2 * 0 ≡ at + 8 = omega arith in
        ap word_bytes (eight_is (words_at 8 b (at + 8)) (length-words_at 8 b (at + 8))) ∙ words_are ∙ ap (λ k. take 16 (drop k b)) same
      where
        words_are : word_bytes (words_at 8 b (at + 8)) ≡ take 16 (drop (at + 8 + 2 * 0) b)
        words_are = next_words (at + 8) 8 0 (omega arith)

    times_bytes : eight (take 8 (drop (at + 24) b)) ≡ take 8 (drop (at + 24) b)
    times_bytes = let rest = length-drop (at + 24) b in eight_is (take 8 (drop (at + 24) b)) (length-take 8 (drop (at + 24) b) ∙ omega arith)

    -- the last 24 bytes
    tail-bytes : word_bytes (eight (words_at 8 b (at + 8))) ++ eight (take 8 (drop (at + 24) b)) ≡ take 24 (drop (at + 8) b)
    tail-bytes =
        let behind : drop 16 (drop (at + 8) b) ≡ drop (at + 24) b = drop-drop 16 (at + 8) b ∙ (let e : at + 8 + 16 ≡ at + 24 = omega arith in ap (λ k. drop k b) e) in
        let parts = take-add 16 8 (drop (at + 8) b) in
        cc (addresses_bytes, times_bytes)

    -- the size's bytes
    size_bytes : (h w : ℕ) → h < 256 → w < 65536 → ((65536 * h + w) / 65536 % 256 ≡ h) × ((65536 * h + w) % 65536 ≡ w)
    size_bytes h w h_fits w_Fits = (omega arith, omega arith)

    pub encode_decode : inode_bytes (inode_at b at) ≡ take 32 (drop at b)
    encode_decode =
        let size = size_bytes (byte_at b (at + 5)) (word_at b (at + 6)) (bytes (at + 5)) (omega (arith, bytes (at + 6), bytes (at + 6 + 1))) in
        let front = next_word 30 at (at + 2) refl (omega arith) in
        let links = next_byte 29 (at + 2) (at + 3) (omega arith) (omega arith) in
        let user = next_byte 28 (at + 3) (at + 4) (omega arith) (omega arith) in
        let group = next_byte 27 (at + 4) (at + 5) (omega arith) (omega arith) in
        let high = next_byte 26 (at + 5) (at + 6) (omega arith) (omega arith) in
        let low = next_word 24 (at + 6) (at + 8) (omega arith) (omega arith) in
        let bytes_are = head_bytes (word_at b at) (byte_at b (at + 2)) (byte_at b (at + 3)) (byte_at b (at + 4)) (byte_at b (at + 5)) (word_at b (at + 6)) (65536 * byte_at b (at + 5) + word_at b (at + 6)) _ _ size.0 size.1 tail-bytes in
        cc
