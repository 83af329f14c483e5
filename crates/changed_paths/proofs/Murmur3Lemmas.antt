-- Both readings of bytes give one hash, where the bytes are below 128.
use Rattle.std.proofs.Common.{◌≡◌, ℕ, zero, suc, ◌+◌, ◌*◌, ◌/◌, ◌%◌, ◌<◌, ◌≤◌, List, [], ◌∷◌, All, length, slice_index}
use Rattle.std.proofs.Common.{refl, ap, if◌then◌else◌, arith, ⊎_elim}
use Rattle.std.proofs.lemmas.Bool.{lt-ltb, cases_lt}
use Rattle.std.proofs.lemmas.List.Elements.{All-get_or}
use Rattle.changed_paths.specs.Murmur3.{word_of, word_at, last_word, with_words, murmur3}
use Rattle.changed_paths.specs.declared.murmur3.ByteReading.TheVariants.{Signed, Unsigned}

past : (bytes : List ℕ) (i : ℕ) → length bytes ≤ i → slice_index bytes i ≡ 0
past [] i le = refl
past (b ∷ bytes) zero le = absurd (omega arith)
past (b ∷ bytes) (suc i) le = past bytes i (omega arith)

small : (bytes : List ℕ) → All (λ byte. byte < 128) bytes → (i : ℕ) → slice_index bytes i < 128
small bytes all i =
    ⊎_elim
    (λ (lt : i < length bytes). All-get_or (λ byte. byte < 128) bytes i 0 lt all)
    (λ (le : length bytes ≤ i). omega (arith, past bytes i le))
    (cases_lt i (length bytes))

same_word : (byte : ℕ) → byte < 128 → word_of Signed byte ≡ word_of Unsigned byte
same_word byte lt = ap (λ b. if b then byte else byte + 0xffffff00) (lt-ltb byte 128 lt)

module _ (bytes : List ℕ) (all : All (λ byte. byte < 128) bytes) where
  same_at : (i : ℕ) → word_of Signed (slice_index bytes i) ≡ word_of Unsigned (slice_index bytes i)
  same_at i = same_word (slice_index bytes i) (small bytes all i)

  same_word_at : (i : ℕ) → word_at Signed bytes i ≡ word_at Unsigned bytes i
  same_word_at i = cc (same_at i, same_at (i + 1), same_at (i + 2), same_at (i + 3))

  same_last_word : (i count : ℕ) → last_word Signed bytes i count ≡ last_word Unsigned bytes i count
  same_last_word i count = cc (same_at i, same_at (i + 1), same_at (i + 2))

  same_with_words : (seed n : ℕ) → with_words Signed seed bytes n ≡ with_words Unsigned seed bytes n
  unfolding with_words
  same_with_words seed zero = refl
  same_with_words seed (suc n) = cc (same_with_words seed n, same_word_at (4 * n))

  pub same_murmur3 : (seed : ℕ) → murmur3 Signed seed bytes ≡ murmur3 Unsigned seed bytes
  unfolding murmur3
  same_murmur3 seed = cc (same_with_words seed (length bytes / 4), same_last_word (4 * (length bytes / 4)) (length bytes % 4))
