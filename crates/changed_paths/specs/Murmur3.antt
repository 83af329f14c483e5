-- The 32-bit murmur3 hash, as Git's changed-path filters use it ("Bloom Filter Data"). A word is a number below 2 ^ 32, and its
-- bytes are read low byte first.
use Rattle.std.specs.Prelude.{◌==◌, ℕ, zero, suc, ◌+◌, ◌*◌, ◌/◌, ◌%◌, ◌^◌, List, length, slice_index, nat_lt, bit_or, bit_xor}
use Rattle.std.specs.Prelude.{if◌then◌else◌}
use Rattle.std.specs.Int.{w32, rotate_left}
use Rattle.changed_paths.specs.declared.murmur3.ByteReading.{ByteReading}
use Rattle.changed_paths.specs.declared.murmur3.ByteReading.TheVariants.{Signed, Unsigned}

-- a byte as a word: where it is read as a signed number, the bytes from 128 on fill the word's upper bits
abbrev pub word_of : ByteReading → ℕ → ℕ
word_of Signed byte = if nat_lt byte 128 then byte else byte + 0xffffff00
word_of Unsigned byte = byte

-- the word that byte i comes to in its place of its word
abbrev pub placed : ByteReading → List ℕ → ℕ → ℕ → ℕ
placed reading bytes i place = word_of reading (slice_index bytes i) * 2 ^ (8 * place) % 2 ^ 32

-- the word of the four bytes from i on
abbrev pub word_at : ByteReading → List ℕ → ℕ → ℕ
word_at reading bytes i =
    bit_or
    (bit_or (bit_or (word_of reading (slice_index bytes i)) (placed reading bytes (i + 1) 1)) (placed reading bytes (i + 2) 2))
    (placed reading bytes (i + 3) 3)

-- the word of the bytes from i on, fewer than four
abbrev pub last_word : ByteReading → List ℕ → ℕ → ℕ → ℕ
last_word reading bytes i count =
    if count == 0 then 0
    else if count == 1 then word_of reading (slice_index bytes i)
    else if count == 2 then bit_xor (placed reading bytes (i + 1) 1) (word_of reading (slice_index bytes i))
    else
    bit_xor (bit_xor (placed reading bytes (i + 2) 2) (placed reading bytes (i + 1) 1)) (word_of reading (slice_index bytes i))

-- a word, scrambled before it goes into the hash
abbrev pub scrambled : ℕ → ℕ
scrambled k = rotate_left w32 (k * 0xcc9e2d51 % 2 ^ 32) 15 * 0x1b873593 % 2 ^ 32

-- the hash with one more word in it
abbrev pub with_word : ℕ → ℕ → ℕ
with_word hash k = (rotate_left w32 (bit_xor hash (scrambled k)) 13 * 5 % 2 ^ 32 + 0xe6546b64) % 2 ^ 32

-- the hash with the first n words of the bytes in it
unfoldable pub with_words : ByteReading → ℕ → List ℕ → ℕ → ℕ
with_words reading seed bytes zero = seed
with_words reading seed bytes (suc n) = with_word (with_words reading seed bytes n) (word_at reading bytes (4 * n))

-- a hash and its upper bits, put together
abbrev pub xor_shifted : ℕ → ℕ → ℕ
xor_shifted h k = bit_xor h (h / 2 ^ k)

-- the last steps, by which each bit bears upon all
abbrev pub finished : ℕ → ℕ
finished h = xor_shifted (xor_shifted (xor_shifted h 16 * 0x85ebca6b % 2 ^ 32) 13 * 0xc2b2ae35 % 2 ^ 32) 16

-- the hash of bytes
unfoldable pub murmur3 : ByteReading → ℕ → List ℕ → ℕ
murmur3 reading seed bytes =
    let n = length bytes / 4 in
    finished
    (bit_xor (bit_xor (with_words reading seed bytes n) (scrambled (last_word reading bytes (4 * n) (length bytes % 4))))
    (length bytes % 2 ^ 32))
