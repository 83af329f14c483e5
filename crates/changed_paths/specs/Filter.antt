-- Asking a changed-path filter ("Bloom Filter Data", and the double hashing that it names).
use Rattle.std.specs.Prelude.{◌≡◌, ⊤, ℕ, ◌+◌, ◌*◌, ◌/◌, ◌%◌, ◌^◌, ◌<◌, List, length, slice_index, All}
use Rattle.changed_paths.specs.Murmur3.{murmur3}
use Rattle.changed_paths.specs.declared.murmur3.ByteReading.{ByteReading}
use Rattle.changed_paths.specs.declared.murmur3.ByteReading.TheVariants.{Signed, Unsigned}
use Rattle.changed_paths.specs.declared.filters.HashVersion.{HashVersion}
use Rattle.changed_paths.specs.declared.filters.HashVersion.TheVariants.{One, Two}

-- how a filter of this version may have been written: version 1 takes bytes as the writer's machine does
abbrev pub MayRead : HashVersion → ByteReading → Type 0
MayRead One reading = ⊤
MayRead Two Signed = ⊥
MayRead Two Unsigned = ⊤

-- the two hashes of a path, each with a seed of its own: that of its first probe, and what each further probe adds
abbrev pub first_hash : ByteReading → List ℕ → ℕ
first_hash reading path = murmur3 reading 0x293ae76f path

abbrev pub step_hash : ByteReading → List ℕ → ℕ
step_hash reading path = murmur3 reading 0x7e646e2c path

-- probe i of a path: a number below 2 ^ 32
unfoldable pub probe : ByteReading → List ℕ → ℕ → ℕ
probe reading path i = (first_hash reading path + i * step_hash reading path) % 2 ^ 32

-- the bit of a filter that a probe hits: the filter's bits are counted byte by byte, each from its lowest bit up, and the probe
-- is taken modulo their number
unfoldable pub bit_hit : List ℕ → ℕ → ℕ
bit_hit filter x = let bit = x % (8 * length filter) in slice_index filter (bit / 8) / 2 ^ (bit % 8) % 2

-- each probe of the path hits a bit that is set
unfoldable pub AllHit : ByteReading → ℕ → List ℕ → List ℕ → Type 0
AllHit reading hashes filter path = (i : ℕ) → i < hashes → bit_hit filter (probe reading path i) ≡ 1

-- some probe of the path hits a bit that is not set
unfoldable pub SomeMisses : ByteReading → ℕ → List ℕ → List ℕ → Type 0
SomeMisses reading hashes filter path = (i : ℕ) × (i < hashes) × (bit_hit filter (probe reading path i) ≡ 0)

-- all probes hit, in some reading of the path that the version allows
abbrev pub IsPossible : HashVersion → ℕ → List ℕ → List ℕ → Type 0
IsPossible version hashes filter path = (reading : ByteReading) × MayRead version reading × AllHit reading hashes filter path

-- some probe misses, in each reading of the path that the version allows
abbrev pub IsAbsent : HashVersion → ℕ → List ℕ → List ℕ → Type 0
IsAbsent version hashes filter path = (reading : ByteReading) → MayRead version reading → SomeMisses reading hashes filter path

-- the bits of a filter are set for all of these paths, and maybe more
abbrev pub HasPaths : ByteReading → ℕ → List ℕ → List (List ℕ) → Type 0
HasPaths reading hashes filter paths = All (AllHit reading hashes filter) paths
