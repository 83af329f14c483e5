-- The filters that Git writes ("Bloom Filter Data").
use Rattle.std.specs.Prelude.{◌≡◌, ◌<◌, ◌≤◌, ◌+◌, ◌*◌, ◌/◌, ◌%◌, ◌⊎◌, ℕ, List, [], ◌∷◌, Contains, length, max}
use Rattle.changed_paths.specs.Filter.{HasPaths, IsPossible, bit_hit, probe}
use Rattle.changed_paths.specs.declared.filters.HashVersion.{HashVersion}
use Rattle.changed_paths.specs.declared.filters.HashVersion.TheVariants.{One, Two}
use Rattle.changed_paths.specs.declared.murmur3.ByteReading.{ByteReading}
use Rattle.changed_paths.specs.declared.murmur3.ByteReading.TheVariants.{Signed, Unsigned}
use Rattle.path_filters.specs.Touched.{IsTouched, AreTouched, AreMoreTouched}
use Rattle.path_filters.specs.declared.settings.Settings.{Settings}

-- how the bytes of a path are read for a filter of this version: for version 1 as on x86-64, where `char` has a sign
abbrev pub reading_of : HashVersion → ByteReading
reading_of One = Signed
reading_of Two = Unsigned

-- a probe of one of these paths is this bit, of so many
abbrev pub IsProbed : ByteReading → ℕ → List (List ℕ) → ℕ → ℕ → Type 0
IsProbed reading hashes paths count bit =
    (path : List ℕ) × (i : ℕ) × Contains paths path × (i < hashes) × (probe reading path i % count ≡ bit)

-- The filter of these paths: as many bytes as hold so many bits for each, and at least one; the bits that a probe is are set,
-- and no others.
pub record IsFilterOf (reading : ByteReading) (bits hashes : ℕ) (paths : List (List ℕ)) (filter : List ℕ) : Type 0 where
  pub size : length filter ≡ max 1 ((bits * length paths + 7) / 8)
  pub set : HasPaths reading hashes filter paths
  pub no_others : (bit : ℕ) → bit < 8 * length filter → bit_hit filter bit ≡ 1
      → IsProbed reading hashes paths (8 * length filter) bit

-- It is what Git writes for these paths: a byte whose bits are set if more are touched than may be, else the filter of those
-- that are touched.
abbrev pub IsWritten : Settings → (List ℕ → Type 0) → List ℕ → Type 0
IsWritten settings IsOneChanged filter =
    (AreMoreTouched IsOneChanged settings.most × (filter ≡ 255 ∷ []))
    ⊎ ((paths : List (List ℕ)) × AreTouched IsOneChanged paths × (length paths ≤ settings.most)
    × IsFilterOf (reading_of settings.version) settings.bits settings.hashes paths filter)

-- the filter is right: each path that is touched is possible
abbrev pub IsRight : HashVersion → ℕ → (List ℕ → Type 0) → List ℕ → Type 0
IsRight version hashes IsOneChanged filter =
    (path : List ℕ) → IsTouched IsOneChanged path → IsPossible version hashes filter path
