-- How touched paths are gathered, and bits set, step by step.
use Rattle.std.specs.Prelude.{◌≡◌, ◌<◌, ◌%◌, ◌*◌, ◌⊎◌, ℕ, List, Contains, length}
use Rattle.changed_paths.specs.Filter.{bit_hit, probe}
use Rattle.changed_paths.specs.declared.murmur3.ByteReading.{ByteReading}
use Rattle.path_filters.specs.Touched.{LeadsTo}

-- Of paths that were gathered all are there still, and no others but the path and the directories that lead to it.
pub record IsPathGathered (path : List ℕ) (before after : List (List ℕ)) : Type 0 where
  pub kept : (p : List ℕ) → Contains before p → Contains after p
  pub no_others : (p : List ℕ) → Contains after p → Contains before p ⊎ ((p ≡ path) ⊎ LeadsTo p path)

-- The path is gathered with the directories that lead to it, if those that lead to the last one were.
pub record IsGatheredWhole (last path : List ℕ) (before after : List (List ℕ)) : Type 0 where
  pub itself : Contains after path
  pub directories : ((d : List ℕ) → LeadsTo d last → Contains before d) → (d : List ℕ) → LeadsTo d path → Contains after d

-- The bits of a filter that were set are set still, and no others but those that the first probes of the path are.
pub record AreSet (reading : ByteReading) (path : List ℕ) (count : ℕ) (before after : List ℕ) : Type 0 where
  pub kept : (x : ℕ) → bit_hit before x ≡ 1 → bit_hit after x ≡ 1
  pub no_others : (x : ℕ) → bit_hit after x ≡ 1 → (bit_hit before x ≡ 1)
      ⊎ ((i : ℕ) × (i < count) × (probe reading path i % (8 * length after) ≡ x % (8 * length after)))
