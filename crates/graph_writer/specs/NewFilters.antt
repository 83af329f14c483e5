-- The changed-path filters that are handed in with commits, and those of the layer that is written ("Bloom Filter Index", "Bloom
-- Filter Data").
use Rattle.std.specs.Prelude.{◌≡◌, ◌≢◌, ◌<◌, ◌≤◌, ℕ, List, Option, Some, None, MatchOption, length, option_map}
use Rattle.std.specs.Prelude.{slice_get, slice_index, slice_range}
use Rattle.changed_paths.specs.Filters.{version_of}
use Rattle.graph_chunks.specs.GraphFilters.{filter_in}
use Rattle.graph_format.specs.OptionalChunks.{index_in, data_in}
use Rattle.graph_chunks.specs.StoredFilters.{layer_filters_refusal}
use Rattle.graph_encoder.specs.StoredNumbers.{stored_filter_numbers}
use Rattle.graph_encoder.specs.declared.filters.FilterNumbers.{FilterNumbers}
use Rattle.graph_format.specs.Layer.{Layer}
use Rattle.graph_levels.specs.ListEnds.{start_in}
use Rattle.graph_writer.specs.declared.commit.NewCommit.{NewCommit}
use Rattle.graph_writer.specs.declared.filters.NewFilters.{NewFilters}
use denote.Ref.{Bor}

-- the filters that are lent, if there are any
abbrev pub filters_handed : Option (Bor NewFilters) → Option NewFilters
filters_handed filters = option_map (λ lent. lent.now) filters

-- the numbers that are to stand before the filters
abbrev pub filter_numbers : NewFilters → FilterNumbers
filter_numbers filters = filters.parts.numbers

-- how many filters there are, and how many bytes they have together
abbrev pub filter_count : NewFilters → ℕ
filter_count filters = length filters.parts.ends.items

abbrev pub byte_count : NewFilters → ℕ
byte_count filters = length filters.parts.bytes.items

-- the bytes of the filter of this number
unfoldable pub new_filter : NewFilters → ℕ → List ℕ
new_filter filters i =
    slice_range filters.parts.bytes.items (start_in filters.parts.ends.items i) (slice_index filters.parts.ends.items i)

-- Filters can be asked by these numbers.
pub record AreRightNumbers (numbers : FilterNumbers) : Type 0 where
  pub version : version_of numbers.version ≢ None
  pub some_hashes : 0 < numbers.hashes
  pub few_hashes : numbers.hashes ≤ 65535
  pub bits : 0 < numbers.bits_per_entry

-- The layer has the filters that were handed in, and the numbers before them: that of each commit is the one of its number.
pub record HasNewFilters (commits : List NewCommit) (filters : NewFilters) (layer : Layer) : Type 0 where
  pub numbers : stored_filter_numbers layer ≡ Some (filter_numbers filters)
  pub each : (i : ℕ) (commit : NewCommit) → slice_get commits i ≡ Some commit
      → (p : ℕ) × (slice_get layer.ids p ≡ Some commit.id) × (filter_in layer p ≡ new_filter filters i)
  -- nothing refuses them where the numbers are right
  pub accepted : AreRightNumbers (filter_numbers filters) → layer_filters_refusal layer ≡ None

-- The layer has the filters that were handed in, and none where none were.
abbrev pub HasFiltersOf : List NewCommit → Option NewFilters → Layer → Type 0
HasFiltersOf commits filters layer =
    MatchOption filters ((index_in layer ≡ None) × (data_in layer ≡ None)) (λ f. HasNewFilters commits f layer)
