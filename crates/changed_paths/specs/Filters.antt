-- The filters of a layer ("Bloom Filter Index", "Bloom Filter Data"): where the filter of each commit lies, and why the two
-- chunks are refused.
use Rattle.std.specs.Prelude.{◌==◌, ◌<◌, ◌≤◌, ℕ, zero, suc, ◌+◌, ◌-◌, ◌*◌, ◌/◌, not, ◌||◌, List, map, length, slice_range}
use Rattle.std.specs.Prelude.{Option, Some, None, is_none, nat_lt, if◌then◌else◌}
use Rattle.std.specs.List.{range_with_len}
use Rattle.gix_chunk_core.specs.FirstFault.{◌when◌, ◌otherwise◌, first_below}
use Rattle.graph_format.specs.declared.file.Position.{Position}
use Rattle.graph_format.specs.Integers.{word_in}
use Rattle.changed_paths.specs.declared.filters.HashVersion.{HashVersion}
use Rattle.changed_paths.specs.declared.filters.HashVersion.TheVariants.{One, Two}
use Rattle.changed_paths.specs.declared.filters.LayerFiltersError.{LayerFiltersError}
use Rattle.changed_paths.specs.declared.filters.LayerFiltersError.TheVariants.{IndexSize, DataSize, Version, Hashes, NoBits}
use Rattle.changed_paths.specs.declared.filters.LayerFiltersError.TheVariants.{Falls, PastEnd, LeftOver}

-- the filters of a layer, in the order of its commits, with what is to be known to ask them; a filter of no bytes was not
-- computed
pub record Filters : Type 0 where
  pub version : HashVersion
  pub hashes : ℕ
  pub filters : List (List ℕ)

-- the version of the hash that the first number of the data names
abbrev pub version_of : ℕ → Option HashVersion
version_of n = if n == 1 then Some One else if n == 2 then Some Two else None

-- how many bytes of the data are filters: those after its three numbers
abbrev pub filter_bytes : List ℕ → ℕ
filter_bytes body = length body - 12

-- where the filter of commit p ends, counted from the first filter
abbrev pub end_of : List ℕ → ℕ → ℕ
end_of index p = word_in index p

-- where it begins: where that of the commit before it ends
abbrev pub start_of : List ℕ → ℕ → ℕ
start_of index zero = 0
start_of index (suc p) = end_of index p

-- the filter of commit p
abbrev pub filter_of : List ℕ → List ℕ → ℕ → List ℕ
filter_of index body p = slice_range body (12 + start_of index p) (12 + end_of index p)

-- the filters of all commits, for which the index has a word each
unfoldable pub filters_of : List ℕ → List ℕ → List (List ℕ)
filters_of index body = map (filter_of index body) (range_with_len 0 (length index / 4))

-- none of so many filters ends before it begins
abbrev pub IsRising : ℕ → List ℕ → Type 0
IsRising commits index = (p : ℕ) → p < commits → start_of index p ≤ end_of index p

-- the position in the layer
abbrev pub filter_position : ℕ → Position
filter_position p = record { 0 = p }

-- why the filter of commit p is refused
abbrev pub place_fault : List ℕ → ℕ → ℕ → Option LayerFiltersError
place_fault index room p =
    Falls (filter_position p) when nat_lt (end_of index p) (start_of index p)
    otherwise PastEnd (filter_position p) when nat_lt room (end_of index p)

unfoldable pub places_refusal : ℕ → List ℕ → ℕ → Option LayerFiltersError
places_refusal commits index room = first_below (place_fault index room) commits

-- the first condition that refuses the chunks of a layer with so many commits, none where they are filters
unfoldable pub filters_refusal : ℕ → List ℕ → List ℕ → Option LayerFiltersError
filters_refusal commits index body =
    IndexSize when not (length index == 4 * commits)
    otherwise DataSize when nat_lt (length body) 12
    otherwise Version (word_in body 0) when is_none (version_of (word_in body 0))
    otherwise Hashes (word_in body 1) when (word_in body 1 == 0 || nat_lt 65535 (word_in body 1))
    otherwise NoBits when (word_in body 2 == 0)
    otherwise places_refusal commits index (filter_bytes body)
    otherwise LeftOver when nat_lt (start_of index commits) (filter_bytes body)
