-- what is told of the changed-path filters of a graph, which are asked for a path
use Rattle.std.specs.Prelude.{◌≡◌, ◌↔◌, ◌≤◌, ℕ, List, length, slice_get, Some}
use Rattle.graph_format.specs.Layer.{Layer}
use Rattle.graph_chunks.specs.GraphFilters.{FiltersOfGraph, IsPossibleBy, IsAbsentBy}
use Rattle.graph_chunks.specs.GraphFilters.{settings_of, graph_filters, MayRefuseGraphFilters}
use Rattle.graph_chunks.specs.declared.filters.FiltersError.{FiltersError}
use Rattle.graph_chunks.specs.declared.filters.FiltersError.TheVariants as fault
use Rattle.c_opening.specs.Codes.{out_of_memory}
use Rattle.commitgraph_c.specs.declared.probes.CgProbed.{CgProbed}

-- the filters of a graph's commits, with the settings to ask them by
abbrev pub filters_told : List Layer → FiltersOfGraph
filters_told layers = record { settings = settings_of layers; filters = graph_filters layers }

-- The filter of the commit at a position is answered for a path: 2 where it was not computed, 1 where the path is possible in it,
-- and 0 where it is absent from it.
pub record AnswersProbe (all : FiltersOfGraph) (path : List ℕ) (pos answer : ℕ) : Type 0 where
  pub filter : List ℕ
  pub here : slice_get all.filters pos ≡ Some filter
  pub not_computed : (answer ≡ 2) ↔ (length filter ≡ 0)
  pub possible : answer ≡ 1 → IsPossibleBy all.settings filter path
  pub absent : answer ≡ 0 → IsAbsentBy all.settings filter path
  pub known : answer ≤ 2

-- nothing is answered, and it is told why: a code, the commit or the layer that it is about, and the number that is refused there
abbrev pub without_probes : ℕ → ℕ → ℕ → ℕ → CgProbed
without_probes code position layer number =
    record { code = code; position = position; number = number; layer = layer; answered = 0 }

-- so many commits are answered for, and nothing is told of a refusal but the code
abbrev pub with_probes : ℕ → ℕ → CgProbed
with_probes code answered = record { code = code; position = 0; number = 0; layer = 0; answered = answered }

-- how it is told that filters are refused: the number of the cause, and the place
abbrev pub told_filter_fault : FiltersError → CgProbed
told_filter_fault (fault.IndexSize layer) = without_probes 501 0 layer 0
told_filter_fault (fault.DataSize layer) = without_probes 502 0 layer 0
told_filter_fault (fault.Version layer version) = without_probes 503 0 layer version
told_filter_fault (fault.Hashes layer hashes) = without_probes 504 0 layer hashes
told_filter_fault (fault.NoBits layer) = without_probes 505 0 layer 0
told_filter_fault (fault.Falls pos) = without_probes 506 pos.0 0 0
told_filter_fault (fault.PastEnd pos) = without_probes 507 pos.0 0 0
told_filter_fault (fault.LeftOver layer) = without_probes 508 0 layer 0
told_filter_fault (fault.Settings layer) = without_probes 509 0 layer 0
told_filter_fault fault.OutOfMemory = without_probes out_of_memory 0 0 0

-- The first condition that refuses the filters of a graph is told; or, where none does, that memory ran out.
pub record RefusesFilters (layers : List Layer) (told : CgProbed) : Type 0 where
  pub error : FiltersError
  pub may : MayRefuseGraphFilters layers error
  pub told_as : told ≡ told_filter_fault error
