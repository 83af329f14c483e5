-- The check of the corrected dates of a graph: the first condition that refuses them ("corrected commit date" in Git's
-- commit-graph design).
use Rattle.std.specs.Prelude.{◌≡◌, ◌==◌, ◌⊎◌, ℕ, ◌+◌, ◌<◌, not, max, List, All, length, map, slice_get, Option, None, Some}
use Rattle.std.specs.Prelude.{option_map}
use Rattle.std.specs.Option.{option_and_then}
use Rattle.graph_chunks.specs.declared.dates.layer.LayerDatesError.{LayerDatesError}
use Rattle.graph_chunks.specs.declared.dates.layer.LayerDatesError.TheVariants as layer_error
use Rattle.gix_chunk_core.specs.FirstFault.{◌when◌, ◌otherwise◌, first_below}
use Rattle.graph_walks.specs.History.{Node}
use Rattle.graph_walks.specs.Counts.{greatest}
use Rattle.graph_walks.specs.Dates.{number_at, expected_date, AreRight}
use Rattle.graph_format.specs.Layer.{Layer, record_at}
use Rattle.graph_format.specs.Parents.{DecodedParents, position_of, parents_of}
use Rattle.graph_format.specs.StoredHistory.{history_of}
use Rattle.gix_commitgraph.specs.Graph.{graph_commits, start, total}
use Rattle.graph_chunks.specs.GraphStoredDates.{layer_dates_refusal, times_of, dates_of}
use Rattle.graph_chunks.specs.declared.dates.DatesError.{DatesError}
use Rattle.graph_chunks.specs.declared.dates.DatesError.TheVariants as error

-- the error of layer i, before which so many commits stand, as one of the graph
abbrev pub in_graph : ℕ → ℕ → LayerDatesError → DatesError
in_graph i before layer_error.DataSize = error.DataSize i
in_graph i before layer_error.OverflowSize = error.OverflowSize i
in_graph i before (layer_error.OverflowIndex pos) = error.OverflowIndex (position_of (before + pos.0))
in_graph i before (layer_error.TooLarge pos) = error.TooLarge (position_of (before + pos.0))
in_graph i before layer_error.OutOfMemory = error.OutOfMemory

-- why the dates of layer i cannot be read
abbrev pub reading_fault : List Layer → ℕ → Option DatesError
reading_fault layers i = option_map (in_graph i (start layers i)) (option_and_then layer_dates_refusal (slice_get layers i))

-- what is wrong with the date of commit p
abbrev pub wrong_date : List Node → List ℕ → List ℕ → ℕ → Option DatesError
wrong_date history times dates p =
    error.Date (position_of p) (expected_date history times dates p)
    when not (number_at dates p == expected_date history times dates p)

-- the lowest layer whose dates cannot be read, and where all can be read, the first date that is not the expected one
unfoldable pub graph_dates_refusal : List Layer → Option DatesError
graph_dates_refusal layers =
    first_below (reading_fault layers) (length layers)
    otherwise first_below (wrong_date (history_of layers) (times_of layers) (dates_of layers)) (total layers)

-- The dates are right for the parents that can be decoded: one that cannot is left out, with those listed after it. One that is
-- no commit of the graph counts as one with the date 0.
abbrev pub AreRightByDecodedParents : List Layer → List ℕ → Type 0
AreRightByDecodedParents layers dates = AreRight (history_of layers) (times_of layers) dates

-- A date follows from the commit's time and from all of its parents: each can be decoded and has a date.
pub record FollowsAllParents (dates : List ℕ) (parents : DecodedParents) (time date : ℕ) : Type 0 where
  pub decoded : parents.fault ≡ None
  pub dated : All (λ q. q < length dates) (map (λ pos. pos.0) parents.positions)
  pub follows : date ≡ max time (1 + greatest (map (number_at dates) (map (λ pos. pos.0) parents.positions)))

-- so do all dates of a graph
abbrev pub FollowAllParents : List Layer → List ℕ → Type 0
FollowAllParents layers dates =
    (p j : ℕ) (layer : Layer) → slice_get (graph_commits layers) p ≡ Some (layer, j)
    → FollowsAllParents dates (parents_of (record_at layer j) layer.edges) (record_at layer j).time (number_at dates p)

-- all dates of a graph can be read
abbrev pub AreReadable : List Layer → Type 0
AreReadable layers = first_below (reading_fault layers) (length layers) ≡ None

-- the errors that may be answered for dates as they are read: why the lowest layer cannot be read; or out of memory
abbrev pub MayNotRead : List Layer → DatesError → Type 0
MayNotRead layers fault =
    (first_below (reading_fault layers) (length layers) ≡ Some fault) ⊎ ((fault ≡ error.OutOfMemory) × AreReadable layers)

-- the errors that may be answered for dates: the first condition that refuses them; or out of memory, but only where all of them
-- can be read, since they are compared once they stand in memory
abbrev pub MayRefuseGraphDates : List Layer → DatesError → Type 0
MayRefuseGraphDates layers fault =
    (graph_dates_refusal layers ≡ Some fault) ⊎ ((fault ≡ error.OutOfMemory) × AreReadable layers)
