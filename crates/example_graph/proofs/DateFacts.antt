-- The corrected dates of the layer, by computing.
use Rattle.std.proofs.Common.{◌≡◌, List, ◌∷◌, [], refl, codes, None}
use Rattle.gix_chunk_core.specs.Entry.{entry_at}
use Rattle.gix_chunk_core.specs.FirstFault.{first_below}
use Rattle.gix_chunk_core.specs.Table.{table_at, range_of}
use Rattle.graph_format.specs.Format.{table_of, chunk_range_of, chunk_of, pieces, words}
use Rattle.graph_format.specs.Layer.{Layer, record_at}
use Rattle.graph_format.specs.OptionalChunks.{stored_dates, dates_in}
use Rattle.graph_format.specs.StoredHistory.{layer_history, history_of}
use Rattle.graph_walks.specs.Dates.{expected_date}
use Rattle.gix_commitgraph.specs.Graph.{start}
use Rattle.graph_chunks.specs.GraphDates.{graph_dates_refusal}
use Rattle.graph_chunks.specs.GraphFilters.{graph_filters_refusal, settings_in, settings_of}
use Rattle.graph_chunks.specs.GraphStoredDates.{layer_dates_refusal, times_of, dates_of}
use Rattle.graph_chunks.specs.StoredDates.{dates_refusal}
use Rattle.graph_chunks.specs.StoredFilters.{layer_filters_refusal}
use Rattle.example_graph.specs.HexadecimalText.{hex}
use Rattle.example_graph.specs.FiveCommits.{body, layer}
use Rattle.hex.specs.Hex.{decode_pairs}

abbrev pub graph : List Layer
graph = layer (codes "commit-graph") ∷ []

pub dates_are_right : graph_dates_refusal graph ≡ None
unfolding hex decode_pairs body layer table_of chunk_range_of chunk_of pieces words entry_at
    table_at range_of first_below record_at stored_dates dates_in layer_history history_of
    expected_date start graph_dates_refusal layer_dates_refusal times_of dates_of dates_refusal
dates_are_right = refl

pub dates_are : dates_of graph ≡ 4294967300 ∷ 4294967301 ∷ 4294967400 ∷ 4294967500 ∷ 4294967401 ∷ []
unfolding hex decode_pairs body layer table_of chunk_range_of chunk_of pieces words entry_at
    table_at range_of stored_dates dates_in dates_of
dates_are = refl

pub no_filters : graph_filters_refusal graph ≡ None
unfolding hex decode_pairs body layer table_of chunk_range_of chunk_of entry_at table_at range_of
    first_below start graph_filters_refusal settings_in settings_of layer_filters_refusal
no_filters = refl
