-- Damaged copies, by computing.
use Rattle.std.proofs.Common.{◌≡◌, ℕ, List, ◌∷◌, [], Option, refl, codes, Some}
use Rattle.sha1.specs.Sha1.{first_words, schedule, rounds, compress, hash_after, digest_bytes, sha1}
use Rattle.gix_chunk_core.specs.Entry.{entry_at}
use Rattle.gix_chunk_core.specs.Fault.{has_earlier, offset_fault, entry_fault, end_fault, table_fault}
use Rattle.gix_chunk_core.specs.FirstFault.{first_below}
use Rattle.gix_chunk_core.specs.Table.{table_at, range_of}
use Rattle.graph_format.specs.Faults.{layer_fault, commit_fault}
use Rattle.graph_format.specs.Format.{table_of, chunk_range_of, chunk_of, pieces, words, fan_of, kind_in, record_of}
use Rattle.graph_format.specs.Layer.{decoded_layer, record_at}
use Rattle.graph_format.specs.NameRule.{name_of, is_named_right}
use Rattle.graph_format.specs.Parents.{position_of}
use Rattle.graph_format.specs.Points.{first_fault}
use Rattle.graph_format.specs.Refusal.{refusal, falling_refusal}
use Rattle.graph_format.specs.StoredHistory.{layer_history, history_of}
use Rattle.graph_format.specs.declared.error.FileError.TheVariants.{FanFalls}
use Rattle.graph_format.specs.declared.fault.LayerFault.TheVariants.{Checksum}
use Rattle.graph_walks.specs.Generations.{expected_generation}
use Rattle.gix_commitgraph.specs.Graph.{start}
use Rattle.gix_commitgraph.specs.Verify.{graph_points}
use Rattle.gix_commitgraph.specs.declared.verify.VerifyError.{VerifyError}
use Rattle.gix_commitgraph.specs.declared.verify.VerifyError.TheVariants as error
use Rattle.example_graph.specs.HexadecimalText.{hex}
use Rattle.example_graph.specs.FiveCommits.{body, other_trailer, falling_fan, wrong_generation}
use Rattle.hex.specs.Hex.{decode_pairs}

abbrev pub first_fault_of : List ℕ → Option (VerifyError (Unit {0}))
first_fault_of bytes = first_fault (graph_points {E = Unit {0}} (decoded_layer bytes (codes "commit-graph") ∷ []))

pub fan_falls : refusal falling_fan ≡ Some (FanFalls 255)
unfolding hex decode_pairs falling_fan body refusal falling_refusal table_of chunk_range_of chunk_of
    pieces words fan_of kind_in entry_at has_earlier offset_fault entry_fault end_fault table_fault
    first_below table_at range_of
fan_falls = refl

pub trailer_is_other : first_fault_of other_trailer ≡ Some (error.Layer 0 Checksum)
unfolding hex decode_pairs other_trailer body decoded_layer table_of chunk_range_of chunk_of pieces
    words fan_of kind_in record_of entry_at table_at range_of first_words schedule rounds compress
    hash_after digest_bytes sha1 first_below layer_fault
trailer_is_other = refl

pub generation_is_wrong : first_fault_of wrong_generation ≡ Some (error.Generation (position_of 3) 4)
unfolding hex decode_pairs wrong_generation body decoded_layer table_of chunk_range_of chunk_of
    pieces words fan_of kind_in record_of entry_at table_at range_of first_words schedule rounds
    compress hash_after digest_bytes sha1 first_below layer_fault commit_fault record_at name_of
    is_named_right layer_history history_of expected_generation start
generation_is_wrong = refl
