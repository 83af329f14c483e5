-- The check of the graph of this one layer, by computing.
use Rattle.std.proofs.Common.{◌≡◌, List, ◌∷◌, [], refl, codes, None}
use Rattle.sha1.specs.Sha1.{first_words, schedule, rounds, compress, hash_after, digest_bytes, sha1}
use Rattle.gix_chunk_core.specs.FirstFault.{first_below}
use Rattle.graph_format.specs.Faults.{layer_fault, commit_fault}
use Rattle.graph_format.specs.Format.{pieces, words}
use Rattle.graph_format.specs.Layer.{Layer, record_at}
use Rattle.graph_format.specs.NameRule.{name_of, is_named_right}
use Rattle.graph_format.specs.Points.{first_fault}
use Rattle.graph_format.specs.StoredHistory.{layer_history, history_of}
use Rattle.graph_walks.specs.Generations.{expected_generation}
use Rattle.gix_commitgraph.specs.Graph.{start}
use Rattle.gix_commitgraph.specs.Verify.{graph_points}
use Rattle.example_graph.specs.HexadecimalText.{hex}
use Rattle.example_graph.specs.FiveCommits.{body, layer}
use Rattle.hex.specs.Hex.{decode_pairs}

abbrev pub graph : List Layer
graph = layer (codes "commit-graph") ∷ []

pub no_fault : first_fault (graph_points {E = Unit {0}} graph) ≡ None
unfolding hex decode_pairs body layer first_words schedule rounds compress hash_after digest_bytes
    sha1 first_below layer_fault commit_fault pieces words record_at name_of is_named_right
    layer_history history_of expected_generation start
no_fault = refl
