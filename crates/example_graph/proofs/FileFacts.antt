-- The file of five commits, by computing.
use Rattle.std.proofs.Common.{◌≡◌, ℕ, List, refl, Ok}
use Rattle.gix_chunk_core.specs.Entry.{entry_at}
use Rattle.gix_chunk_core.specs.Fault.{has_earlier, offset_fault, entry_fault, end_fault, table_fault}
use Rattle.gix_chunk_core.specs.FirstFault.{first_below}
use Rattle.gix_chunk_core.specs.Table.{table_at, range_of}
use Rattle.graph_format.specs.Format.{table_of, chunk_range_of, chunk_of, pieces, words, fan_of, kind_in, record_of}
use Rattle.graph_format.specs.Layer.{decoded_layer}
use Rattle.graph_format.specs.Opened.{layer_of}
use Rattle.graph_format.specs.Refusal.{refusal, falling_refusal}
use Rattle.example_graph.specs.HexadecimalText.{hex}
use Rattle.example_graph.specs.FiveCommits.{file, body, layer}
use Rattle.hex.specs.Hex.{decode_pairs}

pub opened : (path : List ℕ) → layer_of file path ≡ Ok (layer path)
unfolding hex decode_pairs file body refusal falling_refusal decoded_layer table_of chunk_range_of
    chunk_of pieces words fan_of kind_in record_of entry_at has_earlier offset_fault entry_fault
    end_fault table_fault first_below table_at range_of layer
opened path = refl
