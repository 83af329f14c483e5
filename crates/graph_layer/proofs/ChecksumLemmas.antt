-- what an opened file's fields say of its checksum and of the bytes before it
use Rattle.std.proofs.Common.{◌≡◌, ℕ, ◌≤◌, List, length, take, sym, ap, ◌∙◌, arith}
use Rattle.graph_format.specs.Format.{table_of}
use Rattle.graph_format.specs.Layer.{Layer, decoded_layer}
use Rattle.graph_format.specs.Layout.{IsLayout}
use Rattle.graph_format.specs.declared.layout.Layout.{Layout}
use Rattle.graph_format.proofs.LayoutLemmas.{view-kind}
use Rattle.graph_layer.proofs.FileViewLemmas.{view-bytes, view-layer, view-checksum-in_file}

-- the bytes before the checksum are the body
pub view-body : (bytes path : List ℕ) (layout : Layout) (layer : Layer) → IsLayout bytes layout → decoded_layer bytes path ≡ layer
    → take layout.trailer_start bytes ≡ layer.body
view-body bytes path layout layer kept view =
    ap (λ (n : ℕ). take n bytes) kept.trailer_start
    ∙ ap (λ (b : List ℕ). take (table_of b).end b) (sym (view-bytes bytes path layout layer kept view))
    ∙ sym (view-layer bytes path layout layer kept view).body

-- they are there
pub view-body-in_file : (bytes path : List ℕ) (layout : Layout) (layer : Layer) → IsLayout bytes layout
    → decoded_layer bytes path ≡ layer → layout.trailer_start ≤ length bytes
view-body-in_file bytes path layout layer kept view = omega (arith, view-checksum-in_file bytes path layout layer kept view)

pub ruleset checksum_laws = (view-body, view-body-in_file, view-kind)
