-- the commits of a graph of one layer
use Rattle.std.proofs.Common.{◌≡◌, ℕ, ◌+◌, ◌<◌, List, Option, length, Some, slice_get, sym, ap, subst, ◌∙◌, arith}
use Rattle.std.specs.Prelude.{IsSomeAnd}
use Rattle.graph_format.specs.Format.{Record}
use Rattle.graph_format.specs.Layer.{Layer, record_at}
use Rattle.gix_commitgraph.specs.Graph.{graph_commits}
use Rattle.gix_commitgraph.proofs.layers.LayerListLemmas.{graph_commits-at, start-none}
use Rattle.c_opening.specs.Answers.{HasRecord}

one_commit : (layers : List Layer) (layer : Layer) (pos : ℕ) → slice_get layers 0 ≡ Some layer → pos < length layer.ids
    → slice_get (graph_commits layers) pos ≡ Some (layer, pos)
one_commit layers layer pos here below =
    ap (slice_get (graph_commits layers)) (none pos)
    ∙ ap (λ (n : ℕ). slice_get (graph_commits layers) (n + pos)) (sym (start-none layers))
    ∙ graph_commits-at layers 0 pos layer here below
  where
    none : (n : ℕ) → n ≡ 0 + n
    none n = omega arith

-- The record at a position of the layer is that of the commit there.
pub one_record : (layers : List Layer) (layer : Layer) (pos : ℕ) (P : Record → Type 0) → slice_get layers 0 ≡ Some layer
    → pos < length layer.ids → P (record_at layer pos) → HasRecord (Some layers) pos P
one_record layers layer pos P here below holds =
    subst (λ (commit : Option (Layer × ℕ)). IsSomeAnd commit (λ c. P (record_at c.0 c.1)))
    (sym (one_commit layers layer pos here below)) holds
