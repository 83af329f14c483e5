-- the commits of a graph from a position on, by the layers that they lie in
use Rattle.std.proofs.Common.{◌≡◌, ◌∙◌, ℕ, ◌+◌, ◌-◌, ◌^◌, ◌<◌, ◌≤◌, List, Some, Option, drop, get_or, length, length-drop, map}
use Rattle.std.proofs.Common.{ap, arith, min, slice_get, slice_index_or, subst, sym}
use Rattle.std.specs.Prelude.{IfSome}
use Rattle.std.proofs.lemmas.List.{length-map}
use Rattle.std.proofs.lemmas.Option.{same_Some, slice_get-get_or}
use Rattle.graph_format.specs.DecodedRecords.{stored_parents}
use Rattle.graph_format.specs.Layer.{IsOpened, Layer, record_at}
use Rattle.graph_format.specs.Parents.{edge_of, position_of}
use Rattle.graph_format.specs.declared.parents.ParentEdge.TheVariants as edge
use Rattle.graph_format.specs.declared.parents.ParentEdge.TheVariants.{GraphPosition}
use Rattle.graph_format.proofs.DecodedRecordLemmas.{first_field-of, second_field-of}
use Rattle.graph_format.proofs.LayerHistoryLemmas.{opened_is_paired}
use Rattle.graph_layer.specs.Commit.{commit_layer, commit_pos, layer_and_position}
use Rattle.graph_layer.specs.declared.file.commit.Commit.{Commit}
use Rattle.graph_layer.proofs.ParentBoundLemmas.{edge_of-position}
use Rattle.gix_commitgraph.specs.Graph.{IsGraph, graph_commits, start, stop, total}
use Rattle.gix_commitgraph.proofs.layers.LayerListLemmas.{graph_commits-at, start-all, start-fits, start-more}
use Rattle.gix_commitgraph.proofs.layers.LayerStartLemmas.{layer-kept}
use Rattle.gix_commitgraph.proofs.layers.PositionLemmas.{length-graph_commits}
use Rattle.gix_commitgraph.proofs.lookup.ElementLemmas.{all-at}
use Rattle.commitgraph_c.proofs.BlockRoom.{at_drop}

-- A layer of a graph that was lent, and both parent fields of its commits.
pub record IsLent (layers : List Layer) (i : ℕ) (layer : Layer) (fields : List (ℕ × ℕ)) : Type 0 where
  pub here : slice_get layers i ≡ Some layer
  pub read : fields ≡ map stored_parents layer.records
  pub size : length fields ≡ length layer.ids

pub layer_lent : (layers files : List Layer) (i : ℕ) (layer : Layer) (fields : List (ℕ × ℕ)) → IsGraph layers → files ≡ layers
    → i < length layers → layer ≡ get_or files i layer → fields ≡ map stored_parents layer.records
    → IsLent layers i layer fields
layer_lent layers files i layer fields graph same inside is read =
    let here = layer-kept layers files i layer same inside is in
    record {
      here = here;
      read = read;
      size = ap length read ∙ length-map layer.records stored_parents
          ∙ opened_is_paired layer (all-at IsOpened layers i layer graph.opened here);
    }

-- what both fields of its commits say, by the number that stands for no parent
module _ {layers : List Layer} {i : ℕ} {layer : Layer} {fields : List (ℕ × ℕ)} (lent : IsLent layers i layer fields) (pos : ℕ)
    (below : pos < length layer.ids) where
  pub first_edge : (slice_index_or fields pos (0, 0)).0 < 0x70000000
      → edge_of (record_at layer pos).parent1 ≡ GraphPosition (position_of (slice_index_or fields pos (0, 0)).0)
  first_edge less =
      let field = (slice_index_or fields pos (0, 0)).0 in
      ap edge_of (sym (first_field-of layer fields pos (0, 0) lent.read (omega (arith, lent.size, below))))
      ∙ edge_of-position field (omega (arith, less)) (λ e. omega (arith, less, e))

  pub second_edge : (slice_index_or fields pos (0, 0)).1 ≡ 0x70000000 → edge_of (record_at layer pos).parent2 ≡ edge.None
  second_edge none =
      ap edge_of (sym (second_field-of layer fields pos (0, 0) lent.read (omega (arith, lent.size, below))) ∙ none)

-- A position of a graph, as a layer and the position there.
pub record IsPlace (layers : List Layer) (p i pos : ℕ) : Type 0 where
  pub at : start layers i + pos ≡ p
  pub within : IfSome (slice_get layers i) (λ layer. pos ≤ length layer.ids)

-- the commit at a position lies in the layer of that position
pub commit_place : (layers : List Layer) (p i pos : ℕ) (layer : Layer) → i < length layers → start layers i ≤ p
    → p < stop layers i → slice_get (graph_commits layers) p ≡ Some (layer, pos) → IsPlace layers p i pos
commit_place layers p i pos layer inside from below here =
    let it = get_or layers i layer in
    let there = slice_get-get_or layers i layer inside in
    let stops = start-more layers i it there in
    let same : start layers i + (p - start layers i) ≡ p = omega (arith, from) in
    let is = ap (λ (n : ℕ). slice_get (graph_commits layers) n) (sym same)
    ∙ graph_commits-at layers i (p - start layers i) it there (omega (arith, stops, from, below)) in
    let both = same_Some (it, p - start layers i) (layer, pos) (sym is ∙ here) in
    let place : p - start layers i ≡ pos = ap (λ (c : Layer × ℕ). c.1) both in
    record {
      at = omega (arith, place, from);
      within =
          subst (λ (o : Option Layer). IfSome o (λ l. pos ≤ length l.ids)) (sym there)
          (omega (arith, place, stops, from, below));
    }

-- Of the commits from a position on, the one at this place lies in this layer, at this position.
module _ (layers : List Layer) (first place i pos : ℕ) (layer : Layer) (here : slice_get layers i ≡ Some layer)
    (at : start layers i + pos ≡ min (first + place) (total layers)) where
  pub commit_ahead : pos < length layer.ids → slice_get (drop first (graph_commits layers)) place ≡ Some (layer, pos)
  commit_ahead below =
      let same : first + place ≡ start layers i + pos =
      omega (arith, at, start-more layers i layer here, start-fits layers (i + 1), below) in
      at_drop (graph_commits layers) first place (layer, pos)
      (ap (λ (n : ℕ). slice_get (graph_commits layers) n) same ∙ graph_commits-at layers i pos layer here below)

  -- where the one after it lies
  pub next_place : pos < length layer.ids → start layers i + (pos + 1) ≡ min (first + (place + 1)) (total layers)
  next_place below = omega (arith, at, start-more layers i layer here, start-fits layers (i + 1), below)

  pub next_layer : pos ≡ length layer.ids → start layers (i + 1) + 0 ≡ min (first + place) (total layers)
  next_layer end = omega (arith, at, start-more layers i layer here, end)

  -- the commit there, as it is lent
  pub lent_ahead : (commit : Commit) → commit_layer commit ≡ layer → commit_pos commit ≡ pos → pos < length layer.ids
      → slice_get (drop first (graph_commits layers)) place ≡ Some (layer_and_position commit)
  lent_ahead commit its_layer its_pos below =
      commit_ahead below ∙ ap (λ (n : ℕ). Some (layer, n)) (sym its_pos)
      ∙ ap (λ (l : Layer). Some (l, commit_pos commit)) (sym its_layer)

-- the commits that are left are few
pub few_left : (layers : List Layer) (first : ℕ) → IsGraph layers → length (drop first (graph_commits layers)) < 2 ^ 32
few_left layers first graph =
    omega (arith, graph.makes.few, length-drop first (graph_commits layers), length-graph_commits layers)

-- past the last layer no commit is left
pub none_left : (layers : List Layer) (first place i pos : ℕ) → length layers ≤ i
    → start layers i + pos ≡ min (first + place) (total layers) → length (drop first (graph_commits layers)) ≤ place
none_left layers first place i pos past at =
    omega (arith, at, start-all layers i past, length-drop first (graph_commits layers), length-graph_commits layers)
