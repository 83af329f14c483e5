-- Where each commit stands whose id a parent may have. For private contracts alone.
use Rattle.std.specs.Prelude.{◌≡◌, ◌++◌, ℕ, ◌+◌, ◌<◌, ◌^◌, Bool, List, None, length}
use Rattle.gix_chunk_core.specs.FirstFault.{first_below}
use Rattle.gix_commitgraph.specs.Graph.{graph_ids, total}
use Rattle.graph_format.specs.Layer.{Layer}
use Rattle.graph_writer.specs.NewCommits.{layers_of_below}
use Rattle.graph_writer.specs.NewLayers.{ids_in_order}
use Rattle.graph_writer.specs.SortedPlaces.{IsOrder}
use Rattle.graph_writer.specs.WriteRefusal.{is_unknown, below_at}
use Rattle.graph_writer.specs.declared.resolve.Known.{Known}

-- the layers below, none where there is no graph
abbrev pub layers_below : {C : Type 0} → Known C → List Layer
layers_below known = layers_of_below known.below

abbrev pub ids_below : {C : Type 0} → Known C → List (List ℕ)
ids_below known = graph_ids (layers_below known)

-- an id that nothing stands for
abbrev pub is_unknown_to : {C : Type 0} → Known C → List ℕ → Bool
is_unknown_to known id = is_unknown (ids_below known) known.commits.now id

-- the ids of the commits that are handed in, in their order
abbrev pub new_ids_in_order : {C : Type 0} → Known C → List (List ℕ)
new_ids_in_order known = ids_in_order known.commits.now known.order.now

-- all ids that a parent may have, in the order of positions
abbrev pub all_ids : {C : Type 0} → Known C → List (List ℕ)
all_ids known = ids_below known ++ new_ids_in_order known

-- The order is that of the commits, which are few enough for positions, and none of which stands below.
pub record IsKnown {C : Type 0} (known : Known C) : Type 0 where
  pub start : known.start ≡ total (layers_below known)
  pub order : IsOrder known.commits.now known.order.now
  pub few : known.start + length known.commits.now < 2 ^ 32
  pub fresh : first_below (below_at (ids_below known) known.commits.now) (length known.commits.now) ≡ None
