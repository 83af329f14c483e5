-- When the record of a commit in a graph says what the bytes of the commit say ("Commit Data"; Git's book, "Git Objects").
use Rattle.std.specs.Prelude.{◌≡◌, ℕ, List, map, slice_get, Option, Some, None, Result, Ok, Err, IsSomeAnd}
use Rattle.gix_hash_core.specs.declared.kind.Kind.{Kind}
use Rattle.graph_format.specs.Layer.{Layer, record_at}
use Rattle.graph_format.specs.Parents.{parents_of, items_of}
use Rattle.graph_format.specs.declared.Position.{Position}
use Rattle.graph_format.specs.declared.parents.ParentError.{ParentError}
use Rattle.gix_commitgraph.specs.Graph.{graph_ids, graph_commits}
use Rattle.commit_objects.specs.CommitContents.{Said, Says}
use Rattle.commit_objects.specs.Object.{object_id_of}
use Rattle.commit_objects.specs.Time.{IsTime}

-- the id of a parent, none where it cannot be decoded or is no commit of the graph
abbrev pub id_of_item : List (List ℕ) → Result Position ParentError → Option (List ℕ)
id_of_item ids (Ok pos) = slice_get ids pos.0
id_of_item ids (Err error) = None

-- the ids of parents
abbrev pub ids_of_items : List (List ℕ) → List (Result Position ParentError) → List (Option (List ℕ))
ids_of_items ids items = map (id_of_item ids) items

-- the ids of the parents of the commit at a position of a layer
abbrev pub recorded_parents : List Layer → Layer → ℕ → List (Option (List ℕ))
recorded_parents layers layer pos = ids_of_items (graph_ids layers) (items_of (parents_of (record_at layer pos) layer.edges))

abbrev pub each_known : List (List ℕ) → List (Option (List ℕ))
each_known ids = map (λ id. Some id) ids

-- the bytes are those that the id is the digest of
abbrev pub AreContents : Layer → ℕ → List ℕ → Type 0
AreContents layer pos bytes = slice_get layer.ids pos ≡ Some (object_id_of layer.kind bytes)

-- The record of the commit at a position of a layer says what the commit says: its tree, the ids of its parents, in order and
-- number, and a time of it ("Commit Data", "Extra Edge List").
pub record Agree (layers : List Layer) (layer : Layer) (pos : ℕ) (said : Said) : Type 0 where
  pub tree : (record_at layer pos).tree ≡ said.tree
  pub parents : recorded_parents layers layer pos ≡ each_known said.parents
  pub time : IsTime said.rest (record_at layer pos).time

-- The commit at a position of a layer of the graph is the one with these bytes, and its record says what they say.
pub record Matches (layers : List Layer) (layer : Layer) (pos : ℕ) (bytes : List ℕ) : Type 0 where
  pub contents : AreContents layer pos bytes
  pub said : Said
  pub says : Says layer.kind bytes said
  pub agree : Agree layers layer pos said

-- For private contracts: the record says what bytes say, whatever their digest is
abbrev pub SaysAsRecorded : List Layer → Kind → Layer → ℕ → List ℕ → Type 0
SaysAsRecorded layers kind layer pos bytes = (said : Said) × Says kind bytes said × Agree layers layer pos said

-- the same of the commit at a position of the graph
abbrev pub MatchesAt : List Layer → ℕ → List ℕ → Type 0
MatchesAt layers p bytes = IsSomeAnd (slice_get (graph_commits layers) p) (λ place. Matches layers place.0 place.1 bytes)

-- the bytes are those that the id at the position is the digest of
abbrev pub AreContentsAt : List Layer → ℕ → List ℕ → Type 0
AreContentsAt layers p bytes = IsSomeAnd (slice_get (graph_commits layers) p) (λ place. AreContents place.0 place.1 bytes)
