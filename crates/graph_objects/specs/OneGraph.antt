-- When two graphs say the same of their commits ("Commit Data"), but for numbers that only a graph has.
use Rattle.std.specs.Prelude.{◌≡◌, ◌<◌, ℕ, List, Contains, Option, option_map, slice_get, IsSomeAnd}
use Rattle.gix_hash_core.specs.declared.kind.Kind.{Kind}
use Rattle.commit_objects.specs.Object.{object_id_of}
use Rattle.commit_objects.specs.Time.{IsTime}
use Rattle.graph_format.specs.Layer.{Layer, record_at}
use Rattle.graph_format.specs.StoredHistory.{history_of}
use Rattle.gix_commitgraph.specs.Graph.{graph_commits, graph_ids, total}
use Rattle.graph_objects.specs.Matching.{recorded_parents}
use Rattle.graph_objects.specs.Stream.{graph_id_at}

-- the id of the root tree of the commit at a position, the ids of its parents, in order, and its time
abbrev pub tree_at : List Layer → ℕ → Option (List ℕ)
tree_at layers p = option_map (λ place. (record_at place.0 place.1).tree) (slice_get (graph_commits layers) p)

abbrev pub parent_ids_at : List Layer → ℕ → Option (List (Option (List ℕ)))
parent_ids_at layers p = option_map (λ place. recorded_parents layers place.0 place.1) (slice_get (graph_commits layers) p)

abbrev pub time_at : List Layer → ℕ → Option ℕ
time_at layers p = option_map (λ place. (record_at place.0 place.1).time) (slice_get (graph_commits layers) p)

-- Both graphs say the same of the commit at a position. Git reads its time from one text, older versions and newer ones in two
-- ways, which differ for odd texts alone.
pub record SayTheSameAt (one other : List Layer) (p : ℕ) : Type 0 where
  pub id : graph_id_at one p ≡ graph_id_at other p
  pub tree : tree_at one p ≡ tree_at other p
  pub parents : parent_ids_at one p ≡ parent_ids_at other p
  pub text : List ℕ
  pub times : IsSomeAnd (time_at one p) (IsTime text) × IsSomeAnd (time_at other p) (IsTime text)

-- They have as many commits, and say the same of each.
pub record HaveTheSameCommits (one other : List Layer) : Type 0 where
  pub as_many : total one ≡ total other
  pub each : (p : ℕ) → p < total one → SayTheSameAt one other p

-- Both have the same ids, the same parents by their positions, and the same generation numbers.
pub record IsOneGraph (one other : List Layer) : Type 0 where
  pub ids : graph_ids one ≡ graph_ids other
  pub history : history_of one ≡ history_of other

-- Contents with one id are the same: none of the first ones has the digest of another of the second ones.
abbrev pub HaveNoTwoContents : Kind → List (List ℕ) → List (List ℕ) → Type 0
HaveNoTwoContents kind first second =
    (one other : List ℕ) → Contains first one → Contains second other → object_id_of kind one ≡ object_id_of kind other
    → one ≡ other
