-- The ids of commits are those of their contents.
use Rattle.std.proofs.Common.{◌≡◌, ℕ, List, [], slice_get, Some, refl, sym, ap, ◌∙◌}
use Rattle.std.specs.Prelude.{Option, None, IsSomeAnd}
use Rattle.std.proofs.lemmas.Option.{get_or_from_slice_get}
use Rattle.gix_hash_core.specs.declared.kind.Kind.{Kind}
use Rattle.graph_format.specs.Layer.{Layer}
use Rattle.gix_commitgraph.specs.Graph.{graph_commits, graph_ids}
use Rattle.gix_commitgraph.proofs.layers.GraphLemmas.{commit-lies, place-in}
use Rattle.commit_objects.specs.Object.{object_id_of}
use Rattle.graph_objects.specs.Matching.{MatchesAt, Matches, AreContents, AreContentsAt}
use Rattle.graph_objects.specs.Stream.{graph_id_at}

-- the id at a position
pub id_there : (layers : List Layer) (p : ℕ) (id : List ℕ) → slice_get (graph_ids layers) p ≡ Some id → graph_id_at layers p ≡ id
id_there layers p id there = get_or_from_slice_get (graph_ids layers) p id [] there

-- the id of a commit that matches is that of the contents
id_of_match : (layers : List Layer) (p pos : ℕ) (layer : Layer) (bytes : List ℕ)
    → slice_get (graph_commits layers) p ≡ Some (layer, pos)
    → AreContents layer pos bytes → graph_id_at layers p ≡ object_id_of layer.kind bytes
id_of_match layers p pos layer bytes here are =
    let lies = commit-lies layers p pos layer here in
    let there = (place-in layers p lies.0 layer lies.1).id in
    id_there layers p (object_id_of layer.kind bytes) (there ∙ ap (slice_get layer.ids) (sym lies.2) ∙ are)

of_some : {A : Type 0} {R : Type 0} (P : A → Type 0) (o : Option A) → IsSomeAnd o P → ((x : A) → o ≡ Some x → P x → R) → R
of_some P None h f = absurd h
of_some P (Some x) h f = f x refl h

pub matched : (layers : List Layer) (p : ℕ) (bytes : List ℕ) → MatchesAt layers p bytes
    → (layer : Layer) × (pos : ℕ) × (slice_get (graph_commits layers) p ≡ Some (layer, pos)) × Matches layers layer pos bytes
matched layers p bytes h =
    of_some (λ (place : Layer × ℕ). Matches layers place.0 place.1 bytes) (slice_get (graph_commits layers) p) h
    (λ place here m. (place.0, place.1, here, m))

pub matched-id : (layers : List Layer) (p : ℕ) (bytes : List ℕ) (h : MatchesAt layers p bytes)
    → graph_id_at layers p ≡ object_id_of (matched layers p bytes h).0.kind bytes
matched-id layers p bytes h =
    let m = matched layers p bytes h in
    id_of_match layers p m.1 m.0 bytes m.2 m.3.contents

-- contents of which the id is the digest
pub own_contents : (layers : List Layer) (p pos : ℕ) (layer : Layer) (kind : Kind) (id bytes : List ℕ)
    → slice_get (graph_commits layers) p ≡ Some (layer, pos) → slice_get (graph_ids layers) p ≡ Some id → layer.kind ≡ kind
    → id ≡ object_id_of kind bytes → AreContents layer pos bytes
own_contents layers p pos layer kind id bytes here there same own =
    let lies = commit-lies layers p pos layer here in
    let place = (place-in layers p lies.0 layer lies.1).id in
    sym (place ∙ ap (slice_get layer.ids) (sym lies.2)) ∙ there
    ∙ ap (λ i. Some i) (own ∙ ap (λ k. object_id_of k bytes) (sym same))

-- the layer of a commit whose id is that of some contents
pub contents_there : (layers : List Layer) (p : ℕ) (bytes : List ℕ) → AreContentsAt layers p bytes
    → (layer : Layer) × (pos : ℕ) × (slice_get (graph_commits layers) p ≡ Some (layer, pos))
    × (graph_id_at layers p ≡ object_id_of layer.kind bytes)
contents_there layers p bytes h =
    of_some (λ (place : Layer × ℕ). AreContents place.0 place.1 bytes) (slice_get (graph_commits layers) p) h
    (λ place here are. (place.0, place.1, here, id_of_match layers p place.1 place.0 bytes here are))

-- a commit that matches has the id of its contents
pub matched_contents : (layers : List Layer) (p : ℕ) (bytes : List ℕ) → MatchesAt layers p bytes → AreContentsAt layers p bytes
matched_contents layers p bytes = by (slice_get (graph_commits layers) p)
  where
    by : (o : Option (Layer × ℕ)) → IsSomeAnd o (λ place. Matches layers place.0 place.1 bytes)
        → IsSomeAnd o (λ place. AreContents place.0 place.1 bytes)
    by None is = is
    by (Some place) is = is.contents
