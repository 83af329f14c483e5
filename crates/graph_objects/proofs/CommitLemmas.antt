-- What the comparison of a commit comes to.
use Rattle.std.proofs.Common.{◌≡◌, ◌↔◌, ℕ, ◌+◌, ◌≤◌, ◌<◌, ◌^◌, List, length, Bool, true, false, sym, ap, ◌∙◌}
use Rattle.std.proofs.Common.{arith, map, ◌++◌, [], ◌∷◌}
use Rattle.std.specs.Prelude.{Option, Some, None, Result, Ok, Err, MatchResult, IsTrue, All, slice_get}
use Rattle.std.proofs.lemmas.Option.{slice_get_within, slice_get-get_or, same_Some}
use Rattle.gix_hash_core.specs.declared.kind.Kind.{Kind}
use Rattle.graph_format.specs.Layer.{Layer, IsOpened, record_at}
use Rattle.graph_format.specs.Parents.{DecodedParents, parents_of, items_of, fault_items}
use Rattle.graph_format.specs.declared.Position.{Position}
use Rattle.graph_format.specs.declared.parents.ParentError.{ParentError}
use Rattle.graph_layer.proofs.ParentCountLemmas.{few_parents}
use Rattle.gix_commitgraph.specs.Graph.{IsGraph, graph_commits}
use Rattle.gix_commitgraph.proofs.layers.GraphLemmas.{commit-lies}
use Rattle.commit_objects.specs.CommitContents.{Said, Says}
use Rattle.commit_objects.specs.Object.{object_id_of}
use Rattle.graph_objects.specs.Matching.{Agree, AreContents, Matches, MatchesAt}
use Rattle.graph_objects.specs.Mismatches.{IsAmiss, Mismatches, MismatchesAt}
use Rattle.graph_objects.specs.declared.Mismatch.{Mismatch}
use Rattle.graph_objects.specs.declared.Mismatch.TheVariants.{OtherContents, Unreadable, Tree, Parent, Time}

-- what holds of each layer holds of that of a commit
pub of_layer : (P : Layer → Type 0) (layers : List Layer) (p pos : ℕ) (layer : Layer) → All P layers
    → slice_get (graph_commits layers) p ≡ Some (layer, pos) → P layer
of_layer P layers p pos layer all here =
    let lies = commit-lies layers p pos layer here in
    let there = lies.1.there in
    rw (same_Some _ _ (sym (slice_get-get_or layers lies.0 layer (slice_get_within layers lies.0 layer there)) ∙ there))
    at (all lies.0 layer (slice_get_within layers lies.0 layer there))

items_len : (positions : List Position) (fault : Option ParentError)
    → length (map (λ pos. Ok pos) positions ++ fault_items fault) ≤ length positions + 1
items_len [] None = omega arith
items_len [] (Some e) = omega arith
items_len (pos ∷ positions) fault = let more = items_len positions fault in omega (arith, more)

few_items : (parents : DecodedParents) → length parents.positions < 2 ^ 32 → length (items_of parents) ≤ 2 ^ 32
few_items parents few = omega (arith, items_len parents.positions parents.fault)

-- a commit of a graph has so few parents that 32 bits count them
pub few_of_commit : (layers : List Layer) (p pos : ℕ) (layer : Layer) → IsGraph layers
    → slice_get (graph_commits layers) p ≡ Some (layer, pos)
    → length (items_of (parents_of (record_at layer pos) layer.edges)) ≤ 2 ^ 32
few_of_commit layers p pos layer graph here =
    let opened = of_layer IsOpened layers p pos layer graph.opened here in
    few_items (parents_of (record_at layer pos) layer.edges) (few_parents layer (record_at layer pos) opened.few_edges)

pub contents_yes : (layer : Layer) (kind : Kind) (pos : ℕ) (bytes x id : List ℕ) (r : Bool) → layer.kind ≡ kind
    → slice_get layer.ids pos ≡ Some x
    → id ≡ object_id_of kind bytes → (IsTrue r ↔ (x ≡ id)) → r ≡ true → AreContents layer pos bytes
contents_yes layer kind pos bytes x id r same there made test e =
    rw same (there ∙ ap (λ l. Some l) (test.0 e ∙ made))

pub contents_no : (layer : Layer) (kind : Kind) (pos : ℕ) (bytes x id : List ℕ) (r : Bool) → layer.kind ≡ kind
    → slice_get layer.ids pos ≡ Some x
    → id ≡ object_id_of kind bytes → (IsTrue r ↔ (x ≡ id)) → r ≡ false → ¬ (AreContents layer pos bytes)
contents_no layer kind pos bytes x id r same there made test e are =
    let theirs : slice_get layer.ids pos ≡ Some (object_id_of kind bytes) = rw same at are in
    let other = test.1 (same_Some _ _ (sym there ∙ theirs) ∙ sym made) in
    cc (other, e)

-- what was compared is the answer
pub finish : (layers : List Layer) (layer : Layer) (pos : ℕ) (bytes : List ℕ) (said : Said) (r : Result Unit Mismatch)
    → AreContents layer pos bytes
    → Says layer.kind bytes said → MatchResult r (λ _. Agree layers layer pos said) (IsAmiss layers layer pos said)
    → MatchResult r (λ _. Matches layers layer pos bytes) (Mismatches layers layer pos bytes)
finish layers layer pos bytes said (Ok x) contents says agree = record {
  contents = contents;
  said = said;
  says = says;
  agree = agree;
}
finish layers layer pos bytes said (Err OtherContents) contents says amiss = absurd amiss
finish layers layer pos bytes said (Err Unreadable) contents says amiss = absurd amiss
finish layers layer pos bytes said (Err Tree) contents says amiss = (contents, (said, says, amiss))
finish layers layer pos bytes said (Err (Parent index)) contents says amiss = (contents, (said, says, amiss))
finish layers layer pos bytes said (Err Time) contents says amiss = (contents, (said, says, amiss))

-- the same of the commit at a position of the graph
pub at_place : (layers : List Layer) (p : ℕ) (bytes : List ℕ) (layer : Layer) (pos : ℕ) (r : Result Unit Mismatch)
    → slice_get (graph_commits layers) p ≡ Some (layer, pos)
    → MatchResult r (λ _. Matches layers layer pos bytes) (Mismatches layers layer pos bytes)
    → MatchResult r (λ _. MatchesAt layers p bytes) (MismatchesAt layers p bytes)
at_place layers p bytes layer pos (Ok x) here answer = rw here answer
at_place layers p bytes layer pos (Err mismatch) here answer = rw here answer
