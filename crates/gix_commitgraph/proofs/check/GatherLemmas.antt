-- laws of the parents that are gathered before the check of their commits
use Rattle.std.proofs.Common.{◌≡◌, ℕ, ◌+◌, ◌<◌, ◌≤◌, List, map, length, Some, None, get_or}
use Rattle.std.proofs.Common.{sym, ap, subst, ◌∙◌, arith, ⊎_elim}
use Rattle.std.proofs.Math.ListN.{set}
use Rattle.std.proofs.lemmas.Bool.{cases_lt}
use Rattle.std.proofs.lemmas.Grind.{get_or-set_at}
use Rattle.std.proofs.lemmas.List.{length-map, get_or-set_other}
use Rattle.graph_format.specs.Layer.{Layer}
use Rattle.graph_format.specs.Parents.{DecodedParents, items_of}
use Rattle.graph_format.specs.Points.{first_some}
use Rattle.graph_format.specs.StoredHistory.{history_of}
use Rattle.graph_format.specs.declared.Position.{Position}
use Rattle.graph_layer.specs.Commit.{commit_layer, commit_pos, commit_parents}
use Rattle.graph_layer.specs.declared.file.commit.Commit.{Commit}
use Rattle.graph_walks.specs.Counts.{greatest}
use Rattle.graph_walks.specs.History.{generation_at, parents_at}
use Rattle.gix_commitgraph.specs.Graph.{start}
use Rattle.gix_commitgraph.specs.Verify.{item_refusal, parents_refusal}
use Rattle.gix_commitgraph.specs.LayerSpans.{IsSpan, IsInSpan}
use Rattle.gix_commitgraph.specs.ListedTallies.{AreWithin}
use Rattle.gix_commitgraph.specs.Tallies.{IsParentTally, IsGathered, decoded_at}
use Rattle.gix_commitgraph.specs.declared.verify.parents.ParentTally.{ParentTally}
use Rattle.gix_commitgraph.specs.declared.verify.span.LayerSpan.{LayerSpan}
use Rattle.gix_commitgraph.proofs.history.HistoryLemmas.{parents-at}
use Rattle.gix_commitgraph.proofs.layers.LayerSpanLemmas.{span-commit}
use Rattle.gix_commitgraph.proofs.sound.ParentFaultFreeLemmas.{unrefused-iff}

-- none of these parents is refused
pub gathered-refusal : {E : Type 0} (layers : List Layer) (span : LayerSpan) (place : ℕ) (tally : ParentTally)
    → IsSpan layers span → IsGathered layers span place (Some tally)
    → None ≡ parents_refusal {E = E} layers span.layer span.file.now place
gathered-refusal {E} layers span place tally is known =
    sym ((unrefused-iff {E = E} layers span.layer span.file.now place).1
    (subst (λ (end : ℕ). AreWithin end (decoded_at span.file.now place)) is.stop known.0))

-- what the check looks for at the parents of a commit, by the items that its parents give
pub refusal-told : {E : Type 0} (layers : List Layer) (span : LayerSpan) (commit : Commit) (p : ℕ) → IsSpan layers span
    → IsInSpan span commit p
    → first_some (map (item_refusal {E = E} p span.stop) (items_of (commit_parents commit)))
    ≡ parents_refusal {E = E} layers span.layer span.file.now (commit_pos commit)
refusal-told {E} layers span commit p is at =
    let here : p ≡ start layers span.layer + commit_pos commit = omega (arith, at.at, is.start) in
    ap (λ (q : ℕ). first_some (map (item_refusal {E = E} q span.stop) (items_of (commit_parents commit)))) here
    ∙ ap (λ (end : ℕ). first_some (map (item_refusal {E = E} (start layers span.layer + commit_pos commit) end)
    (items_of (commit_parents commit)))) is.stop
    ∙ ap (λ (layer : Layer). parents_refusal {E = E} layers span.layer layer (commit_pos commit)) at.layer

-- parents that are not refused are decoded, and stand before the layer's end
pub within-unrefused : {E : Type 0} (layers : List Layer) (span : LayerSpan) (place : ℕ) → IsSpan layers span
    → parents_refusal {E = E} layers span.layer span.file.now place ≡ None → AreWithin span.stop (decoded_at span.file.now place)
within-unrefused {E} layers span place is none =
    subst (λ (end : ℕ). AreWithin end (decoded_at span.file.now place)) (sym is.stop)
    ((unrefused-iff {E = E} layers span.layer span.file.now place).0 none)

-- and the tally is that of the commit at this position of the graph
pub gathered-tally : (layers : List Layer) (span : LayerSpan) (commit : Commit) (p : ℕ) (tally : ParentTally)
    → IsSpan layers span → IsInSpan span commit p → IsGathered layers span (commit_pos commit) (Some tally)
    → IsParentTally (history_of layers) p tally
gathered-tally layers span commit p tally is at known =
    let here = span-commit layers span commit p is at in
    let parents : DecodedParents = decoded_at span.file.now (commit_pos commit) in
    let told : parents_at (history_of layers) p ≡ map (λ q. q.0) parents.positions =
    parents-at layers p (commit_pos commit) (commit_layer commit) is.graph.opened here
    ∙ ap (λ (layer : Layer). map (λ (q : Position). q.0) (decoded_at layer (commit_pos commit)).positions) at.layer in
    record {
      count = ap (λ (t : ParentTally). t.count) known.1 ∙ sym (ap length told ∙ length-map parents.positions (λ q. q.0));
      max_generation = ap (λ (t : ParentTally). t.max_generation) known.1
          ∙ sym (ap (λ (ps : List ℕ). greatest (map (generation_at (history_of layers)) ps)) told);
    }

-- what is gathered of one commit after another
pub one-more : {A : Type 0} (P : ℕ → A → Type 0) (xs : List A) (n : ℕ) (x d : A) → n < length xs
    → ((i : ℕ) → i < n → P i (get_or xs i d)) → P n x
    → (i : ℕ) → i < n + 1 → P i (get_or (set xs n x) i d)
one-more P xs n x d within all one i below = ⊎_elim
    (λ (before : i < n). subst (P i) (sym (get_or-set_other xs n i x d (omega arith))) (all i before))
    (λ (at : n ≤ i).
    let same : i ≡ n = omega arith in
    subst (P i) (sym (get_or-set_at xs n i x d same within)) (subst (λ (k : ℕ). P k x) (sym same) one))
    (cases_lt i n)
