-- Where the check of the commits' parents, and of their generation numbers, names no fault.
use Rattle.std.proofs.Common.{◌≡◌, ℕ, ◌+◌, ◌-◌, ◌<◌, not, List, [], ◌∷◌, ◌++◌, map, length, get_or, slice_get, All, Option, Some}
use Rattle.std.proofs.Common.{None, Ok, refl, ap, subst, ◌∙◌, arith}
use Rattle.std.specs.Prelude.{◌↔◌}
use Rattle.std.proofs.lemmas.Bool.{not-false, ltb-true, lt-ltb, eqb-true, eq-eqb}
use Rattle.std.proofs.lemmas.List.{get_or_default}
use Rattle.std.proofs.lemmas.List.Elements.{All-nil, All-cons, All-head, All-tail}
use Rattle.gix_chunk_core.proofs.FirstFaultLemmas.{then_some-false, when-none}
use Rattle.graph_format.specs.Format.{Record}
use Rattle.graph_format.specs.Layer.{Layer, IsOpened, no_record}
use Rattle.graph_format.specs.Parents.{parents_of, fault_items}
use Rattle.gix_commitgraph.specs.Graph.{total, start, stop}
use Rattle.graph_walks.specs.History.{Node, generation_at}
use Rattle.graph_format.specs.StoredHistory.{history_of}
use Rattle.graph_walks.specs.Generations.{expected_generation, AreLocal}
use Rattle.graph_format.specs.Points.{first_some}
use Rattle.gix_commitgraph.specs.Verify.{item_refusal, parents_refusal, generation_refusal}
use Rattle.gix_commitgraph.specs.ListedTallies.{AreWithin}
use Rattle.gix_commitgraph.specs.Sound.{AreParentsKnown}
use Rattle.gix_commitgraph.specs.Tallies.{decoded_at}
use Rattle.graph_format.specs.declared.Position.{Position}
use Rattle.graph_format.specs.declared.parents.ParentError.{ParentError}
use Rattle.gix_commitgraph.proofs.layers.LayerListLemmas.{size, start-more}
use Rattle.gix_commitgraph.proofs.layers.GraphLemmas.{lies-in_one}
use Rattle.graph_format.proofs.FaultFreeLemmas.{first_some-none}
use Rattle.graph_format.proofs.LayerHistoryLemmas.{opened_is_paired}
use Rattle.gix_commitgraph.proofs.history.KnownParentLemmas.{known-at}
use Rattle.gix_commitgraph.proofs.history.HistoryLemmas.{length-history, within-history}
use Rattle.graph_format.proofs.CommitFaultFreeLemmas.{record_at-get_or}

module _ {E : Type 0} where
  item-iff : (p end : ℕ) (parent : Position) → (item_refusal {E = E} p end (Ok parent) ≡ None) ↔ (parent.0 < end)
  item-iff p end parent = (
    λ h. ltb-true parent.0 end (not-false _ (when-none _ _ h)),
    λ below. then_some-false _ _ (ap not (lt-ltb parent.0 end below)),
  )

  items-iff : (p end : ℕ) (positions : List Position) (fault : Option ParentError)
      → (first_some (map (item_refusal {E = E} p end) (map (λ pos. Ok pos) positions ++ fault_items fault)) ≡ None)
      ↔ ((fault ≡ None) × All (λ q. q.0 < end) positions)
  items-iff p end [] None = (λ h. (refl, All-nil (λ q. q.0 < end)), λ h. refl)
  items-iff p end [] (Some fault) = (λ h. cc, λ h. cc)
  items-iff p end (q ∷ positions) fault =
      let first = item-iff p end q in
      let rest = items-iff p end positions fault in
      let both =
      first_some-none (item_refusal {E = E} p end (Ok q))
      (map (item_refusal {E = E} p end) (map (λ pos. Ok pos) positions ++ fault_items fault)) in (
        λ h.
            let parts = both.0 h in
            let known = rest.0 parts.1 in
            (known.0, All-cons (λ q. q.0 < end) q positions (first.0 parts.0) known.1),
        λ h. both.1 (
          first.1 (All-head (λ q. q.0 < end) q positions h.1),
          rest.1 (h.0, All-tail (λ q. q.0 < end) q positions h.1),
        ),
      )

  -- no parent of a commit is refused exactly where they are decoded and stand before the end of its layer
  pub unrefused-iff : (layers : List Layer) (i : ℕ) (layer : Layer) (pos : ℕ)
      → (parents_refusal {E = E} layers i layer pos ≡ None) ↔ AreWithin (stop layers i) (decoded_at layer pos)
  unrefused-iff layers i layer pos =
      let parents = decoded_at layer pos in
      let both = items-iff (start layers i + pos) (stop layers i) parents.positions parents.fault in (
        λ none. let known = both.0 none in record { decoded = known.0; below = known.1 },
        λ known. both.1 (known.decoded, known.below),
      )

  -- the parents of all commits of layer i can be told, and stand before its end
  pub parents-iff : (layers : List Layer) (i : ℕ) (layer : Layer) → IsOpened layer
      → ((pos : ℕ) → pos < length layer.ids → parents_refusal {E = E} layers i layer pos ≡ None) ↔ AreParentsKnown layers i layer
  parents-iff layers i layer opened = (
    λ h. record {
      decoded = λ k d within. (at_record h k d within).decoded;
      within = λ k d within. (at_record h k d within).below;
    },
    λ known pos within. (unrefused-iff layers i layer pos).1 (known-at layers i pos layer opened known within),
  ) where
    at_record : ((pos : ℕ) → pos < length layer.ids → parents_refusal {E = E} layers i layer pos ≡ None) → (k : ℕ) (d : Record)
        → k < length layer.records → AreWithin (stop layers i) (parents_of (get_or layer.records k d) layer.edges)
    at_record h k d within =
        subst (λ r. AreWithin (stop layers i) (parents_of r layer.edges))
        (record_at-get_or layer k ∙ get_or_default layer.records k no_record d within)
        ((unrefused-iff layers i layer k).0 (h k (omega (arith, opened_is_paired layer opened))))

  pub generation-iff : (history : List Node) (p : ℕ) → (generation_refusal {E = E} history p ≡ None)
      ↔ (generation_at history p ≡ expected_generation history p)
  generation-iff history p = (
    λ h. eqb-true _ _ (not-false _ (when-none _ _ h)),
    λ same. then_some-false _ _ (ap not (eq-eqb _ _ same)),
  )

  -- each stored generation number is the expected one
  pub generations-iff : (layers : List Layer) → All IsOpened layers
      → ((i : ℕ) (layer : Layer) → slice_get layers i ≡ Some layer → (pos : ℕ) → pos < length layer.ids
      → generation_refusal {E = E} (history_of layers) (start layers i + pos) ≡ None) ↔ AreLocal (history_of layers)
  generations-iff layers opened = (
    λ h p within.
        let counted : p < total layers = omega (arith, length-history layers opened) in
        let place = lies-in_one layers p counted in
        let pos : ℕ = p - start layers place.index in
        let inside : pos < size place.layer =
        omega (arith, place.lies.from, place.lies.below, start-more layers place.index place.layer place.lies.there) in
        let whole : start layers place.index + pos ≡ p = omega (arith, place.lies.from) in
        subst (λ (n : ℕ). generation_at (history_of layers) n ≡ expected_generation (history_of layers) n) whole
        ((generation-iff (history_of layers) (start layers place.index + pos)).0
        (h place.index place.layer place.lies.there pos inside)),
    λ local i layer here pos within.
        (generation-iff (history_of layers) (start layers i + pos)).1
        (local (start layers i + pos) (within-history layers i pos layer opened here within)),
  )
