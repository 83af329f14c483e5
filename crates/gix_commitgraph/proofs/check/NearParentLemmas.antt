-- laws of the parents of a commit that stand in its own layer
use Rattle.std.proofs.Common.{◌≡◌, ℕ, ◌+◌, ◌-◌, ◌%◌, ◌<◌, List, map, max, length, Some, get_or, slice_get}
use Rattle.std.proofs.Common.{refl, sym, ap, subst, ◌∙◌, arith}
use Rattle.std.proofs.Math.ListN.{get_or-map}
use Rattle.std.proofs.lemmas.List.{length-map}
use Rattle.graph_walks.specs.History.{generation_at}
use Rattle.graph_format.specs.Format.{Record}
use Rattle.graph_format.specs.Layer.{Layer, no_record, record_at}
use Rattle.graph_format.specs.Parents.{DecodedParents, no_parents, followed_by, position_of, edge_of, both_parents}
use Rattle.graph_format.specs.StoredHistory.{history_of}
use Rattle.graph_format.specs.declared.parents.ParentEdge.{ParentEdge}
use Rattle.graph_format.specs.declared.parents.ParentEdge.TheVariants.{GraphPosition}
use Rattle.graph_format.proofs.CommitFaultFreeLemmas.{record_at-get_or}
use Rattle.graph_format.proofs.LayerHistoryLemmas.{opened_is_paired}
use Rattle.graph_layer.proofs.ParentBoundLemmas.{edge_of-position}
use Rattle.gix_commitgraph.specs.Graph.{graph_commits}
use Rattle.gix_commitgraph.specs.LayerSpans.{IsSpan}
use Rattle.gix_commitgraph.specs.ListedTallies.{IsTally}
use Rattle.gix_commitgraph.specs.Tallies.{IsGathered}
use Rattle.gix_commitgraph.specs.declared.verify.span.LayerSpan.{LayerSpan}
use Rattle.gix_commitgraph.proofs.check.EdgeListLemmas.{no_parents_tallied, one_before}
use Rattle.gix_commitgraph.proofs.history.HistoryLemmas.{generation-at}
use Rattle.gix_commitgraph.proofs.layers.LayerListLemmas.{size, graph_commits-counted}
use Rattle.gix_commitgraph.proofs.layers.LayerSpanLemmas.{span-stop, span-total, span-opened}

-- how far a field is past the start of a layer, where one before it wraps
abbrev pub past_start : LayerSpan → ℕ → ℕ
past_start span field = (field + (4294967296 - span.start)) % 4294967296

-- one of the columns of a layer's records, at a commit
pub column-at : {A : Type 0} (layer : Layer) (f : Record → A) (column : List A) (place : ℕ) (d : A) → f no_record ≡ d
    → column ≡ map f layer.records → get_or column place d ≡ f (record_at layer place)
column-at {A} layer f column place d none told =
    ap (λ (ns : List A). get_or ns place d) told
    ∙ ap (get_or (map f layer.records) place) (sym none)
    ∙ get_or-map f layer.records place no_record
    ∙ ap f (sym (record_at-get_or layer place))

module _ (layers : List Layer) (span : LayerSpan) (is : IsSpan layers span) where
  -- it has one element for each commit
  pub length-column : {A : Type 0} (f : Record → A) (column : List A) → column ≡ map f span.file.now.records
      → length column ≡ size span.file.now
  length-column f column told =
      ap length told ∙ length-map span.file.now.records f ∙ opened_is_paired span.file.now (span-opened layers span is)

  -- a field that is no farther past the start than a commit is the position of that commit
  near : (field : ℕ) → field < 4294967296 → past_start span field < size span.file.now
      → field ≡ span.start + past_start span field
  near field fits below =
      omega (arith, fits, below, span-stop layers span is, span-total layers span is, is.graph.makes.few)

  near-below : (field : ℕ) → field < 4294967296 → past_start span field < size span.file.now → field < span.stop
  near-below field fits below = omega (arith, near field fits below, below, span-stop layers span is)

  near-edge : (field : ℕ) → field < 4294967296 → past_start span field < size span.file.now
      → GraphPosition (position_of field) ≡ edge_of field
  near-edge field fits below =
      let small : field < 0x70000000 =
      omega (arith, near-below field fits below, span-total layers span is, is.graph.makes.few) in
      sym (edge_of-position field (omega (arith, small)) (λ (e : field ≡ 0x70000000). omega (arith, small, e)))

  near-generation : (numbers : List ℕ) (field : ℕ) → numbers ≡ map (λ r. r.generation) span.file.now.records
      → field < 4294967296 → past_start span field < size span.file.now
      → generation_at (history_of layers) field ≡ get_or numbers (past_start span field) 0
  near-generation numbers field told fits below =
      let here : slice_get (graph_commits layers) field ≡ Some (span.file.now, past_start span field) =
      ap (slice_get (graph_commits layers)) (near field fits below)
      ∙ graph_commits-counted layers span.layer span.start (past_start span field) span.file.now is.start is.there below in
      generation-at layers field (past_start span field) span.file.now is.graph.opened here
      ∙ sym (column-at span.file.now (λ (r : Record). r.generation) numbers (past_start span field) 0 refl told)

  module _ (numbers : List ℕ) (told : numbers ≡ map (λ r. r.generation) span.file.now.records) where
    -- one such parent before others
    near-tallied : (field count most theirs : ℕ) (parents : DecodedParents) → field < 4294967296
        → past_start span field < size span.file.now
        → IsTally (history_of layers) span.stop parents (Some (record { count = count; max_generation = theirs }))
        → most ≡ max (get_or numbers (past_start span field) 0) theirs
        → IsTally (history_of layers) span.stop (followed_by (position_of field) parents)
        (Some (record { count = count + 1; max_generation = most }))
    near-tallied field count most theirs parents fits below known is_most =
        one_before (history_of layers) span.stop parents (position_of field) _ _ known (near-below field fits below) refl
        (omega (arith, is_most, near-generation numbers field told fits below))

    -- a commit with one parent
    pub one-near : (place first second most : ℕ) → first ≡ (record_at span.file.now place).parent1
        → second ≡ (record_at span.file.now place).parent2 → second ≡ 0x70000000 → first < 4294967296
        → past_start span first < size span.file.now → most ≡ get_or numbers (past_start span first) 0
        → IsGathered layers span place (Some (record { count = 1; max_generation = most }))
    one-near place first second most is_first is_second none fits below is_most =
        let Tallied : ParentEdge → ParentEdge → Type 0 =
        λ a b. IsTally (history_of layers) span.stop (both_parents a b span.file.now.edges)
        (Some (record { count = 1; max_generation = most })) in
        let tallied : Tallied (GraphPosition (position_of first)) (edge_of 0x70000000) =
        near-tallied first 0 most 0 no_parents fits below (no_parents_tallied (history_of layers) span.stop)
        (omega (arith, is_most)) in
        subst (λ (n : ℕ). Tallied (edge_of n) (edge_of (record_at span.file.now place).parent2)) is_first
        (subst (λ (n : ℕ). Tallied (edge_of first) (edge_of n)) (sym none ∙ is_second)
        (subst (λ (a : ParentEdge). Tallied a (edge_of 0x70000000)) (near-edge first fits below) tallied))

    -- a commit with two
    pub two-near : (place first second most : ℕ) → first ≡ (record_at span.file.now place).parent1
        → second ≡ (record_at span.file.now place).parent2 → first < 4294967296 → second < 4294967296
        → past_start span first < size span.file.now → past_start span second < size span.file.now
        → most ≡ max (get_or numbers (past_start span first) 0) (get_or numbers (past_start span second) 0)
        → IsGathered layers span place (Some (record { count = 2; max_generation = most }))
    two-near place first second most is_first is_second fits1 fits2 below1 below2 is_most =
        let Tallied : ParentEdge → ParentEdge → Type 0 =
        λ a b. IsTally (history_of layers) span.stop (both_parents a b span.file.now.edges)
        (Some (record { count = 2; max_generation = most })) in
        let last : ℕ = get_or numbers (past_start span second) 0 in
        let tallied : Tallied (GraphPosition (position_of first)) (GraphPosition (position_of second)) =
        near-tallied first 1 most last (followed_by (position_of second) no_parents) fits1 below1
        (near-tallied second 0 last 0 no_parents fits2 below2 (no_parents_tallied (history_of layers) span.stop) (omega arith))
        is_most in
        subst (λ (n : ℕ). Tallied (edge_of n) (edge_of (record_at span.file.now place).parent2)) is_first
        (subst (λ (n : ℕ). Tallied (edge_of first) (edge_of n)) is_second
        (subst (λ (a : ParentEdge). Tallied a (edge_of second)) (near-edge first fits1 below1)
        (subst (λ (b : ParentEdge). Tallied (GraphPosition (position_of first)) b) (near-edge second fits2 below2) tallied)))
