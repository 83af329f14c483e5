-- In a graph that matches its stream, walks over positions are walks along `parent` lines.
use Rattle.std.proofs.Common.{◌≡◌, ℕ, zero, suc, ◌+◌, ◌-◌, ◌<◌, ◌⊎◌, inl, inr, ⊎_elim, List, [], ◌∷◌, ◌++◌, map, length}
use Rattle.std.proofs.Common.{get_or, slice_get, refl, sym, ap}
use Rattle.std.proofs.Common.{◌∙◌, arith}
use Rattle.std.specs.Prelude.{All, Contains, Option, Some, None, option_map, Ok}
use Rattle.std.proofs.lemmas.List.{length-map}
use Rattle.std.proofs.lemmas.Option.{same_Some, slice_get-get_or, slice_get-map, get_or_from_slice_get}
use Rattle.gix_hash_core.specs.declared.kind.Kind.{Kind}
use Rattle.graph_walks.specs.History.{IsParent}
use Rattle.graph_walks.specs.Walks.{IsWalk, Reaches}
use Rattle.graph_format.specs.Layer.{Layer, IsOpened, record_at}
use Rattle.graph_format.specs.Parents.{parents_of, fault_items}
use Rattle.graph_format.specs.StoredHistory.{history_of}
use Rattle.graph_format.specs.declared.Position.{Position}
use Rattle.graph_format.specs.declared.parents.ParentError.{ParentError}
use Rattle.gix_commitgraph.specs.Distinct.{AreDistinct}
use Rattle.gix_commitgraph.specs.Graph.{graph_ids, graph_commits, total}
use Rattle.gix_commitgraph.proofs.history.HistoryLemmas.{length-history, parents-at}
use Rattle.gix_commitgraph.proofs.layers.GraphLemmas.{counted}
use Rattle.commit_objects.proofs.ParentLemmas.{says_one}
use Rattle.commit_objects.specs.CommitContents.{Said}
use Rattle.commit_objects.specs.Object.{object_id_of}
use Rattle.graph_objects.specs.CommitWalks.{NamesParent, IsCommitWalk, CommitsLead}
use Rattle.graph_objects.specs.Matching.{ids_of_items, each_known, MatchesAt, Matches}
use Rattle.graph_objects.specs.Stream.{graph_id_at, AllMatch}
use Rattle.graph_objects.proofs.CommitLemmas.{of_layer}
use Rattle.graph_objects.proofs.DigestLemmas.{matched, matched-id}

-- an element is the first, or one of the others
contains_first : {A : Type 0} (x : A) (xs : List A) → Contains (x ∷ xs) x
contains_first x xs = (0, omega arith, refl)

contains_later : {A : Type 0} (x y : A) (xs : List A) → Contains xs y → Contains (x ∷ xs) y
contains_later x y xs (k, within, is) = (suc k, omega (arith, within), is)

contains_cases : {A : Type 0} (x y : A) (xs : List A) → Contains (x ∷ xs) y → (x ≡ y) ⊎ Contains xs y
contains_cases x y xs there = by there.0 there.1 there.2
  where
    by : (k : ℕ) → k < length (x ∷ xs) → get_or (x ∷ xs) k y ≡ y → (x ≡ y) ⊎ Contains xs y
    by zero within is = inl is
    by (suc k) within is = inr (k, omega (arith, within), is)

-- a parent of the record is named by the commit
named : (ids : List (List ℕ)) (positions : List Position) (fault : Option ParentError) (said : List (List ℕ)) (q : ℕ)
    (id : List ℕ)
    → ids_of_items ids (map (λ pos. Ok pos) positions ++ fault_items fault) ≡ each_known said
    → Contains (map (λ (pos : Position). pos.0) positions) q
    → slice_get ids q ≡ Some id → Contains said id
named ids [] fault said q id same there is = absurd (omega (arith, there.1))
named ids (pos ∷ positions) fault [] q id same there is = cc same
named ids (pos ∷ positions) fault (s ∷ said) q id same there is = ⊎_elim
    (λ (here : pos.0 ≡ q).
    let first : slice_get ids pos.0 ≡ Some s = cc same in
    let e : s ≡ id = same_Some _ _ (sym first ∙ ap (slice_get ids) here ∙ is) in
    rw (← e) (contains_first s said))
    (λ (later : Contains (map (λ (pos : Position). pos.0) positions) q).
    contains_later s id said (named ids positions fault said q id (cc same) later is))
    (contains_cases pos.0 q (map (λ (pos : Position). pos.0) positions) there)

-- and what the commit names is a parent of the record
named_back : (ids : List (List ℕ)) (positions : List Position) (fault : Option ParentError) (said : List (List ℕ)) (id : List ℕ)
    → ids_of_items ids (map (λ pos. Ok pos) positions ++ fault_items fault) ≡ each_known said → Contains said id
    → (q : ℕ) × Contains (map (λ (pos : Position). pos.0) positions) q × (slice_get ids q ≡ Some id)
named_back ids [] None said id same there = absurd (none said same there)
  where
    none : (said : List (List ℕ)) → [] ≡ each_known said → ¬ (Contains said id)
    none [] same there = omega (arith, there.1)
    none (s ∷ said) same there = cc same
named_back ids [] (Some fault) said id same there = absurd (none said same)
  where
    none : (said : List (List ℕ)) → ¬ ((None ∷ []) ≡ each_known said)
    none [] same = cc same
    none (s ∷ said) same = cc same
named_back ids (pos ∷ positions) fault [] id same there = absurd (omega (arith, there.1))
named_back ids (pos ∷ positions) fault (s ∷ said) id same there = ⊎_elim
    (λ (here : s ≡ id).
    let first : slice_get ids pos.0 ≡ Some s = cc same in
    (pos.0, contains_first pos.0 (map (λ (pos : Position). pos.0) positions), first ∙ ap (λ i. Some i) here))
    (λ (later : Contains said id).
    let more = named_back ids positions fault said id (cc same) later in
    (more.0, contains_later pos.0 more.0 (map (λ (pos : Position). pos.0) positions) more.1, more.2))
    (contains_cases s id said there)

-- what is passed matches at its position
AllMatch-at : (layers : List Layer) (p : ℕ) (all : List (List ℕ)) (i : ℕ) (c : List ℕ) → AllMatch layers p all
    → slice_get all i ≡ Some c
    → MatchesAt layers (p + i) c
AllMatch-at layers p [] i c agree there = cc there
AllMatch-at layers p (first ∷ all) zero c agree there =
    let same : p + 0 ≡ p = omega arith in
    let is : first ≡ c = cc there in
    rw (same, ← is) agree.0.0
AllMatch-at layers p (first ∷ all) (suc i) c agree there =
    let same : p + suc i ≡ p + 1 + i = omega arith in
    rw same (AllMatch-at layers (p + 1) all i c agree.1 there)

module _ (layers : List Layer) (kind : Kind) (all : List (List ℕ)) (opened : All IsOpened layers)
    (alike : All (λ layer. layer.kind ≡ kind) layers)
    (agree : AllMatch layers 0 all) (whole : length all ≡ total layers) where
  -- the contents of the commit at a position
  abbrev at : ℕ → List ℕ
  at p = get_or all p []

  matches_at : (p : ℕ) → p < total layers → MatchesAt layers p (at p)
  matches_at p within =
      let same : 0 + p ≡ p = omega arith in
      rw same at (AllMatch-at layers 0 all p (at p) agree (slice_get-get_or all p [] (omega (arith, within, whole))))

  -- and its id
  id_of : (p : ℕ) → p < total layers → graph_id_at layers p ≡ object_id_of kind (at p)
  id_of p within =
      let h = matches_at p within in
      let m = matched layers p (at p) h in
      matched-id layers p (at p) h
      ∙ ap (λ k. object_id_of k (at p)) (of_layer (λ (l : Layer). l.kind ≡ kind) layers p m.1 m.0 alike m.2)

  id_there : (p : ℕ) → p < total layers → slice_get (graph_ids layers) p ≡ Some (graph_id_at layers p)
  id_there p within = slice_get-get_or (graph_ids layers) p [] (omega (arith, within, (counted layers).ids))

  within_graph : (p : ℕ) → p < length (history_of layers) → p < total layers
  within_graph p within = omega (arith, within, length-history layers opened)

  -- what is recorded of the commit at a position
  says_at : (p : ℕ) → p < total layers
      → (layer : Layer) × (pos : ℕ) × (slice_get (graph_commits layers) p ≡ Some (layer, pos)) × Matches layers layer pos (at p)
      × (layer.kind ≡ kind)
  says_at p within =
      let m = matched layers p (at p) (matches_at p within) in
      (m.0, m.1, m.2, m.3, of_layer (λ (l : Layer). l.kind ≡ kind) layers p m.1 m.0 alike m.2)

  names_parent : (p q : ℕ) → IsParent (history_of layers) p q → NamesParent kind (at p) (object_id_of kind (at q))
  names_parent p q parent =
      let m = says_at p (within_graph p parent.0) in
      let decoded = parents_of (record_at m.0 m.1) m.0.edges in
      let there : Contains (map (λ (pos : Position). pos.0) decoded.positions) q = rw (parents-at layers p m.1 m.0 opened m.2)
      at parent.2 in
      let q_within = within_graph q parent.1 in
      let is : slice_get (graph_ids layers) q ≡ Some (object_id_of kind (at q)) = id_there q q_within
      ∙ ap (λ i. Some i) (id_of q q_within) in (
        m.3.said,
        rw m.4 at m.3.says,
        named (graph_ids layers) decoded.positions decoded.fault m.3.said.parents q (object_id_of kind (at q))
            m.3.agree.parents there is,
      )

  is_parent : AreDistinct layers → (p q : ℕ) → p < total layers → q < total layers
      → NamesParent kind (at p) (object_id_of kind (at q))
      → IsParent (history_of layers) p q
  is_parent distinct p q p_within q_within names =
      let m = says_at p p_within in
      let decoded = parents_of (record_at m.0 m.1) m.0.edges in
      let same : names.0 ≡ m.3.said = says_one kind (at p) names.0 m.3.said names.1 (rw m.4 at m.3.says) in
      let there : Contains m.3.said.parents (object_id_of kind (at q)) = rw (ap (λ (s : Said). s.parents) same) at names.2 in
      let back = named_back (graph_ids layers) decoded.positions decoded.fault m.3.said.parents (object_id_of kind (at q))
      m.3.agree.parents there in
      let is : slice_get (graph_ids layers) q ≡ Some (object_id_of kind (at q)) = id_there q q_within
      ∙ ap (λ i. Some i) (id_of q q_within) in
      let one : back.0 ≡ q = distinct back.0 q (object_id_of kind (at q)) back.2 is in
      let found : Contains (map (λ (pos : Position). pos.0) decoded.positions) q = rw one at back.1 in
      let long = length-history layers opened in
      (omega (arith, p_within, long), omega (arith, q_within, long), rw (parents-at layers p m.1 m.0 opened m.2) found)

  contained : (p : ℕ) → p < total layers → Contains all (at p)
  contained p within = (p, omega (arith, within, whole), default)
    where
      default : get_or all p (at p) ≡ at p
      default = get_or_from_slice_get all p (at p) (at p) (slice_get-get_or all p [] (omega (arith, within, whole)))

  -- a walk over positions, by its commits
  commit_walk : (walk : List ℕ) → IsWalk (history_of layers) walk → IsCommitWalk kind all (map at walk)
  commit_walk [] walk = absurd walk
  commit_walk (p ∷ []) walk = contained p (within_graph p walk)
  commit_walk (p ∷ q ∷ rest) walk = (
    contained p (within_graph p walk.0.0),
    names_parent p q walk.0,
    commit_walk (q ∷ rest)
        walk.1,
  )

  first_within : (p : ℕ) (rest : List ℕ) → IsWalk (history_of layers) (p ∷ rest) → p < total layers
  first_within p [] walk = within_graph p walk
  first_within p (q ∷ rest) walk = within_graph p walk.0.0

  place_of : (bytes : List ℕ) → Contains all bytes → (p : ℕ) × (p < total layers) × (at p ≡ bytes)
  place_of bytes there =
      let within : there.0 < length all = there.1 in (
        there.0,
        omega (arith, within, whole),
        get_or_from_slice_get all there.0 bytes [] (slice_get-get_or all there.0 bytes within ∙ ap (λ b. Some b) there.2),
      )

  -- a walk over commits, by their positions
  abbrev OverPositions : List (List ℕ) → Type 0
  OverPositions commits = (walk : List ℕ) × IsWalk (history_of layers) walk × (map at walk ≡ commits)

  one_more : AreDistinct layers → (bytes next : List ℕ) (rest : List (List ℕ)) → Contains all bytes
      → NamesParent kind bytes (object_id_of kind next)
      → (walk : List ℕ) → IsWalk (history_of layers) walk → map at walk ≡ next ∷ rest → OverPositions (bytes ∷ next ∷ rest)
  one_more distinct bytes next rest there names [] walk same = absurd walk
  one_more distinct bytes next rest there names (q ∷ more) walk same =
      let p = place_of bytes there in
      let is_next : at q ≡ next = cc same in
      let names_at : NamesParent kind (at p.0) (object_id_of kind (at q)) = rw (p.2, is_next) names in
      (p.0 ∷ q ∷ more, (is_parent distinct p.0 q p.1 (first_within q more walk) names_at, walk), cc (p.2, same))

  over_positions : AreDistinct layers → (commits : List (List ℕ)) → IsCommitWalk kind all commits → OverPositions commits
  over_positions distinct [] walk = absurd walk
  over_positions distinct (bytes ∷ []) walk =
      let p = place_of bytes walk in
      (p.0 ∷ [], omega (arith, p.1, length-history layers opened), cc p.2)
  over_positions distinct (bytes ∷ next ∷ rest) walk =
      let over = over_positions distinct (next ∷ rest) walk.2 in
      one_more distinct bytes next rest walk.0 walk.1 over.0 over.1 over.2

  -- what stands at a place of a walk
  id_in_walk : (walk : List ℕ) (k p : ℕ) → p < total layers → slice_get walk k ≡ Some p
      → option_map (object_id_of kind) (slice_get (map at walk) k) ≡ Some (graph_id_at layers p)
  id_in_walk walk k p within there =
      ap (option_map (object_id_of kind)) (slice_get-map at walk k ∙ ap (option_map at) there)
      ∙ ap (λ i. Some i) (sym (id_of p within))

  all_within : (walk : List ℕ) (k p : ℕ) → IsWalk (history_of layers) walk → slice_get walk k ≡ Some p → p < total layers
  all_within [] k p walk there = absurd walk
  all_within (q ∷ []) zero p walk there = let same : q ≡ p = cc there in rw same at (within_graph q walk)
  all_within (q ∷ []) (suc k) p walk there = cc there
  all_within (q ∷ r ∷ rest) zero p walk there = let same : q ≡ p = cc there in rw same at (within_graph q walk.0.0)
  all_within (q ∷ r ∷ rest) (suc k) p walk there = all_within (r ∷ rest) k p walk.1 there

  pub leads : (p q : ℕ) → Reaches (history_of layers) p q → CommitsLead kind all (graph_id_at layers p) (graph_id_at layers q)
  leads p q reached =
      let walk = reached.0 in
      let between = reached.1 in
      record {
        walk = map at walk;
        is_walk = commit_walk walk between.is_walk;
        first = id_in_walk walk 0 p (all_within walk 0 p between.is_walk between.first) between.first;
        last = ap (λ n. option_map (object_id_of kind) (slice_get (map at walk) (n - 1))) (length-map walk at)
            ∙ id_in_walk walk (length walk - 1) q (all_within walk (length walk - 1) q between.is_walk between.last) between.last;
      }

  -- the position of a commit in a walk, by its id
  position_of : AreDistinct layers → (walk : List ℕ) (k p : ℕ) → IsWalk (history_of layers) walk → p < total layers
      → option_map (object_id_of kind) (slice_get (map at walk) k) ≡ Some (graph_id_at layers p) → slice_get walk k ≡ Some p
  position_of distinct walk k p is within same = by (slice_get walk k) refl
    where
      by : (o : Option ℕ) → slice_get walk k ≡ o → slice_get walk k ≡ Some p
      by None none = cc (sym same ∙ ap (option_map (object_id_of kind)) (slice_get-map at walk k ∙ ap (option_map at) none))
      by (Some r) there =
          let r_within = all_within walk k r is there in
          let ids : graph_id_at layers r ≡ graph_id_at layers p = same_Some _ _ (sym (id_in_walk walk k r r_within there)
          ∙ same) in
          there ∙ ap (λ i. Some i) (distinct r p (graph_id_at layers p) (id_there r r_within
          ∙ ap (λ i. Some i) ids) (id_there p within))

  pub reaches : AreDistinct layers → (p q : ℕ) → p < total layers → q < total layers
      → CommitsLead kind all (graph_id_at layers p) (graph_id_at layers q)
      → Reaches (history_of layers) p q
  reaches distinct p q p_within q_within lead =
      let over = over_positions distinct lead.walk lead.is_walk in
      let walk = over.0 in
      let first : option_map (object_id_of kind) (slice_get (map at walk) 0) ≡ Some (graph_id_at layers p) =
      ap (λ l. option_map (object_id_of kind) (slice_get l 0)) over.2 ∙ lead.first in
      let last : option_map (object_id_of kind) (slice_get (map at walk) (length walk - 1)) ≡ Some (graph_id_at layers q) =
      ap (λ n. option_map (object_id_of kind) (slice_get (map at walk) (n - 1))) (sym (length-map walk at))
      ∙ ap (λ l. option_map (object_id_of kind) (slice_get l (length l - 1))) over.2 ∙ lead.last in (
        walk,
        record {
          is_walk = over.1;
          first = position_of distinct walk 0 p over.1 p_within first;
          last = position_of distinct walk (length walk - 1) q over.1 q_within last;
        },
      )
