-- What both parent fields of a commit say, in a right graph.
use Rattle.std.proofs.Common.{◌≡◌, ◌⊎◌, ℕ, List, [], ◌∷◌, map, Contains, Option, Some, None, refl, sym, ap}
use Rattle.std.proofs.Common.{◌∙◌, subst, inl, inr, ⊎_elim, arith}
use Rattle.std.specs.Option.{option_map_or}
use Rattle.graph_walks.specs.History.{IsParent}
use Rattle.graph_format.specs.Format.{words}
use Rattle.graph_format.specs.Layer.{Layer}
use Rattle.graph_format.specs.StoredHistory.{history_of}
use Rattle.graph_format.specs.Parents.{both_parents}
use Rattle.graph_format.specs.declared.Position.{Position}
use Rattle.graph_format.specs.declared.parents.ParentEdge.{ParentEdge}
use Rattle.graph_format.specs.declared.parents.ParentEdge.TheVariants as edge
use Rattle.gix_commitgraph.specs.GraphLaw.{LiesIn}
use Rattle.commit_search.specs.EdgeLists.{list_of, list_in, named_from}
use Rattle.graph_ancestors.specs.Commits.{IsReading, NamesParents, Names, AreParentFields}
use Rattle.commit_search.proofs.EdgeListLemmas.{head_contained, tail_contained, contained_cases}

-- the fields of the commit at p, in the layer in which it lies
module _ (layers : List Layer) (p l : ℕ) (layer : Layer) (lies : LiesIn layers p l layer)
    (only : (i : ℕ) (other : Layer) → LiesIn layers p i other → i ≡ l) where
  list_is : (i : ℕ) (other : Layer) → LiesIn layers p i other → list_in layers i ≡ list_of layer
  list_is i other at =
      ap (list_in layers) (only i other at) ∙ ap (λ o. option_map_or list_of o []) lies.there

  first_names : (first second : ParentEdge) → (both_parents first second layer.edges).fault ≡ None
      → ((q : ℕ) → Contains (map (λ (pos : Position). pos.0) (both_parents first second layer.edges).positions) q
      → IsParent (history_of layers) p q) → NamesParents layers p first
  first_names edge.None second decoded parents = tt
  first_names (edge.GraphPosition pos) second decoded parents = parents pos.0 (head_contained pos.0 _)
  first_names (edge.ExtraEdgeIndex index) second decoded parents = absurd (cc)

  reading : (edges : Option (List ℕ)) (first : Position) (index i : ℕ) (other : Layer) → LiesIn layers p i other
      → option_map_or words edges [] ≡ list_of layer
      → (both_parents (edge.GraphPosition first) (edge.ExtraEdgeIndex index) edges).fault ≡ None
      → ((q : ℕ) → Contains (map (λ (pos : Position). pos.0)
      (both_parents (edge.GraphPosition first) (edge.ExtraEdgeIndex index) edges).positions) q → IsParent (history_of layers) p q)
      → IsReading (history_of layers) (list_in layers i) p index
  reading None first index i other at is decoded parents = absurd (cc)
  reading (Some bytes) first index i other at is decoded parents =
      subst (λ (xs : List ℕ). IsReading (history_of layers) xs p index) (is ∙ sym (list_is i other at))
      (record {
        decoded = decoded;
        parents = λ q contained.
            parents q (tail_contained first.0 q (named_from (words bytes) index) contained);
      })

  second_names : (first second : ParentEdge) → (both_parents first second layer.edges).fault ≡ None
      → ((q : ℕ) → Contains (map (λ (pos : Position). pos.0) (both_parents first second layer.edges).positions) q
      → IsParent (history_of layers) p q) → NamesParents layers p second
  second_names first edge.None decoded parents = tt
  second_names edge.None (edge.GraphPosition pos) decoded parents = absurd (cc)
  second_names edge.None (edge.ExtraEdgeIndex index) decoded parents = absurd (cc)
  second_names (edge.ExtraEdgeIndex at) (edge.GraphPosition pos) decoded parents = absurd (cc)
  second_names (edge.ExtraEdgeIndex at) (edge.ExtraEdgeIndex index) decoded parents = absurd (cc)
  second_names (edge.GraphPosition first) (edge.GraphPosition pos) decoded parents =
      parents pos.0 (tail_contained first.0 pos.0 (pos.0 ∷ []) (head_contained pos.0 []))
  second_names (edge.GraphPosition first) (edge.ExtraEdgeIndex index) decoded parents = λ i other at.
      reading layer.edges first index i other at refl decoded parents

  listed_named : (edges : Option (List ℕ)) (first : Position) (index q : ℕ) → option_map_or words edges [] ≡ list_of layer
      → Contains (map (λ (pos : Position). pos.0)
      (both_parents (edge.GraphPosition first) (edge.ExtraEdgeIndex index) edges).positions) q
      → (first.0 ≡ q) ⊎ Names layers p (edge.ExtraEdgeIndex index) q
  listed_named None first index q is contained =
      ⊎_elim
      (λ (same : first.0 ≡ q). inl same)
      (λ (none : Contains [] q). absurd (omega (arith, none.1)))
      (contained_cases first.0 q [] contained)
  listed_named (Some bytes) first index q is contained =
      ⊎_elim
      (λ (same : first.0 ≡ q). inl same)
      (λ (later : Contains (named_from (words bytes) index) q).
      inr (l, layer, lies, subst (λ (xs : List ℕ). Contains (named_from xs index) q) (is ∙ sym (list_is l layer lies)) later))
      (contained_cases first.0 q (named_from (words bytes) index) contained)

  all_named : (first second : ParentEdge) (q : ℕ)
      → Contains (map (λ (pos : Position). pos.0) (both_parents first second layer.edges).positions) q
      → Names layers p first q ⊎ Names layers p second q
  all_named edge.None edge.None q contained = absurd (omega (arith, contained.1))
  all_named edge.None (edge.GraphPosition pos) q contained = absurd (omega (arith, contained.1))
  all_named edge.None (edge.ExtraEdgeIndex index) q contained = absurd (omega (arith, contained.1))
  all_named (edge.ExtraEdgeIndex index) second q contained = absurd (omega (arith, contained.1))
  all_named (edge.GraphPosition first) edge.None q contained =
      ⊎_elim
      (λ (same : first.0 ≡ q). inl same)
      (λ (none : Contains [] q). absurd (omega (arith, none.1)))
      (contained_cases first.0 q [] contained)
  all_named (edge.GraphPosition first) (edge.GraphPosition pos) q contained =
      ⊎_elim
      (λ (same : first.0 ≡ q). inl same)
      (λ (later : Contains (pos.0 ∷ []) q).
      ⊎_elim
      (λ (same : pos.0 ≡ q). inr same)
      (λ (none : Contains [] q). absurd (omega (arith, none.1)))
      (contained_cases pos.0 q [] later))
      (contained_cases first.0 q (pos.0 ∷ []) contained)
  all_named (edge.GraphPosition first) (edge.ExtraEdgeIndex index) q contained =
      listed_named layer.edges first index q refl contained

  -- what both fields say, where together they name the parents of the commit
  pub fields_told : (fields : ParentEdge × ParentEdge) (first second : ParentEdge) → fields.0 ≡ first → fields.1 ≡ second
      → (both_parents first second layer.edges).fault ≡ None
      → ((q : ℕ) → Contains (map (λ (pos : Position). pos.0) (both_parents first second layer.edges).positions) q
      → IsParent (history_of layers) p q)
      × ((q : ℕ) → IsParent (history_of layers) p q
      → Contains (map (λ (pos : Position). pos.0) (both_parents first second layer.edges).positions) q)
      → AreParentFields layers p fields
  fields_told fields first second is_first is_second decoded parents = rw (is_first, is_second) (record {
    first = first_names first second decoded parents.0;
    second = second_names first second decoded parents.0;
    all = λ q parent. all_named first second q (parents.1 q parent);
  })
