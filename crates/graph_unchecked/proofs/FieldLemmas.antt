-- what the parent fields of a record name, where they can be decoded
use Rattle.std.proofs.Common.{◌≡◌, ℕ, ◌<◌, List, [], ◌∷◌, length, map, Contains, Option, Some, None, sym, subst}
use Rattle.std.proofs.Common.{inl, inr, ⊎_elim, arith}
use Rattle.std.specs.Option.{option_map_or}
use Rattle.graph_walks.specs.History.{Node, parents_at}
use Rattle.graph_format.specs.Format.{words}
use Rattle.graph_format.specs.Parents.{DecodedParents, both_parents, followed_by, second_parents}
use Rattle.graph_format.specs.declared.Position.{Position}
use Rattle.graph_format.specs.declared.parents.ParentEdge.{ParentEdge}
use Rattle.graph_format.specs.declared.parents.ParentEdge.TheVariants as edge
use Rattle.commit_search.specs.EdgeLists.{named_from}
use Rattle.commit_search.specs.Source.{AreFieldsTold, FieldNames, IsFieldTrue, IsFieldWithin, Told}
use Rattle.commit_search.proofs.EdgeListLemmas.{contained_cases, head_contained, named_past, tail_contained}
use Rattle.graph_unchecked.specs.PartSource.{AreFieldsThere}

-- the decoded parents as numbers
abbrev pub named_by_fields : DecodedParents → List ℕ
named_by_fields parents = map (λ (pos : Position). pos.0) parents.positions

none-named : (q : ℕ) → Contains {X = ℕ} [] q → ⊥
none-named q (k, lt, at) = omega (arith, lt)

-- the parents that a list names are those of the field
listed-in : (edges : Option (List ℕ)) (index q : ℕ) → Contains (named_from (option_map_or words edges []) index) q
    → Contains (named_by_fields (second_parents (edge.ExtraEdgeIndex index) edges)) q
listed-in None index q contained =
    subst (λ (xs : List ℕ). Contains xs q) (named_past [] index (omega arith)) contained
listed-in (Some bytes) index q contained = contained

listed-out : (edges : Option (List ℕ)) (index q : ℕ)
    → Contains (named_by_fields (second_parents (edge.ExtraEdgeIndex index) edges)) q
    → Contains (named_from (option_map_or words edges []) index) q
listed-out None index q contained = absurd (none-named q contained)
listed-out (Some bytes) index q contained = contained

module _ (history : List Node) (p : ℕ) (edges : Option (List ℕ)) (lists : ℕ → List ℕ) (Lies : ℕ → Type 0)
    (here : p < length history) (list : (l : ℕ) → Lies l → lists l ≡ option_map_or words edges []) where
  told : Told
  told = record { history = history; lists = lists }

  second-true : (first : Position) (words_of : ℕ) (second : ParentEdge)
      → parents_at history p ≡ named_by_fields (followed_by first (second_parents second edges))
      → IsFieldWithin (length history) (λ index. index < words_of) second
      → IsFieldTrue (record { history = history; lists = lists }) Lies p second
  second-true first words_of edge.None at within = tt
  second-true first words_of (edge.GraphPosition pos) at within = (
    here,
    within,
    subst (λ (xs : List ℕ). Contains xs pos.0) (sym at)
        (tail_contained first.0 pos.0 (pos.0 ∷ []) (head_contained pos.0 [])),
  )
  second-true first words_of (edge.ExtraEdgeIndex index) at within = λ l lies q contained below. (
    here,
    below,
    subst (λ (xs : List ℕ). Contains xs q) (sym at)
        (tail_contained first.0 q (named_by_fields (second_parents (edge.ExtraEdgeIndex index) edges))
        (listed-in edges index q (subst (λ (xs : List ℕ). Contains (named_from xs index) q) (list l lies) contained))),
  )

  second-names : (second : ParentEdge) (q : ℕ) → Contains (named_by_fields (second_parents second edges)) q
      → FieldNames lists Lies second q
  second-names edge.None q contained = none-named q contained
  second-names (edge.GraphPosition pos) q contained =
      ⊎_elim
      (λ (is : pos.0 ≡ q). is)
      (λ (more : Contains [] q). absurd (none-named q more))
      (contained_cases pos.0 q [] contained)
  second-names (edge.ExtraEdgeIndex index) q contained = λ l lies.
      subst (λ (xs : List ℕ). Contains (named_from xs index) q) (sym (list l lies)) (listed-out edges index q contained)

  pub fields-told : (words_of : ℕ) (first second : ParentEdge)
      → parents_at history p ≡ named_by_fields (both_parents first second edges)
      → AreFieldsThere (length history) words_of first second
      → AreFieldsTold (record { history = history; lists = lists }) Lies p (first, second)
  fields-told words_of edge.None second at is =
      let none : parents_at history p ≡ [] =
      subst (λ (f : ParentEdge). parents_at history p ≡ named_by_fields (both_parents edge.None f edges)) is at in
      record {
        first = tt;
        second = subst (IsFieldTrue (record { history = history; lists = lists }) Lies p) (sym is) tt;
        all = λ q parent. absurd (none-named q (subst (λ (xs : List ℕ). Contains xs q) none parent.2));
      }
  fields-told words_of (edge.GraphPosition pos) second at is = record {
    first = (
      here,
      is.0,
      subst (λ (xs : List ℕ). Contains xs pos.0) (sym at)
          (head_contained pos.0 (named_by_fields (second_parents second edges))),
    );
    second = second-true pos words_of second at is.1;
    all = λ q parent.
        ⊎_elim
        (λ (first : pos.0 ≡ q). inl first)
        (λ (more : Contains (named_by_fields (second_parents second edges)) q). inr (second-names second q more))
        (contained_cases pos.0 q (named_by_fields (second_parents second edges))
        (subst (λ (xs : List ℕ). Contains xs q) at parent.2));
  }
  fields-told words_of (edge.ExtraEdgeIndex index) second at is = absurd is

-- they name some of so many commits, and words that are listed
module _ (count words_of : ℕ) (Listed : ℕ → Type 0) (listed : (index : ℕ) → index < words_of → Listed index) where
  pub first-within : (first second : ParentEdge) → AreFieldsThere count words_of first second → IsFieldWithin count Listed first
  first-within edge.None second is = tt
  first-within (edge.GraphPosition pos) second is = is.0
  first-within (edge.ExtraEdgeIndex index) second is = absurd is

  field-within : (field : ParentEdge) → IsFieldWithin count (λ index. index < words_of) field → IsFieldWithin count Listed field
  field-within edge.None is = tt
  field-within (edge.GraphPosition pos) is = is
  field-within (edge.ExtraEdgeIndex index) is = listed index is

  pub second-within : (first second : ParentEdge) → AreFieldsThere count words_of first second
      → IsFieldWithin count Listed second
  second-within edge.None second is = subst (IsFieldWithin count Listed) (sym is) tt
  second-within (edge.GraphPosition pos) second is = field-within second is.1
  second-within (edge.ExtraEdgeIndex index) second is = absurd is
