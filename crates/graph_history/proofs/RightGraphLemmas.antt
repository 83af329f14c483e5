-- Lookups in a right graph, and the parents of its commits.
use Rattle.std.proofs.Common.{◌≡◌, ℕ, ◌<◌, List, [], ◌∷◌, ◌++◌, All, IfSome, MatchOption, Option, Some, None, Result, Ok, Err}
use Rattle.std.proofs.Common.{map, slice_get, refl, sym, ap, subst, ◌∙◌, arith}
use Rattle.std.specs.Result.{IsOk}
use Rattle.std.proofs.lemmas.List.{append-nil}
use Rattle.std.proofs.lemmas.List.Elements.{All-cons, All-head, All-nil, All-tail}
use Rattle.std.proofs.lemmas.Option.{slice_get_within}
use Rattle.graph_format.specs.Layer.{Layer}
use Rattle.graph_format.specs.Parents.{DecodedParents, fault_items, items_of}
use Rattle.graph_format.specs.declared.Position.{Position}
use Rattle.graph_format.specs.declared.parents.ParentError.{ParentError}
use Rattle.gix_commitgraph.specs.Graph.{graph_ids, total}
use Rattle.gix_commitgraph.specs.GraphLaw.{AreCounted}
use Rattle.graph_history.specs.RightGraph.{positions_among}

-- a position that holds an id is one of the graph's
pub held_within : (layers : List Layer) (id : List ℕ) (found : Option Position) → AreCounted layers
    → IfSome found (λ pos. slice_get (graph_ids layers) pos.0 ≡ Some id) → IfSome found (λ pos. pos.0 < total layers)
held_within layers id None counted holds = holds
held_within layers id (Some pos) counted holds = omega (arith, slice_get_within (graph_ids layers) pos.0 id holds, counted.ids)

abbrev Items : Type 0
Items = List (Result Position ParentError)

abbrev given : List Position → Items
given positions = map (λ pos. Ok pos) positions

among-given : (positions : List Position) → positions_among (given positions) ≡ positions
among-given [] = refl
among-given (pos ∷ positions) = ap (λ (rest : List Position). pos ∷ rest) (among-given positions)

-- parents without a fault are given as they are
items_of-faultless : (parents : DecodedParents) → parents.fault ≡ None → items_of parents ≡ given parents.positions
items_of-faultless parents none =
    ap (λ (fault : Option ParentError). given parents.positions ++ fault_items fault) none ∙ append-nil (given parents.positions)

pub items_given : (items : Items) (parents : DecodedParents) → parents.fault ≡ None → items ≡ items_of parents
    → items ≡ given (positions_among items)
items_given items parents none is =
    let all : items ≡ given parents.positions = is ∙ items_of-faultless parents none in
    all ∙ ap given (sym (ap positions_among all ∙ among-given parents.positions))

pub among-items : (items : Items) (parents : DecodedParents) → parents.fault ≡ None → items ≡ items_of parents
    → positions_among items ≡ parents.positions
among-items items parents none is =
    ap positions_among (is ∙ items_of-faultless parents none) ∙ among-given parents.positions

pub all_within : (bound : ℕ) (positions : List Position) → All (λ q. q < bound) (map (λ (pos : Position). pos.0) positions)
    → All (λ (pos : Position). pos.0 < bound) positions
all_within bound [] within = All-nil (λ (pos : Position). pos.0 < bound)
all_within bound (pos ∷ positions) within =
    let numbers = map (λ (q : Position). q.0) positions in
    All-cons (λ (q : Position). q.0 < bound) pos positions (All-head (λ q. q < bound) pos.0 numbers within)
    (all_within bound positions (All-tail (λ q. q < bound) pos.0 numbers within))

-- One call of the iterator over the parents, from what was left of the items to what is left.

rest_of : {A : Type 0} → List A → List A
rest_of [] = []
rest_of (x ∷ xs) = xs

no_error_among : (e : ParentError) (rest : Items) (positions : List Position) → Err e ∷ rest ≡ given positions → ⊥
no_error_among e rest [] is = cc
no_error_among e rest (pos ∷ positions) is = cc

module _ (old new : Items) (all : old ≡ given (positions_among old)) where
  pub rest_given : (item : Option (Result Position ParentError))
      → MatchOption item ((old ≡ []) × (new ≡ [])) (λ x. old ≡ x ∷ new) → new ≡ given (positions_among new)
  unfolding rest_of
  rest_given None steps = subst (λ (items : Items). items ≡ given (positions_among items)) (sym steps.1) refl
  rest_given (Some (Ok pos)) steps =
      ap rest_of (subst (λ (items : Items). items ≡ given (positions_among items)) steps all)
  rest_given (Some (Err e)) steps =
      absurd (no_error_among e new (positions_among old) (sym steps ∙ all))

  -- no item is an error
  pub is_given : (item : Result Position ParentError) → old ≡ item ∷ new → IsOk item
  is_given (Ok pos) is = refl
  is_given (Err e) is = absurd (no_error_among e new (positions_among old) (sym is ∙ all))
