-- laws of counting parents
use Rattle.std.proofs.Common.{◌≡◌, ℕ, zero, suc, ◌+◌, ◌/◌, ◌^◌, ◌<◌, ◌≤◌, List, [], ◌∷◌, length, drop, Option, Some, None, IfSome}
use Rattle.std.proofs.Common.{Result, Ok, Err, refl, ap, arith, length-drop, lit≤, lit<}
use Rattle.graph_format.specs.Format.{Record, words}
use Rattle.graph_format.specs.Layer.{Layer}
use Rattle.graph_format.specs.Parents.{DecodedParents, items_of, edge_of, extra_edge_of, extra_parent, listed, second_parents}
use Rattle.graph_format.specs.Parents.{both_parents, parents_of}
use Rattle.graph_format.specs.declared.Position.{Position}
use Rattle.graph_format.specs.declared.parents.ParentError.{ParentError}
use Rattle.graph_format.specs.declared.parents.ParentEdge.{ParentEdge}
use Rattle.graph_format.specs.declared.parents.ParentEdge.TheVariants as edge
use Rattle.graph_format.specs.declared.parents.ParentEdge.TheVariants.{GraphPosition, ExtraEdgeIndex}
use Rattle.graph_format.specs.declared.parents.ExtraEdge.TheVariants.{Internal, Last}
use Rattle.graph_layer.proofs.ListedParentLemmas.{length-words}

-- parents without the first n
abbrev pub after : ℕ → DecodedParents → DecodedParents
after n parents = record { positions = drop n parents.positions; fault = parents.fault }

-- The items after n parents begin with one more, and these come after it.
pub record IsNext (n : ℕ) (parents : DecodedParents) (items : List (Result Position ParentError)) : Type 0 where
  pub left : items ≡ items_of (after (n + 1) parents)
  pub within : n + 1 ≤ length parents.positions

next_of : (n : ℕ) (positions : List Position) (fault : Option ParentError) (pos : Position)
    (items : List (Result Position ParentError))
    → Ok pos ∷ items ≡ items_of (record { positions = drop n positions; fault = fault })
    → IsNext n (record { positions = positions; fault = fault }) items
next_of zero [] None pos items h = cc h
next_of zero [] (Some error) pos items h = cc h
next_of (suc n) [] None pos items h = cc h
next_of (suc n) [] (Some error) pos items h = cc h
next_of zero (p ∷ positions) fault pos items h = record { left = cc; within = omega arith }
next_of (suc n) (p ∷ positions) fault pos items h =
    let rest = next_of n positions fault pos items h in
    let more : suc n + 1 ≡ suc (n + 1) = omega arith in
    record { left = rw more rest.left; within = omega (arith, rest.within) }

pub after-next : (parents : DecodedParents) (n : ℕ) (pos : Position) (items : List (Result Position ParentError))
    → Ok pos ∷ items ≡ items_of (after n parents) → IsNext n parents items
after-next parents n pos items h = next_of n parents.positions parents.fault pos items h

fault_of : (positions : List Position) (fault : Option ParentError) (error : ParentError)
    (items : List (Result Position ParentError))
    → Err error ∷ items ≡ items_of (record { positions = positions; fault = fault }) → fault ≡ Some error
fault_of [] None error items h = cc
fault_of [] (Some other) error items h = cc
fault_of (p ∷ positions) fault error items h = cc

-- the items after n parents begin with the fault
pub after-fault : (parents : DecodedParents) (n : ℕ) (error : ParentError) (items : List (Result Position ParentError))
    → Err error ∷ items ≡ items_of (after n parents) → parents.fault ≡ Some error
after-fault parents n error items h = fault_of (drop n parents.positions) parents.fault error items h

end_of : (n : ℕ) (positions : List Position) (fault : Option ParentError) → n ≤ length positions
    → [] ≡ items_of (record { positions = drop n positions; fault = fault })
    → (n ≡ length positions) × (fault ≡ None)
end_of zero [] None within h = (refl, refl)
end_of zero [] (Some error) within h = cc h
end_of zero (p ∷ positions) fault within h = cc h
end_of (suc n) [] fault within h = absurd (omega (arith, within))
end_of (suc n) (p ∷ positions) fault within h =
    let rest = end_of n positions fault (omega (arith, within)) h in
    (ap suc rest.0, rest.1)

-- no items are left after n parents
pub after-end : (parents : DecodedParents) (n : ℕ) → n ≤ length parents.positions → [] ≡ items_of (after n parents)
    → (n ≡ length parents.positions) × (parents.fault ≡ None)
after-end parents n within h = end_of n parents.positions parents.fault within h

-- words give no more parents than there are words
pub listed-few : (ws : List ℕ) → length (listed ws).positions ≤ length ws
listed-few [] = lit≤ tt
listed-few (word ∷ rest) =
    let few = listed-few rest in
    elim (extra_edge_of word) as (λ e. length (extra_parent e (listed rest)).positions ≤ suc (length rest)) [
      | Internal pos ↦ omega (arith, few)
      | Last pos ↦ omega arith
    ]

-- the bytes have few words
abbrev pub HasFew : Option (List ℕ) → Type 0
HasFew edges = IfSome edges (λ chunk. length chunk / 4 ≤ 4294967294)

-- what the second field gives are few parents
pub second-few : (second : ParentEdge) (edges : Option (List ℕ)) → HasFew edges
    → length (second_parents second edges).positions ≤ 4294967294
second-few edge.None edges few = lit≤ tt
second-few (GraphPosition pos) edges few = lit≤ tt
second-few (ExtraEdgeIndex index) None few = lit≤ tt
second-few (ExtraEdgeIndex index) (Some bytes) few =
    omega (arith, listed-few (drop index (words bytes)), length-drop index (words bytes), length-words bytes, few)

-- nor are those of both fields more than 32 bits hold
pub both-few : (first second : ParentEdge) (edges : Option (List ℕ)) → HasFew edges
    → length (both_parents first second edges).positions < 2 ^ 32
both-few edge.None edge.None edges few = lit< tt
both-few edge.None (GraphPosition pos) edges few = lit< tt
both-few edge.None (ExtraEdgeIndex index) edges few = lit< tt
both-few (ExtraEdgeIndex index) second edges few = lit< tt
both-few (GraphPosition pos) second edges few = omega (arith, second-few second edges few)

-- the parents of a commit in a layer are so few that 32 bits hold their number
pub few_parents : (layer : Layer) (r : Record) → HasFew layer.edges → length (parents_of r layer.edges).positions < 2 ^ 32
few_parents layer r few = both-few (edge_of r.parent1) (edge_of r.parent2) layer.edges few
