-- The fields of a record follow from the parents that it says.
use Rattle.std.proofs.Common.{◌≡◌, ℕ, ◌+◌, ◌-◌, ◌<◌, ◌≤◌, Bool, true, false, List, [], ◌∷◌, map, length, Option, Some}
use Rattle.std.proofs.Common.{refl, sym, ap, ◌∙◌, subst, arith}
use Rattle.std.specs.Prelude.{◌==◌, nat_lt, if◌then◌else◌}
use Rattle.std.proofs.lemmas.Bool.{eqb-true, ltb-false}
use Rattle.std.proofs.lemmas.Option.{none-some}
use Rattle.graph_format.specs.Parents.{DecodedParents, edge_of, position_of, second_parents}
use Rattle.graph_format.specs.Parents.{both_parents}
use Rattle.graph_format.specs.declared.Position.{Position}
use Rattle.graph_format.specs.declared.parents.ParentEdge.{ParentEdge}
use Rattle.graph_format.specs.declared.parents.ParentEdge.TheVariants as edge
use Rattle.graph_format.specs.declared.parents.ParentError.{ParentError}
use Rattle.graph_encoder.specs.ExtraEdges.{no_parent, top_bit, first_field, second_field}
use Rattle.graph_encoder.specs.Said.{planned_parents}

-- what a field is, by what it names
IsField : ℕ → ParentEdge → Type 0
IsField field edge.None = field ≡ no_parent
IsField field (edge.GraphPosition pos) = pos.0 ≡ field
IsField field (edge.ExtraEdgeIndex index) = top_bit ≤ field

is-field : (field : ℕ) → IsField field (edge_of field)
unfolding IsField
is-field field = by-cases (field == no_parent) (nat_lt field top_bit) refl refl
  where
    by-cases : (none low : Bool) → (field == no_parent) ≡ none → nat_lt field top_bit ≡ low
        → IsField field (if none then edge.None
        else (if low then edge.GraphPosition (position_of field) else edge.ExtraEdgeIndex (field - top_bit)))
    by-cases true low is less = eqb-true field no_parent is
    by-cases false true is less = refl
    by-cases false false is less = ltb-false field top_bit less

fault-of : (a : DecodedParents) (error : ParentError) (ps : List ℕ) → a.fault ≡ Some error → a ≡ planned_parents ps → ⊥
fault-of a error ps is same = none-some error (sym (ap (λ (d : DecodedParents). d.fault) same) ∙ is)

-- the positions, as numbers
numbers : DecodedParents → List ℕ
numbers d = map (λ (pos : Position). pos.0) d.positions

planned-numbers : (ps : List ℕ) → numbers (planned_parents ps) ≡ ps
unfolding numbers
planned-numbers [] = refl
planned-numbers (p ∷ ps) = ap (λ (xs : List ℕ). p ∷ xs) (planned-numbers ps)

module _ (first second index : ℕ) (edges : Option (List ℕ)) where
  AreFields : List ℕ → Type 0
  AreFields ps = (first ≡ first_field ps) × (second ≡ second_field index ps)

  -- by what the fields name
  by-edges : (a b : ParentEdge) → IsField first a → IsField second b → (ps : List ℕ)
      → both_parents a b edges ≡ planned_parents ps → (2 < length ps → second ≡ top_bit + index)
      → (length ps ≤ 2 → second < top_bit) → AreFields ps
  unfolding IsField AreFields numbers
  by-edges edge.None edge.None is_a is_b ps same extra direct =
      let none : [] ≡ ps = ap numbers same ∙ planned-numbers ps in
      subst (λ (xs : List ℕ). (first ≡ first_field xs) × (second ≡ second_field index xs)) none (is_a, is_b)
  by-edges edge.None (edge.GraphPosition pos) is_a is_b ps same extra direct = absurd (fault-of _ _ ps refl same)
  by-edges edge.None (edge.ExtraEdgeIndex k) is_a is_b ps same extra direct = absurd (fault-of _ _ ps refl same)
  by-edges (edge.ExtraEdgeIndex k) b is_a is_b ps same extra direct = absurd (fault-of _ _ ps refl same)
  by-edges (edge.GraphPosition pos) edge.None is_a is_b ps same extra direct =
      let one : pos.0 ∷ [] ≡ ps = ap numbers same ∙ planned-numbers ps in
      subst (λ (xs : List ℕ). (first ≡ first_field xs) × (second ≡ second_field index xs)) one (sym is_a, is_b)
  by-edges (edge.GraphPosition pos) (edge.GraphPosition other) is_a is_b ps same extra direct =
      let two : pos.0 ∷ other.0 ∷ [] ≡ ps = ap numbers same ∙ planned-numbers ps in
      subst (λ (xs : List ℕ). (first ≡ first_field xs) × (second ≡ second_field index xs)) two (sym is_a, sym is_b)
  by-edges (edge.GraphPosition pos) (edge.ExtraEdgeIndex k) is_a is_b ps same extra direct =
      many ps (ap numbers same ∙ planned-numbers ps) extra direct
    where
      many : (xs : List ℕ) → pos.0 ∷ numbers (second_parents (edge.ExtraEdgeIndex k) edges) ≡ xs
          → (2 < length xs → second ≡ top_bit + index) → (length xs ≤ 2 → second < top_bit)
          → (first ≡ first_field xs) × (second ≡ second_field index xs)
      many [] e extra direct = cc
      many (p ∷ []) e extra direct = absurd (omega (arith, is_b, direct (omega arith)))
      many (p ∷ q ∷ []) e extra direct = absurd (omega (arith, is_b, direct (omega arith)))
      many (p ∷ q ∷ r ∷ more) e extra direct = let same_first : pos.0 ≡ p = cc in (sym is_a ∙ same_first, extra (omega arith))

pub fields-said : (first second index : ℕ) (edges : Option (List ℕ)) (ps : List ℕ)
    → both_parents (edge_of first) (edge_of second) edges ≡ planned_parents ps → (2 < length ps → second ≡ top_bit + index)
    → (length ps ≤ 2 → second < top_bit) → (first ≡ first_field ps) × (second ≡ second_field index ps)
unfolding AreFields
fields-said first second index edges ps same extra direct =
    by-edges first second index edges (edge_of first) (edge_of second) (is-field first) (is-field second) ps same extra direct
