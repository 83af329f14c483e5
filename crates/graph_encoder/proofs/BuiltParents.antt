-- the parents that a commit's fields and the extra words say
use Rattle.std.proofs.Common.{◌≡◌, ℕ, ◌+◌, ◌<◌, List, [], ◌∷◌, ◌++◌, length, drop, Option, All, refl, ap, ◌∙◌, arith}
use Rattle.std.proofs.Common.{length-append}
use Rattle.std.proofs.lemmas.Bool.{lt-ltb, le-ltb, ne_eqb}
use Rattle.std.proofs.lemmas.List.{drop_at}
use Rattle.graph_format.specs.declared.parents.ParentEdge.TheVariants as edge
use Rattle.graph_format.specs.Parents.{DecodedParents, edge_of, no_parents, followed_by, listed, second_parents, both_parents}
use Rattle.graph_encoder.specs.ExtraEdges.{no_parent, top_bit, listed_words, extra_words, first_field, second_field}
use Rattle.graph_encoder.specs.Said.{planned_parents}
use Rattle.graph_encoder.proofs.Pieces.{All-first, All-others}

edge_of-position : (p : ℕ) → p < no_parent → edge_of p ≡ edge.GraphPosition (record { 0 = p })
edge_of-position p h = rw (ne_eqb p no_parent (λ e. omega (arith, e, h)), lt-ltb p top_bit (omega (arith, h))) refl

edge_of-index : (k : ℕ) → edge_of (top_bit + k) ≡ edge.ExtraEdgeIndex k
edge_of-index k =
    rw (ne_eqb (top_bit + k) no_parent (λ e. omega (arith, e)), le-ltb (top_bit + k) top_bit (omega arith))
    (ap (λ (n : ℕ). edge.ExtraEdgeIndex n) (omega arith))

-- a listing says its parents
listed-listed_words : (parent : ℕ) (more rest : List ℕ) → All (λ p. p < no_parent) (parent ∷ more)
    → listed (listed_words parent more ++ rest) ≡ planned_parents (parent ∷ more)
listed-listed_words parent [] rest h =
    rw (le-ltb (top_bit + parent) top_bit (omega arith))
    (ap (λ (n : ℕ). followed_by (record { 0 = n }) no_parents) (omega arith))
listed-listed_words parent (next ∷ more) rest h =
    let first : parent < no_parent = All-first (λ p. p < no_parent) parent (next ∷ more) h in
    rw (lt-ltb parent top_bit (omega (arith, first)))
    (ap (λ (ps : DecodedParents). followed_by (record { 0 = parent }) ps)
    (listed-listed_words next more rest (All-others (λ p. p < no_parent) parent (next ∷ more) h)))

-- The edges hold these words: an index of one names the listing from it on.
abbrev pub Hold : Option (List ℕ) → List ℕ → Type 0
Hold edges words = (k : ℕ) → k < length words → second_parents (edge.ExtraEdgeIndex k) edges ≡ listed (drop k words)

-- the fields of a commit, whose extra words come after others, say its parents
pub both_parents-fields : (parents before after : List ℕ) (edges : Option (List ℕ)) → All (λ p. p < no_parent) parents
    → Hold edges (before ++ (extra_words parents ++ after))
    → both_parents (edge_of (first_field parents)) (edge_of (second_field (length before) parents)) edges
    ≡ planned_parents parents
both_parents-fields [] before after edges h e = refl
both_parents-fields (first ∷ []) before after edges h e =
    rw (edge_of-position first (All-first (λ p. p < no_parent) first [] h)) refl
both_parents-fields (first ∷ second ∷ []) before after edges h e =
    let others = All-others (λ p. p < no_parent) first (second ∷ []) h in
    rw (
      edge_of-position first (All-first (λ p. p < no_parent) first (second ∷ []) h),
      edge_of-position second (All-first (λ p. p < no_parent) second [] others),
    ) refl
both_parents-fields (first ∷ second ∷ third ∷ more) before after edges h e =
    let others = All-others (λ p. p < no_parent) first (second ∷ third ∷ more) h in
    let words : List ℕ = listed_words second (third ∷ more) ++ after in
    let held : second_parents (edge.ExtraEdgeIndex (length before)) edges ≡ planned_parents (second ∷ third ∷ more) =
    e (length before) (omega (arith, length-append before (listed_words second (third ∷ more) ++ after)))
    ∙ ap listed (drop_at before (listed_words second (third ∷ more) ++ after) (length before) refl)
    ∙ listed-listed_words second (third ∷ more) after others in
    rw (edge_of-position first (All-first (λ p. p < no_parent) first (second ∷ third ∷ more) h), edge_of-index (length before))
    (ap (λ (ps : DecodedParents). followed_by (record { 0 = first }) ps) held)
