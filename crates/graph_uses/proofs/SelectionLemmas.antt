-- The elements of a list that have a property, as the list grows by one; and what is told of ids that are looked up.
use Rattle.std.proofs.Common.{◌≡◌, ◌↔◌, ℕ, Option, Some, None, IsSome, IsTrue, is_some, true, false}
use Rattle.std.proofs.Common.{List, [], ◌∷◌, ◌++◌, refl, sym, ap, ◌∙◌, subst, inl, inr, unwrap_or}
use Rattle.std.proofs.lemmas.Bool.{false≢true}
use Rattle.gix_commitgraph.specs.Layer.{Layer}
use Rattle.gix_commitgraph.specs.Lookup.{scan}
use Rattle.gix_commitgraph.specs.StoredHistory.{history_of}
use Rattle.gix_commitgraph.specs.Graph.{graph_ids}
use Rattle.gix_commitgraph.specs.Walks.{Reaches}
use Rattle.graph_uses.specs.IdAnswers.{AreThose, HasCommitWithId, IsMergedInto}

pub those_with : {A : Type 0} (P : A → Type 0) (xs those : List A) (x : A) → AreThose P xs those → P x
    → AreThose P (xs ++ x ∷ []) (those ++ x ∷ [])
those_with P [] those x is has = inl ([], has, ap (λ ys. ys ++ x ∷ []) is, refl)
those_with P (y ∷ ys) those x (inl is) has =
    inl (is.0 ++ x ∷ [], is.1, ap (λ zs. zs ++ x ∷ []) is.2, those_with P ys is.0 x is.3 has)
those_with P (y ∷ ys) those x (inr is) has = inr (is.0, those_with P ys those x is.1 has)

pub those_without : {A : Type 0} (P : A → Type 0) (xs those : List A) (x : A) → AreThose P xs those → (¬ P x)
    → AreThose P (xs ++ x ∷ []) those
those_without P [] those x is not = inr (not, is)
those_without P (y ∷ ys) those x (inl is) not = inl (is.0, is.1, is.2, those_without P ys is.0 x is.3 not)
those_without P (y ∷ ys) those x (inr is) not = inr (is.0, those_without P ys those x is.1 not)

none_is_some : (o : Option ℕ) (p : ℕ) → o ≡ None → o ≡ Some p → ⊥
none_is_some o p none some =
    let without : is_some o ≡ false = ap is_some none in
    let with : is_some o ≡ true = ap is_some some in
    false≢true (sym without ∙ with)

module _ (layers : List Layer) (into id : List ℕ) where
  pub merged_has_commit : IsMergedInto layers into id → HasCommitWithId layers into
  merged_has_commit merged = subst (λ (o : Option ℕ). IsSome o) (sym merged.2) refl

  pub not_merged-into : scan (graph_ids layers) into ≡ None → IsTrue false ↔ IsMergedInto layers into id
  not_merged-into none = (λ no. absurd (false≢true no), λ merged. absurd (none_is_some _ _ none merged.2))

  pub not_merged-id : scan (graph_ids layers) id ≡ None → IsTrue false ↔ IsMergedInto layers into id
  not_merged-id none = (λ no. absurd (false≢true no), λ merged. absurd (none_is_some _ _ none merged.3))

  same_position : (o : Option ℕ) (p q : ℕ) → o ≡ Some p → o ≡ Some q → p ≡ q
  same_position o p q one other = sym (ap (λ (x : Option ℕ). unwrap_or x 0) one) ∙ ap (λ (x : Option ℕ). unwrap_or x 0) other

  pub merged_where_reached : (p q : ℕ) → scan (graph_ids layers) into ≡ Some p → scan (graph_ids layers) id ≡ Some q
      → Reaches (history_of layers) p q ↔ IsMergedInto layers into id
  merged_where_reached p q from to = (
    λ reaches. (p, q, from, to, reaches),
    λ merged.
        subst (λ (x : ℕ). Reaches (history_of layers) x q) (same_position _ _ _ merged.2 from)
        (subst (λ (x : ℕ). Reaches (history_of layers) merged.0 x) (same_position _ _ _ merged.3 to) merged.4),
  )
