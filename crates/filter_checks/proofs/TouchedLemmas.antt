-- What the paths that were told say of a filter.
use Rattle.std.proofs.Common.{◌≡◌, ℕ, ◌≤◌, List, [], ◌∷◌, ◌++◌, Option, length, refl, sym, ap, ◌∙◌, subst, inl, inr, arith}
use Rattle.std.proofs.Common.{length-append}
use Rattle.std.specs.Prelude.{All, Contains}
use Rattle.std.specs.Ordering.{nat_cmp, ordering_reverse}
use Rattle.std.specs.declared.cmp.Ordering.TheVariants.{Less}
use Rattle.std.specs.Cmp.Lexicographic.{slice_cmp}
use Rattle.std.proofs.lemmas.Cmp.{nat_list_cmp_total}
use Rattle.std.proofs.lemmas.List.Elements.{All-contains, Contains-push, Contains-push_cases}
use Rattle.graph_chunks.specs.GraphFilters.{FiltersOfGraph}
use Rattle.tree_changes.specs.Stands.{World, joined}
use Rattle.tree_changes.specs.Changes.{AreChanged, AreFirstChanged, AreMore, IsChangedText, IsChangeRefusal}
use Rattle.tree_changes.specs.declared.changes.Limits.{Limits}
use Rattle.filter_checks.specs.RightFilters.{HasAllTouched}
use Rattle.filter_checks.specs.Refused.{ArePossibleAlong, IsFirstAbsent, IsFirstLack, IsFilterRefusal, IsLackOf}
use Rattle.filter_checks.specs.declared.refusal.FilterRefusal.{FilterRefusal}
use Rattle.filter_checks.specs.declared.refusal.FilterRefusal.TheVariants.{Lacks, Trees, Differs}

-- a text does not come before another that comes before it
not_both_ways : (a b : List ℕ) → slice_cmp nat_cmp a b ≡ Less → ¬ (slice_cmp nat_cmp b a ≡ Less)
not_both_ways a b h k =
    let turned = nat_list_cmp_total.antisymm a b in
    let e = sym h ∙ turned ∙ ap ordering_reverse k in cc

module _ (all : FiltersOfGraph) (p : ℕ) (world : World) (old new : Option (List ℕ)) where
  pub all_touched : (texts : List (List ℕ)) → AreChanged world old new texts → All (ArePossibleAlong all p) texts
      → HasAllTouched world old new all p
  all_touched texts changed possible path (inl h) =
      let text = subst (λ t. Contains texts t) (sym h.text_is) (changed.all h.path h.changed) in
      All-contains (ArePossibleAlong all p) texts path possible text path (inl refl)
  all_touched texts changed possible path (inr h) =
      let k = h.1 in
      let text = subst (λ t. Contains texts t) (sym k.text_is) (changed.all k.path k.changed) in
      All-contains (ArePossibleAlong all p) texts h.0 possible text path (inr h.2)

  before_last : (texts : List (List ℕ)) (last other : List ℕ) → AreFirstChanged world old new (texts ++ last ∷ [])
      → All (ArePossibleAlong all p) texts → IsChangedText world old new other → slice_cmp nat_cmp other last ≡ Less
      → ArePossibleAlong all p other
  before_last texts last other first possible changed less =
      elim (first.others changed.path changed.changed) [
        | inl there ↦
            elim (Contains-push_cases texts last other
            (subst (λ t. Contains (texts ++ last ∷ []) t) (sym changed.text_is) there)) [
              | inl earlier ↦ All-contains (ArePossibleAlong all p) texts other possible earlier
              | inr same ↦
                  let less_itself = subst (λ t. slice_cmp nat_cmp t last ≡ Less) (sym same) less in
                  absurd (not_both_ways last last less_itself less_itself)
            ]
        | inr behind ↦
            let later =
            All-contains (λ t. slice_cmp nat_cmp t (joined changed.path) ≡ Less) (texts ++ last ∷ []) last behind
            (Contains-push texts last) in
            absurd (not_both_ways other last less
            (subst (λ t. slice_cmp nat_cmp last t ≡ Less) (sym changed.text_is) later))
      ]

  pub first_lack : (texts : List (List ℕ)) (last path : List ℕ) → AreFirstChanged world old new (texts ++ last ∷ [])
      → All (ArePossibleAlong all p) texts → IsFirstAbsent all p last path
      → IsFirstLack all p (IsChangedText world old new) path
  first_lack texts last path first possible absent = record {
    changed = last;
    is_changed = All-contains (IsChangedText world old new) (texts ++ last ∷ []) last first.each (Contains-push texts last);
    first = absent;
    before = λ other changed less. before_last texts last other first possible changed less;
  }

  pub one_more : (texts : List (List ℕ)) (last : List ℕ) (most : ℕ) → AreFirstChanged world old new (texts ++ last ∷ [])
      → most ≤ length texts → AreMore world old new most
  one_more texts last most first full = record {
    texts = texts ++ last ∷ [];
    rising = first.rising;
    each = first.each;
    more = omega (arith, full, length-append texts (last ∷ []));
  }

-- why a filter is refused that lacks a path
pub lack_is : {E : Type 0} (refused : List ℕ → E → Type 0) (limits : Limits) (world : World) (old new : Option (List ℕ))
    (all : FiltersOfGraph) (p : ℕ) (path : List ℕ) (why : FilterRefusal E) → IsLackOf path why
    → IsFirstLack all p (IsChangedText world old new) path → IsFilterRefusal refused limits world old new all p why
lack_is refused limits world old new all p path (Lacks text) e h =
    subst (IsFirstLack all p (IsChangedText world old new)) (sym e) h
lack_is refused limits world old new all p path (Trees refusal) e h =
    subst (λ r. IsChangeRefusal refused limits.paths limits.names limits.trees world old new r) (sym e) tt
lack_is refused limits world old new all p path Differs e h = absurd e
