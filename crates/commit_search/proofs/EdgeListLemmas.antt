-- The words of an extra edge list, as a search goes over them.
use Rattle.std.proofs.Common.{◌≡◌, ◌⊎◌, ℕ, suc, zero, ◌+◌, ◌<◌, ◌≤◌, List, [], ◌∷◌, length, map, drop, get_or}
use Rattle.std.proofs.Common.{Contains}
use Rattle.std.proofs.Common.{refl, sym, ap, ◌∙◌, subst, inl, inr, arith, add-one, drop-cons}
use Rattle.std.proofs.lemmas.List.{drop_all}
use Rattle.graph_walks.specs.History.{IsParent}
use Rattle.graph_format.specs.Parents.{DecodedParents, extra_edge_of, extra_parent, listed}
use Rattle.graph_format.specs.declared.Position.{Position}
use Rattle.graph_format.specs.declared.parents.ExtraEdge.{ExtraEdge}
use Rattle.graph_format.specs.declared.parents.ExtraEdge.TheVariants as extra
use Rattle.commit_search.specs.EdgeLists.{named_by, named_from}
use Rattle.commit_search.specs.Source.{Told, IsListTrue, IsWordTold}

pub head_contained : (x : ℕ) (xs : List ℕ) → Contains (x ∷ xs) x
head_contained x xs = (0, omega arith, refl)

pub tail_contained : (x y : ℕ) (xs : List ℕ) → Contains xs y → Contains (x ∷ xs) y
tail_contained x y xs (k, lt, at) = (suc k, omega arith, at)

pub contained_cases : (x y : ℕ) (xs : List ℕ) → Contains (x ∷ xs) y → (x ≡ y) ⊎ Contains xs y
contained_cases x y xs (zero, lt, at) = inl at
contained_cases x y xs (suc k, lt, at) = inr (k, omega arith, at)

pub listed_at : (list : List ℕ) (w : ℕ) (e : ExtraEdge) → w < length list → extra_edge_of (get_or list w 0) ≡ e
    → listed (drop w list) ≡ extra_parent e (listed (drop (w + 1) list))
listed_at list w e lt is =
    rw (add-one w) (ap listed (drop-cons list w 0 lt) ∙ ap (λ (x : ExtraEdge). extra_parent x (listed (drop (suc w) list))) is)

pub named_past : (list : List ℕ) (w : ℕ) → length list ≤ w → named_from list w ≡ []
named_past list w le = ap (λ (xs : List ℕ). map (λ (pos : Position). pos.0) (listed xs).positions) (drop_all w list le)

module _ (list : List ℕ) (w : ℕ) (pos : Position) (lt : w < length list) where
  pub named_internal : extra_edge_of (get_or list w 0) ≡ extra.Internal pos → named_from list w ≡ pos.0 ∷ named_from list (w + 1)
  named_internal is =
      ap (λ (d : DecodedParents). map (λ (x : Position). x.0) d.positions) (listed_at list w (extra.Internal pos) lt is)

  pub named_last : extra_edge_of (get_or list w 0) ≡ extra.Last pos → named_from list w ≡ pos.0 ∷ []
  named_last is = ap (λ (d : DecodedParents). map (λ (x : Position). x.0) d.positions) (listed_at list w (extra.Last pos) lt is)

-- a word that is read where the words from it on name parents of p
module _ (t : Told) (p l next : ℕ) (word : ExtraEdge) (told : IsWordTold t l next word) (reading : IsListTrue t p l next) where
  named_here : (e : ExtraEdge) → word ≡ e → Contains (named_from (t.lists l) next) (named_by e)
  named_here (extra.Internal pos) is =
      subst (λ (xs : List ℕ). Contains xs pos.0) (sym (named_internal (t.lists l) next pos told.there (sym told.says ∙ is)))
      (head_contained pos.0 (named_from (t.lists l) (next + 1)))
  named_here (extra.Last pos) is =
      subst (λ (xs : List ℕ). Contains xs pos.0) (sym (named_last (t.lists l) next pos told.there (sym told.says ∙ is)))
      (head_contained pos.0 [])

  pub word_is_parent : named_by word < length t.history → IsParent t.history p (named_by word)
  word_is_parent within = reading (named_by word) (named_here word refl) within

  pub list_goes_on : (pos : Position) → word ≡ extra.Internal pos → IsListTrue t p l (next + 1)
  list_goes_on pos is q contained within =
      reading q
      (subst (λ (xs : List ℕ). Contains xs q) (sym (named_internal (t.lists l) next pos told.there (sym told.says ∙ is)))
      (tail_contained pos.0 q (named_from (t.lists l) (next + 1)) contained))
      within
