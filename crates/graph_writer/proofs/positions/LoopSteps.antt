-- Lists that grow by one element at a time.
use Rattle.std.proofs.Common.{◌≡◌, ℕ, ◌+◌, ◌<◌, List, [], ◌∷◌, ◌++◌, map, length, take, inl, inr, slice_get, get_or, Some}
use Rattle.std.proofs.Common.{sym, ap, ◌∙◌, subst}
use Rattle.std.proofs.Common.{add-one}
use Rattle.std.proofs.Math.Seq.{take-suc}
use Rattle.std.proofs.lemmas.List.{map_push}
use Rattle.gix_commitgraph.proofs.lookup.ElementLemmas.{pushed}

-- what holds of each element at its place
pub more-places : {X : Type 0} (P : ℕ → X → Type 0) (old : List X) (x : X) (n : ℕ) → length old ≡ n
    → ((p : ℕ) (y : X) → slice_get old p ≡ Some y → P p y) → P n x → (p : ℕ) (y : X)
    → slice_get (old ++ x ∷ []) p ≡ Some y → P p y
more-places P old x n size each here p y at =
    elim (pushed old x y p at) [
      | inl before ↦ each p y before
      | inr last ↦
          subst (P p) last.1 (subst (λ (m : ℕ). P m x) (sym (last.0 ∙ size)) here)
    ]

-- what is mapped from the first elements
pub mapped-more : {X Y : Type 0} (f : X → Y) (xs : List X) (old : List Y) (x : X) (n : ℕ) → n < length xs → x ≡ get_or xs n x
    → old ≡ map f (take n xs) → old ++ f x ∷ [] ≡ map f (take (n + 1) xs)
mapped-more f xs old x n lt is same =
    ap (λ ys. ys ++ f x ∷ []) same
    ∙ sym (map_push f (take n xs) x)
    ∙ ap (map f)
    (sym
    (ap (λ (m : ℕ). take m xs) (add-one n)
    ∙ take-suc xs n x lt
    ∙ ap (λ y. take n xs ++ y ∷ []) (sym is)))
