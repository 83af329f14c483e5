-- Histories whose commits have the same parents have the same generation numbers, where these count walks.
use Rattle.std.proofs.Common.{◌≡◌, ℕ, zero, suc, ◌<◌, ◌≤◌, List, [], ◌∷◌, map, length, slice_get}
use Rattle.std.proofs.Common.{Contains, refl, sym, ap, ◌∙◌, subst, arith}
use Rattle.std.specs.Option.{option_map_or}
use Rattle.std.proofs.lemmas.List.{length-map}
use Rattle.graph_walks.specs.History.{Node, IsParent, generation_at, parents_at}
use Rattle.graph_walks.specs.Walks.{IsWalk, HasWalk, CountWalks}
use Rattle.graph_walks.specs.declared.TheConstants.{GENERATION_NUMBER_MAX}

-- the parents of each commit
abbrev pub parents_in : List Node → List (List ℕ)
parents_in history = map (λ node. node.parents) history

abbrev HaveSameParents : List Node → List Node → Type 0
HaveSameParents h k = parents_in h ≡ parents_in k

parents-by-list : (h : List Node) (p : ℕ) → parents_at h p ≡ option_map_or (λ ps. ps) (slice_get (parents_in h) p) []
parents-by-list [] p = refl
parents-by-list (node ∷ h) zero = refl
parents-by-list (node ∷ h) (suc p) = parents-by-list h p

module _ (h k : List Node) (same : HaveSameParents h k) where
  same-length : length h ≡ length k
  same-length =
      sym (length-map h (λ (node : Node). node.parents))
      ∙ ap length same
      ∙ length-map k (λ (node : Node). node.parents)

  same-parents : (p : ℕ) → parents_at h p ≡ parents_at k p
  same-parents p =
      parents-by-list h p
      ∙ ap (λ (lists : List (List ℕ)). option_map_or (λ (ps : List ℕ). ps) (slice_get lists p) []) same
      ∙ sym (parents-by-list k p)

  same-parent : (p q : ℕ) → IsParent h p q → IsParent k p q
  same-parent p q parent = (
    omega (arith, parent.0, same-length),
    omega (arith, parent.1, same-length),
    subst (λ (ps : List ℕ). Contains ps q) (same-parents p) parent.2,
  )

  same-walk : (walk : List ℕ) → IsWalk h walk → IsWalk k walk
  same-walk [] is = is
  same-walk (p ∷ []) is = omega (arith, is, same-length)
  same-walk (p ∷ q ∷ rest) is = (same-parent p q is.0, same-walk (q ∷ rest) is.1)

  has-walk : (p n : ℕ) → HasWalk h p n → HasWalk k p n
  has-walk p n (walk, is, first, size) = (walk, same-walk walk is, first, size)

  no-more : CountWalks h → CountWalks k → (p : ℕ) → p < length h → generation_at h p ≤ generation_at k p
  no-more counts others p lt =
      by-cases (generation_at h p) refl
    where
      by-cases : (g : ℕ) → generation_at h p ≡ g → generation_at h p ≤ generation_at k p
      by-cases zero is = omega (arith, is)
      by-cases (suc g) is =
          let own = counts p lt in
          let other = others p (omega (arith, lt, same-length)) in
          let few : suc g ≤ GENERATION_NUMBER_MAX = omega (arith, is, own.capped) in
          let walk : HasWalk h p (suc g) = (own.counts (suc g) (omega arith) few).1 (omega (arith, is)) in
          omega (arith, is, (other.counts (suc g) (omega arith) few).0 (has-walk p (suc g) walk))

pub same-generations : (h k : List Node) → HaveSameParents h k → CountWalks h → CountWalks k → (p : ℕ) → p < length h
    → generation_at h p ≡ generation_at k p
same-generations h k same counts others p lt =
    omega (
      arith,
      no-more h k same counts others p lt,
      no-more k h (sym same) others counts p (omega (arith, lt, same-length h k same)),
    )
