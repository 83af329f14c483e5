-- What the merge bases of two commits have in common, whichever search finds them.
use Rattle.std.proofs.Common.{◌≡◌, ◌⊎◌, ◌↔◌, ℕ, ◌<◌, ◌≤◌, List, [], ◌∷◌, sym, subst, inl, inr, ⊎_elim, arith}
use Rattle.graph_walks.specs.declared.TheConstants.{GENERATION_NUMBER_MAX}
use Rattle.graph_walks.specs.History.{Node, generation_at}
use Rattle.graph_walks.specs.Walks.{Reaches, IsProperAncestor}
use Rattle.graph_walks.proofs.WalkPathLemmas.{Path, path_from_between, between_from_path}
use Rattle.graph_bases.specs.Bases.{IsCommonAncestor, IsMergeBase, AreMergeBases}
use Rattle.graph_bases.proofs.ReachLemmas.{reaches_within, reaches_itself, proper_then, from_one, from_itself}

common_swapped : (h : List Node) (a b p : ℕ) → IsCommonAncestor h a (b ∷ []) p → IsCommonAncestor h b (a ∷ []) p
common_swapped h a b p common = (from_one h b p common.1, from_itself h a p common.0)

pub base_swapped : (h : List Node) (a b p : ℕ) → IsMergeBase h a (b ∷ []) p → IsMergeBase h b (a ∷ []) p
base_swapped h a b p base = record {
  common = common_swapped h a b p base.common;
  best = λ q common proper. base.best q (common_swapped h b a q common) proper;
}

pub bases_swapped : (h : List Node) (a b : ℕ) (bases : List ℕ) → AreMergeBases h a (b ∷ []) bases
    → AreMergeBases h b (a ∷ []) bases
bases_swapped h a b bases are = record {
  ascending = are.ascending;
  those = λ p. (
    (λ contained. base_swapped h a b p ((are.those p).0 contained)),
    (λ base. (are.those p).1 (base_swapped h b a p base)),
  );
}

-- a commit leads to itself and to its proper ancestors alone
itself_or_below : (h : List Node) (p q : ℕ) → Reaches h p q → (p ≡ q) ⊎ IsProperAncestor h p q
itself_or_below h p q reaches =
    let path = path_from_between h p q reaches.0 reaches.1 in by_cases path.0 path.2 where
      by_cases : (rest : List ℕ) → Path h p q rest → (p ≡ q) ⊎ IsProperAncestor h p q
      by_cases [] w = inl w.0
      by_cases (y ∷ rest) w = inr (p ∷ y ∷ rest, between_from_path h p q (y ∷ rest) w, omega arith)

-- Where one leads to the other, which is below the cap.
module _ (h : List Node) (a b : ℕ) (low : generation_at h b < GENERATION_NUMBER_MAX) (reaches : Reaches h a b)
    (never_rises : (p q : ℕ) → Reaches h p q → generation_at h q ≤ generation_at h p)
    (falls : (p q : ℕ) → IsProperAncestor h p q → generation_at h q < GENERATION_NUMBER_MAX
    → generation_at h q < generation_at h p) where
  common_itself : IsCommonAncestor h a (b ∷ []) b
  common_itself = (reaches, from_itself h b b (reaches_itself h b (reaches_within h a b reaches)))

  pub only_base : (p : ℕ) → IsMergeBase h a (b ∷ []) p ↔ (p ≡ b)
  only_base p = (
    (λ base.
        ⊎_elim
        (λ (same : b ≡ p). sym same)
        (λ proper. absurd (base.best b common_itself proper))
        (itself_or_below h b p (from_one h b p base.common.1))),
    (λ same.
        subst (IsMergeBase h a (b ∷ [])) (sym same) (record {
          common = common_itself;
          best = λ q common proper.
              (let back = from_one h b q common.1 in
              let rise = never_rises b q back in
              let fall = falls q q (proper_then h q b q proper back) (omega arith) in
              absurd (omega arith));
        })),
  )
