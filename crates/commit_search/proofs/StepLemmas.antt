-- The walk by which a commit of the queue was reached.
use Rattle.std.proofs.Common.{◌≡◌, ℕ, suc, ◌+◌, ◌<◌, List, [], ◌∷◌, ◌++◌, length, reverse, sym, ap, ap₂, ◌∙◌, subst, arith}
use Rattle.std.proofs.lemmas.List.{reverse-append}
use Rattle.graph_walks.specs.History.{Node, IsParent}
use Rattle.graph_walks.proofs.WalkPathLemmas.{Path}
use Rattle.graph_format.specs.declared.Position.{Position}
use Rattle.commit_search.specs.Positions.{numbers_of}
use Rattle.commit_search.specs.Marks.{Marked}
use Rattle.commit_search.specs.Queue.{commit_in, child_in, IsQueue, Depth}

turned : (walk : List Position) (x : Position) → numbers_of (reverse (walk ++ x ∷ [])) ≡ x.0 ∷ numbers_of (reverse walk)
turned walk x = ap numbers_of (reverse-append walk (x ∷ []))

-- What was gathered on the way from the last place, turned round, is a walk from the commit reached to the last.
abbrev pub Gathers : List Node → List Marked → ℕ → ℕ → List Position → Type 0
Gathers h queued reached place walk = (rest : List ℕ) × (numbers_of (reverse walk) ≡ commit_in queued reached ∷ rest)
    × Path h (commit_in queued reached) (commit_in queued place) rest

pub one_back : (h : List Node) (least : ℕ) (queued : List Marked) (reached place child : ℕ)
    (g : Position) (walk more : List Position) → IsQueue h least queued → 0 < reached → reached < length queued
    → child_in queued reached ≡ child → g.0 ≡ commit_in queued child → more ≡ walk ++ g ∷ [] → Gathers h queued reached place walk
    → Gathers h queued child place more
one_back h least queued reached place child g walk more queue pos lt is at pushed (rest, walk_is, path) =
    let parent =
    subst (λ (k : ℕ). IsParent h (commit_in queued k) (commit_in queued reached)) is (queue.parents reached pos lt) in (
      commit_in queued reached ∷ rest,
      ap (λ xs. numbers_of (reverse xs)) pushed ∙ turned walk g ∙ ap₂ (λ (x : ℕ) (xs : List ℕ). x ∷ xs) at walk_is,
      (parent, path),
    )

pub one_step_more : (queued : List Marked) (reached place child len : ℕ) → 0 < reached → child_in queued reached ≡ child
    → ((d : ℕ) → Depth queued reached d → (n : ℕ) × Depth queued place n × (len + d ≡ n + 1)) → (d : ℕ) → Depth queued child d
    → (n : ℕ) × Depth queued place n × (len + 1 + d ≡ n + 1)
one_step_more queued reached place child len pos is steps d depth =
    let one = steps (suc d) (pos, subst (λ (k : ℕ). Depth queued k d) (sym is) depth) in
    (one.0, one.1, omega (arith, one.2))
