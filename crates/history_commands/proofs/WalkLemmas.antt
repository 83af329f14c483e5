-- The commits on a walk, and the ids of the parents of a commit.
use Rattle.std.proofs.Common.{◌≡◌, ℕ, ◌<◌, List, [], ◌∷◌, ◌++◌, All, IfSome, Option, Some, Vec, length, map}
use Rattle.std.proofs.Common.{slice_get, slice_index_or, ap, sym, subst, ◌∙◌, append_assoc, append-nil, codes}
use Rattle.std.specs.Global.{Global}
use Rattle.std.specs.Io.KnownBytes.{Appends}
use Rattle.std.specs.List.{flat_map}
use Rattle.std.proofs.KnownBytes.{Appends-trans}
use Rattle.std.proofs.lemmas.List.Concat.{flat_map-append}
use Rattle.std.proofs.lemmas.List.Elements.{All-cons, All-nil}
use Rattle.std.proofs.lemmas.Option.{get_or_from_slice_get}
use Rattle.graph_walks.specs.History.{Node}
use Rattle.graph_walks.specs.Walks.{IsWalk}
use Rattle.graph_format.specs.Layer.{Layer, IsOpened}
use Rattle.graph_format.specs.StoredHistory.{history_of}
use Rattle.graph_format.specs.declared.Position.{Position}
use Rattle.gix_commitgraph.specs.Graph.{graph_ids, total}
use Rattle.gix_commitgraph.specs.IdWalks.{ids_at}
use Rattle.gix_commitgraph.proofs.history.HistoryLemmas.{length-history}
use Rattle.commit_search.specs.WalkAnswer.{IsShortestWalk}
use Rattle.commit_search.specs.Positions.{numbers_of}
use Rattle.graph_history.proofs.RightGraphLemmas.{all_within}
use Rattle.answer_lines.specs.AnswerLines.{parent_text}

-- each commit of a walk is there
walk_within : (h : List Node) (walk : List ℕ) → IsWalk h walk → All (λ p. p < length h) walk
walk_within h [] w = absurd w
walk_within h (p ∷ []) w = All-cons (λ (q : ℕ). q < length h) p [] w (All-nil (λ (q : ℕ). q < length h))
walk_within h (p ∷ q ∷ rest) w = All-cons (λ (k : ℕ). k < length h) p (q ∷ rest) w.0.0 (walk_within h (q ∷ rest) w.1)

are_within : (layers : List Layer) (p q : ℕ) (steps : List Position) → All IsOpened layers
    → IsShortestWalk (history_of layers) p q (numbers_of steps) → All (λ (pos : Position). pos.0 < total layers) steps
are_within layers p q steps opened shortest =
    subst (λ (bound : ℕ). All (λ (pos : Position). pos.0 < bound) steps) (length-history layers opened)
    (all_within (length (history_of layers)) steps
    (walk_within (history_of layers) (numbers_of steps) shortest.between.is_walk))

pub walk_is_within : (layers these : List Layer) (p q : ℕ) (walk : Option (Vec Position Global)) (steps : Vec Position Global)
    → these ≡ layers → walk ≡ Some steps → All IsOpened layers
    → IfSome walk (λ w. IsShortestWalk (history_of these) p q (numbers_of w.items))
    → All (λ (pos : Position). pos.0 < total layers) steps.items
walk_is_within layers these p q walk steps graph is opened shortest =
    are_within layers p q steps.items opened
    (subst (λ (l : List Layer). IsShortestWalk (history_of l) p q (numbers_of steps.items)) graph
    (subst (λ (w : Option (Vec Position Global)). IfSome w (λ v. IsShortestWalk (history_of these) p q (numbers_of v.items))) is
    shortest))

-- one more parent was added, and the others are left
pub parents_more : (layers : List Layer) (all ids : List (List ℕ)) (parent : Position) (left : List Position) (id : List ℕ)
    (a b c : Option (List ℕ)) → all ≡ ids ++ ids_at layers (map (λ (q : Position). q.0) (parent ∷ left))
    → slice_get (graph_ids layers) parent.0 ≡ Some id → Appends a b (codes "parents" ++ flat_map parent_text ids)
    → Appends b c (parent_text id)
    → (more : List (List ℕ)) × (all ≡ more ++ ids_at layers (map (λ (q : Position). q.0) left))
    × Appends a c (codes "parents" ++ flat_map parent_text more)
parents_more layers all ids parent left id a b c are at before added =
    let here = slice_index_or (graph_ids layers) parent.0 [] in
    let front = flat_map parent_text ids in
    let rest = ids_at layers (map (λ (q : Position). q.0) left) in
    let named : here ≡ id = get_or_from_slice_get (graph_ids layers) parent.0 id [] at in
    let text : (codes "parents" ++ front) ++ parent_text id ≡ codes "parents" ++ flat_map parent_text (ids ++ here ∷ []) =
    append_assoc (codes "parents") front (parent_text id)
    ∙ ap (λ (l : List ℕ). codes "parents" ++ l)
    (ap (λ (l : List ℕ). front ++ l) (ap parent_text (sym named) ∙ sym (append-nil (parent_text here)))
    ∙ sym (flat_map-append parent_text ids (here ∷ []))) in (
      ids ++ here ∷ [],
      are ∙ sym (append_assoc ids (here ∷ []) rest),
      subst (Appends a c) text (Appends-trans a b c _ _ before added),
    )
