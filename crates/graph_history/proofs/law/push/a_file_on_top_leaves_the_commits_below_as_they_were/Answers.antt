use Rattle.std.proofs.Common.{◌≡◌, ℕ, ◌<◌, List, [], ◌∷◌, All, length, sym, subst, arith}
use Rattle.std.specs.Prelude.{◌↔◌}
use Rattle.graph_walks.specs.History.{Node, generation_at, parents_at}
use Rattle.graph_walks.specs.Walks.{Reaches}
use Rattle.graph_format.specs.StoredHistory.{history_of}
use Rattle.gix_commitgraph.specs.Graph.{total}
use Rattle.graph_bases.specs.Bases.{IsMergeBase}
use Rattle.graph_history.proofs.BelowLemmas.{history-more, generation_stays, parents_stay, reaches_stays, base_stays}
use Rattle.graph_history.proofs.law.push.a_file_on_top_leaves_the_commits_below_as_they_were.Goals as goal

pub returns-clause-generation : goal.returns-clause-generation
returns-clause-generation c = λ layers file p opened lt.
    let old = history_of layers in
    let counted : length old ≡ total layers = c.the_history_of_a_graph_is_that_of_its_layers.ensures.counted layers opened in
    subst (λ (h : List Node). generation_at h p ≡ generation_at old p) (sym (history-more layers file))
    (generation_stays old (history_of (file ∷ [])) p (omega (arith, counted, lt)))

pub returns-clause-parents : goal.returns-clause-parents
returns-clause-parents c = λ layers file p opened lt.
    let old = history_of layers in
    let counted : length old ≡ total layers = c.the_history_of_a_graph_is_that_of_its_layers.ensures.counted layers opened in
    subst (λ (h : List Node). parents_at h p ≡ parents_at old p) (sym (history-more layers file))
    (parents_stay old (history_of (file ∷ [])) p (omega (arith, counted, lt)))

pub returns-clause-ancestors : goal.returns-clause-ancestors
returns-clause-ancestors c = λ layers file p q opened sound lt.
    let old = history_of layers in
    let counted : length old ≡ total layers = c.the_history_of_a_graph_is_that_of_its_layers.ensures.counted layers opened in
    let closed : (x : ℕ) → All (λ y. y < length old) (parents_at old x) = λ x.
    subst (λ (n : ℕ). All (λ y. y < n) (parents_at old x)) (sym counted)
    (c.the_parents_of_a_right_graph_are_there.ensures.there layers x opened sound) in
    subst (λ (h : List Node). Reaches h p q ↔ Reaches old p q) (sym (history-more layers file))
    (reaches_stays old (history_of (file ∷ [])) closed p q (omega (arith, counted, lt)))

pub returns-clause-bases : goal.returns-clause-bases
returns-clause-bases c = λ layers file first others p opened sound lt all.
    let old = history_of layers in
    let counted : length old ≡ total layers = c.the_history_of_a_graph_is_that_of_its_layers.ensures.counted layers opened in
    let closed : (x : ℕ) → All (λ y. y < length old) (parents_at old x) = λ x.
    subst (λ (n : ℕ). All (λ y. y < n) (parents_at old x)) (sym counted)
    (c.the_parents_of_a_right_graph_are_there.ensures.there layers x opened sound) in
    let within : All (λ other. other < length old) others =
    subst (λ (n : ℕ). All (λ other. other < n) others) (sym counted) all in
    subst (λ (h : List Node). IsMergeBase h first others p ↔ IsMergeBase old first others p) (sym (history-more layers file))
    (base_stays old (history_of (file ∷ [])) closed first others (omega (arith, counted, lt)) within p)
