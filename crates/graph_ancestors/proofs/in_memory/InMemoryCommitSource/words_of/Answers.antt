use Rattle.std.proofs.Common.{ℕ, List, length, ap, ◌∙◌, arith}
use Rattle.graph_format.specs.Layer.{Layer}
use Rattle.commit_search.specs.EdgeLists.{list_in}
use Rattle.graph_ancestors.proofs.WordLemmas.{reading_within, few_words}
use Rattle.graph_ancestors.proofs.in_memory.InMemoryCommitSource.words_of.Goals as goal

pub overflow_cast-result : goal.overflow_cast-result
overflow_cast-result c =
    let same = c.list_of.ensures ∙ ap (λ (ls : List Layer). list_in ls c.args.layer) c.graph.ensures.same in
    omega (
      arith,
      ap (λ (xs : List ℕ). length xs) same,
      few_words c.args.self.now c.args.layer c.graph.ensures.graph.opened,
    )

pub returns-clause-there : goal.returns-clause-there
returns-clause-there c =
    let lies = c.requires.lies in
    let reading = c.requires.listed c.args.layer lies.0 lies.1 in
    let same = c.list_of.ensures ∙ ap (λ (ls : List Layer). list_in ls c.args.layer) c.graph.ensures.same in
    omega (arith, reading_within _ _ _ _ reading, ap (λ (xs : List ℕ). length xs) same)

pub returns-clause-words : goal.returns-clause-words
returns-clause-words c =
    let same = c.list_of.ensures ∙ ap (λ (ls : List Layer). list_in ls c.args.layer) c.graph.ensures.same in
    ap (λ (xs : List ℕ). length xs) same
