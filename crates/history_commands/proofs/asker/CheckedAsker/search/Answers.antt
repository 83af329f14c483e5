-- What is found by the searches of the asker's graph is answered to the question.
use Rattle.std.proofs.Common.{◌≡◌, ◌∙◌, [], ◌∷◌, ap, refl, sym}
use Rattle.gix_hash_core.specs.Oid.{oid_bytes}
use Rattle.graph_history.specs.RightGraph.{CheckedLayers}
use Rattle.answers.specs.FoundOf.{known_map, listed_comparison}
use Rattle.question_lines.specs.Questions.{question_ids}
use Rattle.history_commands.proofs.AskLemmas.{replies_compared, want_for}
use Rattle.history_commands.proofs.asker.CheckedAsker.search.Goals as goal
use Rattle.history_commands.proofs.asker.CheckedAsker.search.Goals.{in-Ok, in-Err, in-Ok-walk, in-Err-walk, in-Ok-compare}
use Rattle.history_commands.proofs.asker.CheckedAsker.search.Goals.{in-Err-compare}

pub returns-after-is_ancestor-clause-refused : goal.returns-after-is_ancestor-clause-refused
returns-after-is_ancestor-clause-refused c =
    let first = c.as_oid-first in
    let second = c.as_oid-second in
    let ids = oid_bytes first.result ∷ oid_bytes second.result ∷ [] in
    let same : ids ≡ question_ids c.args.question.now =
    rw (first.ensures, second.ensures) (sym (ap question_ids c.in-IsAncestor.is)) in
    elim c.match-is_ancestor.branch [
      | in-Ok w ↦ rw w.result-is tt
      | in-Err w ↦ rw w.result-is (want_for c.args.self.now
          c.self.inside.graph.now.layers (question_ids c.args.question.now) ids _
          c.self.view_is same w.in-Err.ensures.refused)
    ]

pub returns-after-walk-clause-refused : goal.returns-after-walk-clause-refused
returns-after-walk-clause-refused c =
    let first = c.as_oid-first-in-Walk in
    let second = c.as_oid-second-in-Walk in
    let ids = oid_bytes first.result ∷ oid_bytes second.result ∷ [] in
    let same : ids ≡ question_ids c.args.question.now =
    rw (first.ensures, second.ensures) (sym (ap question_ids c.in-Walk.is)) in
    elim c.match-walk.branch [
      | in-Ok-walk w ↦ rw w.result-is tt
      | in-Err-walk w ↦ rw w.result-is (want_for c.args.self.now c.self.inside.graph.now.layers
          (question_ids c.args.question.now) ids _ c.self.view_is same w.in-Err-walk.ensures.refused)
    ]

pub returns-after-compare-clause-reply : goal.returns-after-compare-clause-reply
returns-after-compare-clause-reply c =
    let ids = oid_bytes c.as_oid.result ∷ c.deref.result.now in
    let same : ids ≡ c.in-MergeBase.first ∷ c.in-MergeBase.others.items = rw (c.as_oid.ensures, c.deref.ensures.value) refl in
    let graph = ap (λ (graph : CheckedLayers). graph.layers) c.self.invariant.1 ∙ c.self.view_is in
    elim c.match-compare.branch [
      | in-Ok-compare w ↦ rw w.result-is (replies_compared c.args.self.now c.self.inside.comparer.layers c.args.question.now
          c.in-MergeBase.first c.in-MergeBase.others ids (known_map listed_comparison w.in-Ok-compare.compared) graph same
          c.in-MergeBase.is w.in-Ok-compare.ensures.found)
      | in-Err-compare w ↦ rw w.result-is tt
    ]

pub returns-after-compare-clause-refused : goal.returns-after-compare-clause-refused
returns-after-compare-clause-refused c =
    let ids = oid_bytes c.as_oid.result ∷ c.deref.result.now in
    let same : ids ≡ question_ids c.args.question.now =
    rw (c.as_oid.ensures, c.deref.ensures.value) (sym (ap question_ids c.in-MergeBase.is)) in
    let graph = ap (λ (graph : CheckedLayers). graph.layers) c.self.invariant.1 ∙ c.self.view_is in
    elim c.match-compare.branch [
      | in-Ok-compare w ↦ rw w.result-is tt
      | in-Err-compare w ↦ rw w.result-is (want_for c.args.self.now c.self.inside.comparer.layers
          (question_ids c.args.question.now) ids _ graph same w.in-Err-compare.ensures.refused)
    ]
