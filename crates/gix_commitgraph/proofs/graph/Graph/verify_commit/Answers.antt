use Rattle.std.proofs.Common.{refl, ◌∙◌}
use Rattle.std.proofs.lemmas.Result.{err_from_is_err_and}
use Rattle.graph_format.specs.StoredHistory.{history_of}
use Rattle.gix_commitgraph.proofs.layers.LayerSpanLemmas.{span-commit, generation-in_graph}
use Rattle.gix_commitgraph.proofs.check.CommitCheckLemmas.{refused_by_ids, refused_by_parents, refused_by_generation}
use Rattle.gix_commitgraph.proofs.check.CommitCheckLemmas.{stopped_by_processor, commit_passed, expected-is}
use Rattle.gix_commitgraph.proofs.check.CommitCheckLemmas.{wrong_generation, right_generation}
use Rattle.gix_commitgraph.proofs.graph.Graph.verify_commit.Goals as goal

pub returns-in_err-check_ids-clause-agrees : goal.returns-in_err-check_ids-clause-agrees
returns-in_err-check_ids-clause-agrees g c =
    let handed = err_from_is_err_and c.from_residual.result c.from_residual.ensures.1 in
    rw (handed.1, handed.2)
    (refused_by_ids _ c.args.processor.now c.args.options c.args.self.now c.args.span c.args.commit.now c.args.pos.0
    c.requires.span c.requires.commit _ c.in_err-check_ids.ensures)

pub returns-in_err-parents-clause-agrees : goal.returns-in_err-parents-clause-agrees
returns-in_err-parents-clause-agrees g c =
    let handed = err_from_is_err_and c.from_residual-in_err-parents.result c.from_residual-in_err-parents.ensures.1 in
    rw (handed.1, handed.2)
    (refused_by_parents _ c.args.processor.now c.args.options c.args.self.now c.args.span c.args.commit.now c.args.pos.0
    c.requires.span c.requires.commit c.in_ok-check_ids.ensures _ c.in_err-parents.ensures.refusal)

pub returns-then-generation-expected-clause-agrees : goal.returns-then-generation-expected-clause-agrees
returns-then-generation-expected-clause-agrees g c =
    let here = span-commit c.args.self.now c.args.span c.args.commit.now c.args.pos.0 c.requires.span c.requires.commit in
    let stored =
    c.generation.ensures ∙ generation-in_graph c.args.self.now c.args.span c.args.commit.now c.args.pos.0 c.requires.span here in
    let expected =
    expected-is (history_of c.args.self.now) c.args.pos.0 _ _ _ c.in_ok-parents.ensures.parents.max_generation
    c.saturating_add.ensures c.min-expected.ensures in
    refused_by_generation _ c.args.processor.now c.args.options c.args.self.now c.args.span c.args.commit.now c.args.pos.0
    c.requires.span c.requires.commit c.in_ok-check_ids.ensures c.in_ok-parents.ensures.refusal _
    (wrong_generation (history_of c.args.self.now) c.args.pos.0 _ _ stored expected c.if-generation-expected.true)

pub returns-in-Err-clause-agrees : goal.returns-in-Err-clause-agrees
returns-in-Err-clause-agrees g c =
    let here = span-commit c.args.self.now c.args.span c.args.commit.now c.args.pos.0 c.requires.span c.requires.commit in
    let stored =
    c.generation.ensures ∙ generation-in_graph c.args.self.now c.args.span c.args.commit.now c.args.pos.0 c.requires.span here in
    let expected =
    expected-is (history_of c.args.self.now) c.args.pos.0 _ _ _ c.in_ok-parents.ensures.parents.max_generation
    c.saturating_add.ensures c.min-expected.ensures in
    stopped_by_processor _ c.args.processor.now c.args.options c.args.self.now c.args.span c.args.commit.now c.args.pos.0
    c.requires.span c.requires.commit c.in_ok-check_ids.ensures c.in_ok-parents.ensures.refusal
    (right_generation (history_of c.args.self.now) c.args.pos.0 _ _ stored expected c.if-generation-expected.false) _ _
    (record { commit = c.args.commit.now; stands = here; called = record { shown = _; shows = refl; called = c.in-Err.ensures } })

pub returns-clause-agrees : goal.returns-clause-agrees
returns-clause-agrees g c =
    let here = span-commit c.args.self.now c.args.span c.args.commit.now c.args.pos.0 c.requires.span c.requires.commit in
    let stored =
    c.generation.ensures ∙ generation-in_graph c.args.self.now c.args.span c.args.commit.now c.args.pos.0 c.requires.span here in
    let expected =
    expected-is (history_of c.args.self.now) c.args.pos.0 _ _ _ c.in_ok-parents.ensures.parents.max_generation
    c.saturating_add.ensures c.min-expected.ensures in
    commit_passed _ c.args.processor.now c.args.options c.args.self.now c.args.span c.args.commit.now c.args.pos.0 c.requires.span
    c.requires.commit c.in_ok-check_ids.ensures c.in_ok-parents.ensures.refusal
    (right_generation (history_of c.args.self.now) c.args.pos.0 _ _ stored expected c.if-generation-expected.false) _
    (record {
      commit = c.args.commit.now;
      stands = here;
      called =
          record { shown = _; shows = refl; called = c.in_default.ensures };
    })
