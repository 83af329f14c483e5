use Rattle.std.proofs.Common.{◌≡◌, ◌+◌, Some, None, refl, sym, ◌∙◌, arith}
use Rattle.std.proofs.lemmas.Result.{err_from_is_err_and}
use Rattle.graph_layer.specs.Commit.{commit_pos}
use Rattle.gix_commitgraph.specs.Graph.{start}
use Rattle.gix_commitgraph.proofs.lookup.DuplicateLemmas.{ids-answered, asked-found}
use Rattle.gix_commitgraph.proofs.graph.Graph.check_ids.Goals as goal

pub returns-in-Some : goal.returns-in-Some
returns-in-Some g c =
    let is_p : c.args.pos.0 ≡ start c.args.self.now c.args.span.layer + commit_pos c.args.commit.now =
    omega (arith, c.requires.commit.at, c.requires.span.start) in
    ids-answered c.args.options c.args.self.now c.args.span.layer c.args.span.file.now _ (commit_pos c.args.commit.now)
    c.args.pos.0 (Some c.in-Some.fault) _ _ c.requires.commit.layer is_p (sym c.in-Some.is ∙ c.id_fault.ensures) refl refl

pub returns-in_err-check_distinct : goal.returns-in_err-check_distinct
returns-in_err-check_distinct g c =
    let is_p : c.args.pos.0 ≡ start c.args.self.now c.args.span.layer + commit_pos c.args.commit.now =
    omega (arith, c.requires.commit.at, c.requires.span.start) in
    let handed = err_from_is_err_and c.from_residual.result c.from_residual.ensures.1 in
    rw (handed.1, handed.2)
    (ids-answered c.args.options c.args.self.now c.args.span.layer c.args.span.file.now _ (commit_pos c.args.commit.now)
    c.args.pos.0 None _ (Some _) c.requires.commit.layer is_p (sym c.in_default.is ∙ c.id_fault.ensures)
    (asked-found c.args.options c.args.self.now c.args.span.layer c.args.span.file.now (commit_pos c.args.commit.now) _
    c.if-options.true c.in_err-check_distinct.ensures) refl)
