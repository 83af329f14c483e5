-- The kind is that of the graph.
use Rattle.std.proofs.Common.{◌≡◌, rules, subst, sym}
use Rattle.gix_hash_core.specs.declared.kind.Kind.{Kind}
use Rattle.path_checks.specs.RightByStream.{AreRightByStream, AreRightOfKind, IsKindOf}
use Rattle.path_checks.proofs.ToldLemmas.{on_ok_weaker}
use Rattle.path_checks.proofs.check.check_by_requests.Goals as goal

pub returns-clause-right : goal.returns-clause-right
returns-clause-right g c =
    let stream = g.R.Read.remaining c.args.reader.now in
    let layers = c.args.graph.now in
    let kind : Kind = c.in-Ok.requests.kind in
    let same : kind ≡ c.object_hash-kind.result = search rules in
    let is : IsKindOf kind layers =
    subst (λ (k : Kind). IsKindOf k layers) (sym same) c.object_hash-kind.ensures.kind in
    on_ok_weaker c.check_owned-reader.result.2 (AreRightOfKind kind stream layers c.args.filters.now)
    (AreRightByStream stream layers c.args.filters.now)
    (λ (right : AreRightOfKind kind stream layers c.args.filters.now). (kind, is, right))
    c.check_owned-reader.ensures.right
