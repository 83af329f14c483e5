-- The kind is that of the graph, and so are the settings.
use Rattle.std.proofs.Common.{◌≡◌, rules, subst, sym}
use Rattle.gix_hash_core.specs.declared.kind.Kind.{Kind}
use Rattle.path_filters.specs.declared.settings.Settings.{Settings}
use Rattle.path_checks.specs.RightByStream.{IsKindOf}
use Rattle.path_checks.specs.WrittenByStream.{AreWrittenByStream, AreWrittenOfKind}
use Rattle.path_checks.proofs.ToldLemmas.{on_ok_weaker}
use Rattle.path_checks.proofs.written.check_written_by_requests.Goals as goal

pub returns-clause-same : goal.returns-clause-same
returns-clause-same g c =
    let stream = g.R.Read.remaining c.args.reader.now in
    let layers = c.args.graph.now in
    let all = c.args.filters.now in
    let kind : Kind = c.in-Ok.requests.kind in
    let same : kind ≡ c.object_hash-kind.result = search rules in
    let is : IsKindOf kind layers =
    subst (λ (k : Kind). IsKindOf k layers) (sym same) c.object_hash-kind.ensures.kind in
    on_ok_weaker c.check_owned-reader.result.2 (AreWrittenOfKind kind stream c.git_settings.result layers all)
    (AreWrittenByStream stream layers all)
    (λ (right : AreWrittenOfKind kind stream c.git_settings.result layers all).
    (kind, is, subst (λ (settings : Settings). AreWrittenOfKind kind stream settings layers all) c.git_settings.ensures right))
    c.check_owned-reader.ensures.same
