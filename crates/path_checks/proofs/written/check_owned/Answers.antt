-- The source is that of the requests, also after the check.
use Rattle.std.proofs.Common.{◌≡◌, ◌∙◌, subst}
use Rattle.std.specs.Prelude.{IfErr, OnOk}
use Rattle.gix_hash_core.specs.declared.kind.Kind.{Kind}
use Rattle.path_checks.specs.WrittenByStream.{AreWrittenOfKind, IsOtherInAll}
use Rattle.path_checks.proofs.ToldLemmas.{told_refused, told_right}
use Rattle.path_checks.proofs.written.check_owned.Goals as goal

pub returns-clause-same : goal.returns-clause-same
returns-clause-same g c =
    let kind : c.check_written_filters-checked.new.source ≡ c.args.requests.kind =
    c.check_written_filters-checked.ensures.kind ∙ c.new-source.ensures in
    told_right c.check_written_filters-checked.result c.told_of.result
    (AreWrittenOfKind c.args.requests.kind g.E.Exchange.stream c.args.settings c.args.graph.now c.args.filters.now)
    c.told_of.ensures.told
    (subst
    (λ (k : Kind). OnOk c.check_written_filters-checked.result
    (AreWrittenOfKind k g.E.Exchange.stream c.args.settings c.args.graph.now c.args.filters.now))
    kind c.check_written_filters-checked.ensures.written)

pub returns-clause-refused : goal.returns-clause-refused
returns-clause-refused g c =
    let kind : c.check_written_filters-checked.new.source ≡ c.args.requests.kind =
    c.check_written_filters-checked.ensures.kind ∙ c.new-source.ensures in
    told_refused
    (IsOtherInAll c.args.requests.kind g.E.Exchange.stream c.args.settings c.args.bounds c.args.graph.now c.args.filters.now)
    c.check_written_filters-checked.result c.told_of.result c.told_of.ensures.told
    (subst
    (λ (k : Kind). IfErr c.check_written_filters-checked.result
    (IsOtherInAll k g.E.Exchange.stream c.args.settings c.args.bounds c.args.graph.now c.args.filters.now))
    kind c.check_written_filters-checked.ensures.refused)
