-- The source is that of the requests, also after the check.
use Rattle.std.proofs.Common.{◌≡◌, ◌∙◌, subst}
use Rattle.std.specs.Prelude.{IfErr, OnOk}
use Rattle.gix_hash_core.specs.declared.kind.Kind.{Kind}
use Rattle.path_checks.specs.RightByStream.{AreRightOfKind, IsRefusedInAll}
use Rattle.path_checks.proofs.ToldLemmas.{told_refused, told_right}
use Rattle.path_checks.proofs.check.check_owned.Goals as goal

pub returns-clause-right : goal.returns-clause-right
returns-clause-right g c =
    let kind : c.check_filters-checked.new.source ≡ c.args.requests.kind =
    c.check_filters-checked.ensures.kind ∙ c.new-source.ensures in
    told_right c.check_filters-checked.result c.told_of.result
    (AreRightOfKind c.args.requests.kind g.E.Exchange.stream c.args.graph.now c.args.filters.now) c.told_of.ensures.told
    (subst
    (λ (k : Kind). OnOk c.check_filters-checked.result
    (AreRightOfKind k g.E.Exchange.stream c.args.graph.now c.args.filters.now))
    kind c.check_filters-checked.ensures.right)

pub returns-clause-refused : goal.returns-clause-refused
returns-clause-refused g c =
    let kind : c.check_filters-checked.new.source ≡ c.args.requests.kind =
    c.check_filters-checked.ensures.kind ∙ c.new-source.ensures in
    told_refused
    (IsRefusedInAll c.args.requests.kind g.E.Exchange.stream c.args.limits c.args.graph.now c.args.filters.now)
    c.check_filters-checked.result c.told_of.result c.told_of.ensures.told
    (subst
    (λ (k : Kind). IfErr c.check_filters-checked.result
    (IsRefusedInAll k g.E.Exchange.stream c.args.limits c.args.graph.now c.args.filters.now))
    kind c.check_filters-checked.ensures.refused)
