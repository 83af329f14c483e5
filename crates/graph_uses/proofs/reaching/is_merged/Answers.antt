use Rattle.std.proofs.Common.{◌↔◌, Bool, IsTrue, sym, ap, ◌∙◌}
use Rattle.std.proofs.lemmas.Result.{IfOk-weaker}
use Rattle.gix_hash_core.specs.Oid.{oid_bytes}
use Rattle.gix_commitgraph.specs.GraphLookup.{position_number}
use Rattle.gix_commitgraph.specs.StoredHistory.{history_of}
use Rattle.gix_commitgraph.specs.Walks.{Reaches}
use Rattle.graph_uses.specs.IdAnswers.{IsMergedInto}
use Rattle.graph_uses.proofs.SelectionLemmas.{not_merged-into, not_merged-id, merged_where_reached}
use Rattle.graph_uses.proofs.reaching.is_merged.Goals as goal

pub returns-in_default-clause-answer : goal.returns-in_default-clause-answer
returns-in_default-clause-answer c =
    not_merged-id c.args.graph.now.layers (oid_bytes c.args.into) (oid_bytes c.args.commit)
    (sym c.find-2.ensures.scanned ∙ ap position_number c.in_default.is-1)

pub returns-in_default-2-clause-answer : goal.returns-in_default-2-clause-answer
returns-in_default-2-clause-answer c =
    not_merged-into c.args.graph.now.layers (oid_bytes c.args.into) (oid_bytes c.args.commit)
    (sym c.find.ensures.scanned ∙ ap position_number c.in_default.is-0)

pub returns-clause-answer : goal.returns-clause-answer
returns-clause-answer c =
    let layers = c.args.graph.now.layers in
    let into = oid_bytes c.args.into in
    let commit = oid_bytes c.args.commit in
    let from = c.in-Some-Some.from.0 in
    let to = c.in-Some-Some.to.0 in
    let is =
    merged_where_reached layers into commit from to
    (sym c.find.ensures.scanned ∙ ap position_number c.in-Some-Some.is-0)
    (sym c.find-2.ensures.scanned ∙ ap position_number c.in-Some-Some.is-1) in
    IfOk-weaker c.reaches.result (λ (found : Bool). IsTrue found ↔ Reaches (history_of layers) from to)
    (λ (found : Bool). IsTrue found ↔ IsMergedInto layers into commit)
    (λ found reached. (λ yes. is.0 (reached.0 yes), λ merged. reached.1 (is.1 merged))) c.reaches.ensures.answer
