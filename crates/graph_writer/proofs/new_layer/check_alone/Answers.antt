use Rattle.std.proofs.Common.{◌≡◌, ◌==◌, true, false, List, Some, None, length, refl, sym, ap, ◌∙◌}
use Rattle.std.proofs.lemmas.Result.{err_from_is_err_and}
use Rattle.gix_chunk_core.specs.FirstFault.{first_below}
use Rattle.gix_hash_core.specs.declared.kind.Kind.{Kind}
use Rattle.graph_format.specs.Layer.{Layer}
use Rattle.graph_writer.specs.NewCommits.{layers_of_below}
use Rattle.graph_writer.specs.WriteRefusal.{own_refusal_at}
use Rattle.graph_writer.specs.declared.commit.WriteError.TheVariants as error
use Rattle.graph_writer.proofs.layers.RefusalSteps.{own_fault, plain-first, plain-last}
use Rattle.graph_writer.proofs.new_layer.check_alone.Goals as goal

pub returns-in_err-check_each : goal.returns-in_err-check_each
returns-in_err-check_each g c =
    let layers : List Layer = layers_of_below c.args.below in
    let commits = c.args.commits.now in
    let handed = err_from_is_err_and c.from_residual.result c.from_residual.ensures.1 in
    rw (handed.1, handed.2)
    (plain-first layers commits _
    (ap (λ (kind : Kind). first_below (own_refusal_at kind commits) (length commits)) (sym c.kind_to_write.ensures)
    ∙ c.in_err-check_each.ensures))

pub returns-then-is_empty : goal.returns-then-is_empty
returns-then-is_empty g c =
    let layers : List Layer = layers_of_below c.args.below in
    let commits = c.args.commits.now in
    let own : own_fault layers commits ≡ None =
    ap (λ (kind : Kind). first_below (own_refusal_at kind commits) (length commits)) (sym c.kind_to_write.ensures)
    ∙ c.in_ok-check_each.ensures in
    let empty : (length commits == 0) ≡ true = sym c.is_empty.ensures ∙ c.if-is_empty.true in
    plain-last layers commits true (Some error.Nothing) own empty refl

pub returns : goal.returns
returns g c =
    let layers : List Layer = layers_of_below c.args.below in
    let commits = c.args.commits.now in
    let own : own_fault layers commits ≡ None =
    ap (λ (kind : Kind). first_below (own_refusal_at kind commits) (length commits)) (sym c.kind_to_write.ensures)
    ∙ c.in_ok-check_each.ensures in
    let some : (length commits == 0) ≡ false = sym c.is_empty.ensures ∙ c.if-is_empty.false in
    plain-last layers commits false None own some refl
