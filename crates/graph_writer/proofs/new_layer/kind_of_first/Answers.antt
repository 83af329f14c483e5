use Rattle.std.proofs.Common.{Option, sym, ap, ◌∙◌}
use Rattle.std.specs.Option.{option_map_or}
use Rattle.gix_hash_core.specs.Oid.{oid_bytes}
use Rattle.gix_hash_core.specs.declared.kind.Kind.TheVariants.{Sha1}
use Rattle.graph_writer.specs.WriteRefusal.{kind_of_id}
use Rattle.graph_writer.specs.declared.commit.NewCommit.{NewCommit}
use Rattle.graph_writer.proofs.positions.HandedSteps.{kind-of_none}
use Rattle.graph_writer.proofs.layers.RefusalSteps.{kind_of_first}
use Rattle.graph_writer.proofs.new_layer.kind_of_first.Goals as goal

pub returns-then-is_empty : goal.returns-then-is_empty
returns-then-is_empty g c =
    c.shortest.ensures ∙ sym (kind-of_none c.args.commits.now (sym c.is_empty.ensures ∙ c.if-is_empty.true))

pub returns : goal.returns
returns g c =
    kind_of_first c.kind.result (oid_bytes c.id.result) c.kind.ensures
    ∙ ap kind_of_id c.id.ensures
    ∙ sym
    (ap (λ (o : Option NewCommit). option_map_or (λ (commit : NewCommit). kind_of_id commit.id) o Sha1) c.at-first.ensures)
