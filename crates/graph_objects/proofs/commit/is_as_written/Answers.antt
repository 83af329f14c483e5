use Rattle.std.proofs.Common.{sym, ◌∙◌}
use Rattle.std.proofs.lemmas.Bool.{eqb-true}
use Rattle.gix_hash_core.specs.Oid.{oid_bytes}
use Rattle.graph_layer.specs.Commit.{commit_layer, commit_pos}
use Rattle.graph_layer.specs.RemainingParents.{parents_left}
use Rattle.graph_objects.proofs.WrittenLemmas.{as_recorded}
use Rattle.graph_objects.proofs.commit.is_as_written.Goals as goal

pub returns-in-Some-behind_parents : goal.returns-in-Some-behind_parents
returns-in-Some-behind_parents c = λ same.
    as_recorded c.args.graph.now c.args.kind (commit_layer c.args.commit) (commit_pos c.args.commit) c.args.contents.now
    (oid_bytes c.root_tree_id.result) c.in-Some.lines.now c.in-Some-behind_parents.rest.now
    (parents_left c.iter_parents.result) c.in-Some.ensures.line c.root_tree_id.ensures c.in-Some-behind_parents.ensures
    c.iter_parents.ensures.items
    (sym c.committer_timestamp.ensures ∙ sym (eqb-true _ _ same) ∙ c.older_time.ensures)
