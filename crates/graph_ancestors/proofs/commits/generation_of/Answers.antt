use Rattle.std.proofs.Common.{sym, ◌∙◌}
use Rattle.graph_layer.specs.Commit.{commit_layer, commit_pos}
use Rattle.graph_ancestors.proofs.commits.generation_of.Goals as goal

pub returns : goal.returns
returns c =
    let commit = c.commit_of.result in
    c.generation.ensures
    ∙ sym (c.the_history_of_a_graph_says_what_its_records_say.ensures.generation c.args.graph.now c.args.pos.0
    (commit_pos commit) (commit_layer commit) c.requires.graph.opened c.commit_of.ensures)
