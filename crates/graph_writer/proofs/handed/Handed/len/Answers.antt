use Rattle.std.proofs.Common.{List, length, sym, ap, ◌∙◌}
use Rattle.std.proofs.lemmas.List.{length-map}
use Rattle.graph_writer.specs.declared.commit.NewCommit.{NewCommit}
use Rattle.graph_writer.proofs.handed.Handed.len.Goals as goal

pub returns : goal.returns
returns g c =
    sym (length-map c.self.inside.commits.now g.C.CommitView.as_commit)
    ∙ ap (λ (commits : List NewCommit). length commits) c.self.view_is
