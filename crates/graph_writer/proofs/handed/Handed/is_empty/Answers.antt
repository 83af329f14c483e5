use Rattle.std.proofs.Common.{◌==◌, ℕ, List, length, sym, ap, ◌∙◌}
use Rattle.std.proofs.lemmas.List.{length-map}
use Rattle.graph_writer.specs.declared.commit.NewCommit.{NewCommit}
use Rattle.graph_writer.proofs.handed.Handed.is_empty.Goals as goal

pub returns : goal.returns
returns g c =
    c.is_empty.ensures
    ∙ ap (λ (n : ℕ). n == 0) (sym (length-map c.self.inside.commits.now g.C.CommitView.as_commit))
    ∙ ap (λ (commits : List NewCommit). length commits == 0) c.self.view_is
