-- What was asked for, an empty line, and then what is found.
use Rattle.std.proofs.Common.{ℕ, List, Option, subst}
use Rattle.graph_format.specs.Layer.{Layer}
use Rattle.path_commands.specs.ToldPaths.{IsAskedAndFound}
use Rattle.path_commands.proofs.PathsLemmas.{found_told}
use Rattle.path_commands.proofs.run.check_in.Goals as goal

pub returns : goal.returns
returns g c =
    let stream : Option (List ℕ) = g.R.Read.remaining c.args.reader.now in
    let before : Option (List ℕ) = g.W.Write.contents c.args.writer.now in
    let asked : Option (List ℕ) = g.W.Write.contents c.find.new.writer in
    found_told c.tell_at_last.result c.args.standard c.args.trees stream c.args.checked.now.layers c.in_ok-verdict.verdict _ _ _
    c.num_commits-commits.ensures.right
    (subst
    (λ (layers : List Layer). IsAskedAndFound c.args.standard c.args.trees stream layers before asked c.in_ok-verdict.verdict)
    c.graph.ensures.same c.in_ok-verdict.ensures) c.tell_at_last.ensures
