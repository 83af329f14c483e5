-- What is told of the graph at the path, or why there is none.
use Rattle.std.proofs.Common.{ℕ, List, Option, ap, refl, subst}
use Rattle.std.specs.Prelude.{Err, IfOk}
use Rattle.graph_format.specs.Layer.{Layer}
use Rattle.gix_commitgraph.specs.Sound.{Sound}
use Rattle.graph_history.specs.RightGraph.{CheckedLayers}
use Rattle.graph_commands.specs.OpenerAnswer.{MayOpenIn}
use Rattle.graph_commands.specs.WrittenAnswer.{WritesAnswer}
use Rattle.path_commands.specs.ToldPaths.{MayFindPaths, most_trees, paths_status, paths_text}
use Rattle.history_commands.specs.declared.check.CheckRefusal.TheVariants.{Graph}
use Rattle.path_commands.specs.declared.refusal.PathsRefusal.TheVariants.{Common}
use Rattle.path_commands.proofs.PathsLemmas.{graph_told, refusal_told}
use Rattle.path_commands.proofs.run.run_paths.Goals as goal

pub returns-in-Ok-clause-written : goal.returns-in-Ok-clause-written
returns-in-Ok-clause-written g c =
    let result = c.check_in-in-Ok.result in
    let before : Option (List ℕ) = g.R.Read.remaining c.args.reader.now in
    let after : Option (List ℕ) = g.R.Read.remaining c.check_in-in-Ok.new.reader in
    let old : Option (List ℕ) = g.W.Write.contents c.args.writer.now in
    let new : Option (List ℕ) = g.W.Write.contents c.check_in-in-Ok.new.writer in
    let layers = c.in-Ok.graph.layers in
    graph_told result c.args.standard (most_trees c.args.trees) before after old new layers
    (MayOpenIn g.T.Folder c.args.folder.now c.open_checked.new.folder c.args.path.now) c.in-Ok.ensures.opened
    (subst
    (λ (trees : ℕ). IfOk result
    (WritesAnswer paths_text paths_status
    (λ told. Sound layers × MayFindPaths c.args.standard trees before layers told.verdict) old new))
    c.most_trees-trees.ensures
    (subst
    (λ (some : List Layer). IfOk result (WritesAnswer paths_text paths_status
    (λ told. Sound some × MayFindPaths c.args.standard c.most_trees-trees.result before some told.verdict) old new))
    (ap (λ (v : CheckedLayers). v.layers) c.as_checked.ensures.same) c.check_in-in-Ok.ensures))

pub returns-in-Err-clause-written : goal.returns-in-Err-clause-written
returns-in-Err-clause-written g c =
    let input : Option (List ℕ) = g.R.Read.remaining c.args.reader.now in
    let old : Option (List ℕ) = g.W.Write.contents c.args.writer.now in
    let new : Option (List ℕ) = g.W.Write.contents c.tell_at_last.new.writer in
    refusal_told c.tell_at_last.result c.args.standard (most_trees c.args.trees) input old new
    (MayOpenIn g.T.Folder c.args.folder.now c.open_checked.new.folder c.args.path.now) c.in-Err.refusal
    (Err (Common (Graph c.in-Err.refusal))) c.in-Err.ensures.refused refl c.tell_at_last.ensures
