use Rattle.std.proofs.Common.{◌≡◌, ◌++◌, List, Ok, ap, subst, ◌∙◌}
use Rattle.std.specs.Option.{ForSome}
use Rattle.std.specs.Prelude.{IfSome}
use Rattle.graph_format.specs.Layer.{Layer}
use Rattle.graph_history.specs.RightGraph.{CheckedLayers}
use Rattle.gix_commitgraph.specs.Opening.{chain_opened}
use Rattle.gix_commitgraph.specs.WasRead.{ChainWasRead}
use Rattle.graph_commands.specs.OpenerAnswer.{OpensStopping}
use Rattle.question_commands.specs.TakenAnew.{OpensAbove}
use Rattle.question_commands.proofs.TakingLemmas.{takes_put, takes_read}
use Rattle.question_commands.proofs.taking.take_chain.Goals as goal

pub returns-in-Some-clause-taken : goal.returns-in-Some-clause-taken
returns-in-Some-clause-taken g c =
    let known = g.T.Folder.tree c.args.folder.now in
    let path = c.args.path.now in
    let before = c.args.graph.now.layers in
    let read : List Layer → Type 0 = ChainWasRead g.T.Folder.gives path in
    let stand : c.layers.result.now ≡ before =
    c.layers.ensures.same ∙ c.graph-2.ensures.same ∙ ap (λ (v : CheckedLayers). v.layers) c.as_checked.ensures.same in
    let opens = subst (λ (layers : List Layer). ForSome known (λ tree.
    OpensAbove (chain_opened tree path) layers (Ok c.in_ok-above.above))) stand c.in_ok-above.ensures.opens in
    let given = subst (λ (layers : List Layer). IfSome c.in_ok-above.above (λ files. read (layers ++ files.items))) stand
    c.in_ok-above.ensures.given in
    takes_put known path read _ _ before c.put_above.new.graph.layers c.in_ok-above.above c.in_ok-above.ensures.failures opens
    given c.in-Some.answer c.in-Some.ensures.put

pub returns-clause-taken : goal.returns-clause-taken
returns-clause-taken g c =
    let path = c.args.path.now in
    let was = c.in_ok-opened.ensures in
    let opens = rw c.in_ok-above.ensures.tree at was.opens in
    let stands : c.put_above.new.graph.layers ≡ c.args.graph.now.layers = rw c.in_default.is at c.put_above.ensures.put in
    let took = rw stands at c.take_opened.ensures.taken in
    takes_read (OpensStopping (g.T.Folder.tree c.args.folder.now) (λ tree. chain_opened tree path) _ _)
    (ChainWasRead g.T.Folder.gives path) c.in_ok-opened.opened _ _ c.take_opened.result
    ((opens, was.graph), was.failures ∙ c.in_ok-above.ensures.failures) was.given took
