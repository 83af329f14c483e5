-- The lines of the text that was read name the layers, which were read.
use Rattle.gix_commitgraph.specs.Paths.{chain_path}
use Rattle.question_commands.proofs.TakingLemmas.{chain_above}
use Rattle.question_commands.proofs.taking.open_above.Goals as goal

pub returns-clause-given : goal.returns-clause-given
returns-clause-given g c =
    let gives = g.T.Folder.gives in
    let folder = c.args.path.now in
    let text = c.as_slice.result.now in
    let above = c.open_lines_above.ensures in
    let given : gives (chain_path folder) text = rw c.as_slice.ensures.value c.in_ok-text.ensures.given in
    chain_above gives folder text c.args.standing.now c.open_lines_above.result given above.named above.given
