use Rattle.commit_objects.proofs.ParentLemmas.{ids_are}
use Rattle.commit_objects.proofs.parents.Parents.of_lines.Goals as goal

pub returns : goal.returns
returns c = λ ids lines. ids_are c.args.kind ids c.args.lines.now lines
