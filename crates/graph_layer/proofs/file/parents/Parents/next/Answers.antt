use Rattle.std.proofs.Common.{rules}
use Rattle.graph_layer.proofs.ParentBoundLemmas.{hint-taken}
use Rattle.graph_layer.proofs.file.parents.Parents.next.Goals as goal

pub returns-then-word-2-clause-hint : goal.returns-then-word-2-clause-hint
returns-then-word-2-clause-hint c =
    let old = c.args.self.now in
    hint-taken old.started old.next old.after old.file.now.edges c.if-word.true c.if-word-2.true old.second_is_last

pub returns-else-word-3-clause-steps : goal.returns-else-word-3-clause-steps
returns-else-word-3-clause-steps c = search rules
