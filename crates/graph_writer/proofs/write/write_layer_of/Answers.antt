use Rattle.std.proofs.Common.{List, subst}
use Rattle.std.specs.Prelude.{IfOk, IfErr}
use Rattle.graph_writer.specs.NewCommits.{layers_of_below}
use Rattle.graph_writer.specs.WrittenFiles.{IsWritten}
use Rattle.graph_writer.specs.WritingRefusal.{AreAccepted, MayRefuseWriting}
use Rattle.graph_writer.specs.declared.commit.NewCommit.{NewCommit}
use Rattle.graph_writer.proofs.write.write_layer_of.Goals as goal

pub returns-clause-written : goal.returns-clause-written
returns-clause-written g c =
    let layers = layers_of_below c.args.below in
    subst
    (λ (commits : List NewCommit). IfOk c.write_handed.result (λ bytes. IsWritten layers commits bytes.items))
    c.of-handed.ensures c.write_handed.ensures.written

pub returns-clause-accepted : goal.returns-clause-accepted
returns-clause-accepted g c =
    subst
    (λ (commits : List NewCommit). IfOk c.write_handed.result (λ _. AreAccepted (layers_of_below c.args.below) commits))
    c.of-handed.ensures c.write_handed.ensures.accepted

pub returns-clause-refusal : goal.returns-clause-refusal
returns-clause-refusal g c =
    subst
    (λ (commits : List NewCommit). IfErr c.write_handed.result (MayRefuseWriting (layers_of_below c.args.below) commits))
    c.of-handed.ensures c.write_handed.ensures.refusal
