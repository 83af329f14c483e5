use Rattle.std.proofs.Common.{List, subst}
use Rattle.std.specs.Prelude.{IfOk}
use Rattle.graph_writer.specs.NewCommits.{layers_of_below}
use Rattle.graph_writer.specs.NewFilters.{filters_handed}
use Rattle.graph_writer.specs.WrittenFiles.{IsWrittenWith}
use Rattle.graph_writer.specs.declared.commit.NewCommit.{NewCommit}
use Rattle.graph_writer.proofs.write.write_layer_with_filters.Goals as goal

pub returns-clause-written : goal.returns-clause-written
returns-clause-written c =
    subst
    (λ (commits : List NewCommit). IfOk c.write_handed.result
    (λ bytes. IsWrittenWith (layers_of_below c.args.below) commits (filters_handed c.args.filters) bytes.items))
    c.handed_in-handed.ensures c.write_handed.ensures.written
