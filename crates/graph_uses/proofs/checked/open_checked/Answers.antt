use Rattle.std.proofs.Common.{◌≡◌, Ok, rules}
use Rattle.gix_commitgraph.specs.OpenAlways.{IsFromPath}
use Rattle.gix_commitgraph.specs.OpenAnswer.{result_map_err}
use Rattle.graph_uses.specs.declared.error.QueryError.TheVariants.{Check}
use Rattle.graph_uses.proofs.RefusalLemmas.{from_checked}
use Rattle.graph_uses.proofs.checked.open_checked.Goals as goal

pub returns-clause-from : goal.returns-clause-from
returns-clause-from g c =
    let opened : c.at.result ≡ Ok c.in_ok-graph.graph = search rules in
    let from : IsFromPath c.args.path.now c.in_ok-graph.graph = rw opened at c.at.ensures.from in
    let same : c.map_err-2.result ≡ result_map_err (λ e. Check e) c.new.result = search rules in
    rw same (from_checked c.args.path.now c.in_ok-graph.graph c.new.result from c.new.ensures.graph)
