use Rattle.std.proofs.Common.{◌≡◌, rules}
use Rattle.graph_layer.specs.OpenAnswer.{result_map_err}
use Rattle.graph_layer.specs.OpenRefusals.{layer_refused}
use Rattle.graph_layer.proofs.LayerOpeningLemmas.{layer_opens}
use Rattle.graph_layer.proofs.opening.new_layer.Goals as goal

pub returns-clause-opens : goal.returns-clause-opens
returns-clause-opens c =
    let same : c.map_err.result ≡ result_map_err (layer_refused c.args.layer) c.new.result = search rules in
    rw same (layer_opens c.args.layer _ _ c.new.result c.new.ensures.layer c.new.ensures.refusal)
