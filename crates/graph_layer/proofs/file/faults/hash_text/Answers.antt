use Rattle.graph_layer.proofs.NameTestLemmas.{stripped}
use Rattle.graph_layer.proofs.file.faults.hash_text.Goals as goal

pub returns : goal.returns
returns c =
    stripped c.args.name.now c.in_ok-strip_prefix.field-0.now c.strip_suffix.result c.in_ok-strip_prefix.ensures.cases
    c.strip_suffix.ensures.cases
