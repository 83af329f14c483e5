use Rattle.std.proofs.Common.{◌≡◌, ◌<◌, ◌∙◌, List, Some, ap, arith, length, subst, sym}
use Rattle.std.proofs.lemmas.Option.{slice_get_read}
use Rattle.graph_format.specs.Format.{Record}
use Rattle.graph_format.specs.Layer.{Layer}
use Rattle.graph_format.specs.Parents.{edge_of}
use Rattle.c_opening.specs.Answers.{HasRecord}
use Rattle.commitgraph_c.proofs.OneLayer.{one_record}
use Rattle.commitgraph_c.proofs.commit_at.usual_edges.Goals as goal

pub returns-clause-edges : goal.returns-clause-edges
returns-clause-edges c =
    let layers = c.layers.result.now in
    let layer = c.index-layers-0.result in
    let one = ap length c.layers.ensures.same ∙ c.requires in
    let here = slice_get_read layers 1 0 layer (sym one) (omega arith) c.index-layers-0.is in
    let below : c.args.pos < length layer.ids = omega (arith, c.num_commits.ensures.ids, c.if-pos-num_commits.false) in
    let says = λ (r : Record). (c.from_raw.result ≡ edge_of r.parent1) × (c.from_raw-2.result ≡ edge_of r.parent2) in
    subst (λ (ls : List Layer). HasRecord (Some ls) c.args.pos says) c.layers.ensures.same
    (one_record layers layer c.args.pos says here below (
      c.from_raw.ensures ∙ ap edge_of c.fields_at-first.ensures.first,
      c.from_raw-2.ensures ∙ ap edge_of c.fields_at-first.ensures.second,
    ))
