-- The layer's part says how many words there are.
use Rattle.std.proofs.Common.{◌<◌, length, Option, refl, sym, ap, ◌∙◌, arith}
use Rattle.std.specs.Option.{option_map_or}
use Rattle.std.proofs.lemmas.Option.{slice_get_read}
use Rattle.graph_find.specs.declared.chain.ChainLayer.{ChainLayer}
use Rattle.graph_parts.specs.PartFiles.{edge_count}
use Rattle.graph_parts.specs.ShownLayer.{IsLayerParts}
use Rattle.graph_parts.proofs.GraphPartLemmas.{get-file}
use Rattle.graph_parts.proofs.ZipLemmas.{all-get}
use Rattle.graph_parts.proofs.parts.GraphParts.edges_of.Goals as goal

pub edge_count-requires : goal.edge_count-requires
edge_count-requires c =
    let items = c.args.self.now.layers.items in
    let within : c.args.layer < length items = omega (arith, c.args.self.now.layers.ok) in
    all-get IsLayerParts items c.args.layer c.index.result.now c.requires.each
    (slice_get_read items (length items) c.args.layer c.index.result.now refl within c.index.ensures)

pub returns : goal.returns
returns c =
    let items = c.args.self.now.layers.items in
    let within : c.args.layer < length items = omega (arith, c.args.self.now.layers.ok) in
    c.edge_count.ensures
    ∙ ap (λ (o : Option ChainLayer). option_map_or edge_count o 0)
    (sym (get-file items c.args.layer c.index.result.now
    (slice_get_read items (length items) c.args.layer c.index.result.now refl within c.index.ensures)))
