use Rattle.std.proofs.Common.{rules, ◌≡◌, Ok, subst, sym, true}
use Rattle.std.specs.Str.{is_utf8}
use Rattle.graph_format.specs.Layer.{Layer}
use Rattle.gix_commitgraph.specs.Opening.{layer_of_line}
use Rattle.gix_commitgraph.specs.Paths.{layer_path}
use Rattle.gix_commitgraph.proofs.opening.ChainOpeningLemmas.{IsRead, line-from_read}
use Rattle.gix_commitgraph.proofs.opening.chain.open_line.Goals as goal

pub returns-in_default-clause-opens : goal.returns-in_default-clause-opens
returns-in_default-clause-opens g c = search rules

-- the layer that is shared is what its path gives
pub returns-in_ok-share_layer-in-Some-known-clause-opens : goal.returns-in_ok-share_layer-in-Some-known-clause-opens
returns-in_ok-share_layer-in-Some-known-clause-opens g c = λ tree is.
    let file : Layer = c.in-Some-known.file.now in
    let read : IsRead tree file = rw c.in-Some-known.is at (c.requires.known tree is) in
    let text : is_utf8 c.args.line.now ≡ true = search rules in
    let named : file.path ≡ layer_path c.args.path.now c.args.line.now = search rules in
    let shared : c.in_ok-share_layer-in-Some-known.field-0 ≡ file = search rules in
    subst (λ (layer : Layer). Ok layer ≡ layer_of_line tree c.args.path.now c.args.layer c.args.line.now) (sym shared)
    (line-from_read tree c.args.path.now c.args.line.now c.args.layer file read text named)
