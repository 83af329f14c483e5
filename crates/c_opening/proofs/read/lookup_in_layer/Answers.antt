use Rattle.std.proofs.Common.{◌≡◌, ◌∙◌, List, None, Some, ap, arith, length, rules, subst, sym}
use Rattle.std.proofs.lemmas.Option.{slice_get_read}
use Rattle.gix_hash_core.specs.Oid.{oid_bytes}
use Rattle.graph_format.specs.Layer.{Layer}
use Rattle.graph_format.specs.Lookup.{Found}
use Rattle.gix_commitgraph.specs.GraphLookup.{FoundIn}
use Rattle.c_opening.proofs.OneLayer.{only_found, only_none}
use Rattle.c_opening.proofs.read.lookup_in_layer.Goals as goal

pub returns-in-Some-clause-found : goal.returns-in-Some-clause-found
returns-in-Some-clause-found c =
    let layers = c.layers.result.now in
    let layer = c.index-layers-0.result in
    let one : length layers ≡ 1 = ap length c.layers.ensures.same ∙ c.requires.one in
    let here = slice_get_read layers 1 0 layer (sym one) (omega arith) c.index-layers-0.is in
    let found : Found layer (oid_bytes c.args.id) (Some c.in-Some.pos.0) = search rules in
    subst (λ (ls : List Layer). FoundIn ls (oid_bytes c.args.id) (Some c.in-Some.pos.0)) c.layers.ensures.same
    (only_found layers layer (oid_bytes c.args.id) c.in-Some.pos.0 here found)

pub returns-in-None-clause-found : goal.returns-in-None-clause-found
returns-in-None-clause-found c =
    let layers = c.layers.result.now in
    let layer = c.index-layers-0.result in
    let one : length layers ≡ 1 = ap length c.layers.ensures.same ∙ c.requires.one in
    let here = slice_get_read layers 1 0 layer (sym one) (omega arith) c.index-layers-0.is in
    let found : Found layer (oid_bytes c.args.id) None = search rules in
    subst (λ (ls : List Layer). FoundIn ls (oid_bytes c.args.id) None) c.layers.ensures.same
    (only_none layers layer (oid_bytes c.args.id) one here found)
