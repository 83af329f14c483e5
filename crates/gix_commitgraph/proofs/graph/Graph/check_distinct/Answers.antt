use Rattle.std.proofs.Common.{◌≡◌, ◌+◌, ◌<◌, Some, None, refl, sym, subst, arith}
use Rattle.std.proofs.lemmas.Option.{slice_get_within}
use Rattle.gix_hash_core.specs.Oid.{oid_bytes}
use Rattle.graph_format.specs.Faults.{id_at}
use Rattle.graph_format.specs.Layer.{Layer}
use Rattle.graph_layer.specs.Commit.{commit_pos}
use Rattle.gix_commitgraph.specs.Graph.{start}
use Rattle.gix_commitgraph.proofs.lookup.DistinctLemmas.{none-below_distinct}
use Rattle.gix_commitgraph.proofs.lookup.DuplicateLemmas.{duplicate-is, id-told}
use Rattle.gix_commitgraph.proofs.layers.LayerListLemmas.{size}
use Rattle.gix_commitgraph.proofs.graph.Graph.check_distinct.Goals as goal

pub find_below-requires : goal.find_below-requires
find_below-requires g c = record {
  layer = let within = slice_get_within c.args.self.now c.args.span.layer _ c.requires.span.there in omega (arith, within);
  below = c.requires.below;
}

pub returns-then-pos-span : goal.returns-then-pos-span
returns-then-pos-span g c =
    let layers = c.args.self.now in
    let layer = c.args.span.file.now in
    let place = commit_pos c.args.commit.now in
    let is_p : c.args.pos.0 ≡ start layers c.args.span.layer + place =
    omega (arith, c.requires.commit.at, c.requires.span.start) in
    let within : place < size layer =
    subst (λ (l : Layer). place < size l) c.requires.commit.layer c.args.commit.now.in_range in
    let none =
    none-below_distinct layers c.args.span.distinct c.args.span.layer place layer c.requires.span.distinct c.requires.span.there
    within (omega (arith, is_p)) in
    duplicate-is layers c.args.span.layer layer place c.args.pos.0 (id_at layer place) None refl is_p (sym none)

pub returns-in-Some : goal.returns-in-Some
returns-in-Some g c =
    let is_p : c.args.pos.0 ≡ start c.args.self.now c.args.span.layer + commit_pos c.args.commit.now =
    omega (arith, c.requires.commit.at, c.requires.span.start) in
    duplicate-is c.args.self.now c.args.span.layer c.args.span.file.now (commit_pos c.args.commit.now) c.args.pos.0
    (oid_bytes c.id.result) (Some c.in-Some.earlier.0)
    (id-told _ c.args.span.file.now _ _ c.requires.commit.layer c.id.ensures) is_p c.in-Some.ensures

pub returns-in-None : goal.returns-in-None
returns-in-None g c =
    let is_p : c.args.pos.0 ≡ start c.args.self.now c.args.span.layer + commit_pos c.args.commit.now =
    omega (arith, c.requires.commit.at, c.requires.span.start) in
    duplicate-is c.args.self.now c.args.span.layer c.args.span.file.now (commit_pos c.args.commit.now) c.args.pos.0
    (oid_bytes c.id.result) None
    (id-told _ c.args.span.file.now _ _ c.requires.commit.layer c.id.ensures) is_p c.in-None.ensures
