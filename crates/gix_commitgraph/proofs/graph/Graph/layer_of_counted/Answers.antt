use Rattle.std.proofs.Common.{◌≡◌, ◌+◌, ◌-◌, ◌/◌, ◌<◌, ◌^◌, length, ap, subst, arith}
use Rattle.graph_format.specs.Lookup.{digits}
use Rattle.graph_format.proofs.DigitLemmas.{digits-enough, digits-lower}
use Rattle.gix_commitgraph.specs.Graph.{IsGraph}
use Rattle.gix_commitgraph.proofs.layers.LayerListLemmas.{start-none, start-all}
use Rattle.gix_commitgraph.proofs.layers.LayerStartLemmas.{digits-rise, digits-upper, digits-one, start-kept}
use Rattle.gix_commitgraph.proofs.graph.Graph.layer_of_counted.Goals as goal

-- there is a start for each layer
starts-len : (c : goal.After-len-high) → c.len-high.result ≡ length c.args.self.now
starts-len c =
    omega (arith, c.len-high.ensures, c.self.inside.starts.ok.0, c.self.invariant.counted.one_each, ap length c.self.view_is)

pub loop-high-init : goal.loop-high-init
loop-high-init c =
    let layers = c.args.self.now in
    let graph : IsGraph layers = subst IsGraph c.self.view_is c.self.invariant.graph in
    let all : c.len-high.result ≡ length layers = starts-len c in
    record {
      some = omega (arith, graph.makes.some, all);
      within = omega (arith, all);
      from = omega (arith, start-none layers);
      below = omega (arith, c.requires, start-all layers c.len-high.result (omega (arith, all)));
      most = omega (arith, digits-rise (c.len-high.result - 0 - 1) (length layers) (omega (arith, all)));
      least = omega (arith, digits-rise (length layers) (c.len-high.result - 0) (omega (arith, all)));
    }

pub overflow_add-comparisons : goal.overflow_add-comparisons
overflow_add-comparisons c =
    let small : length c.args.self.now < 2 ^ 64 =
    omega (
      arith,
      c.self.inside.starts.ok.0,
      c.len-high.type_inv,
      c.len-high.ensures,
      c.self.invariant.counted.one_each,
      ap length c.self.view_is,
    ) in
    omega (
      arith,
      c.loop-high.invariant.most,
      digits-lower (c.loop-high.high - c.loop-high.low - 1) 0 (omega arith) (omega arith),
      digits-enough (length c.args.self.now) 64 small,
    )

pub loop-high-preserved-then-index-pos : goal.loop-high-preserved-then-index-pos
loop-high-preserved-then-index-pos c =
    let low = c.loop-high.low in
    let high = c.loop-high.high in
    let middle = low + (high - low) / 2 in
    let layers = c.args.self.now in
    let within : middle < length layers = omega arith in
    let read =
    start-kept layers c.self.inside.files.items c.self.inside.starts.items middle c.index.result.now c.self.view_is
    c.self.invariant within c.index.ensures in
    record {
      some = omega arith;
      within = omega arith;
      from = omega (arith, read);
      below = omega arith;
      most = omega (
        arith,
        c.loop-high.invariant.most,
        digits-lower (high - low - 1) (high - middle - 1) (omega arith) (omega arith),
      );
      least = omega (arith, c.loop-high.invariant.least, digits-upper (high - low) (high - middle) (omega arith) (omega arith));
    }

pub loop-high-preserved : goal.loop-high-preserved
loop-high-preserved c =
    let low = c.loop-high.low in
    let high = c.loop-high.high in
    let middle = low + (high - low) / 2 in
    let layers = c.args.self.now in
    let within : middle < length layers = omega arith in
    let read =
    start-kept layers c.self.inside.files.items c.self.inside.starts.items middle c.index.result.now c.self.view_is
    c.self.invariant within c.index.ensures in
    record {
      some = omega arith;
      within = omega arith;
      from = omega arith;
      below = omega (arith, read);
      most = omega (
        arith,
        c.loop-high.invariant.most,
        digits-lower (high - low - 1) (middle - low - 1) (omega arith) (omega arith),
      );
      least = omega (arith, c.loop-high.invariant.least, digits-upper (high - low) (middle - low) (omega arith) (omega arith));
    }

pub returns-clause-least : goal.returns-clause-least
returns-clause-least c =
    let one : c.loop-high.high - c.loop-high.low ≡ 1 = omega arith in
    omega (arith, c.loop-high.invariant.least, ap digits one, digits-one)
