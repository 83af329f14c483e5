use Rattle.std.proofs.Common.{◌≡◌, ◌-◌, ◌<◌, length, arith}
use Rattle.std.specs.Vec.{vec_len}
use Rattle.gix_commitgraph.proofs.layers.LayerStartLemmas.{kept-taken}
use Rattle.gix_commitgraph.proofs.graph.Graph.pop.Goals as goal

pub invariant_of-self : goal.invariant_of-self
invariant_of-self c =
    let files = c.self.inside.files in
    let starts = c.self.inside.starts in
    let kept = c.self.invariant in
    let more : 1 < length files.items = omega (arith, c.len.ensures, c.if-len-eq1.false, kept.graph.makes.some, files.ok.0) in
    let same : vec_len starts - 1 ≡ vec_len files - 1 = omega (arith, files.ok.0, starts.ok.0, kept.counted.one_each) in
    rw (c.pop-2.ensures.rest, c.pop.ensures.rest, same)
    (kept-taken files.items starts.items (vec_len files - 1) kept (omega (arith, files.ok.0)) (omega (arith, more, files.ok.0)))
