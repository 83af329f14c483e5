use Rattle.std.proofs.Common.{ℕ, ◌<◌, subst, arith}
use Rattle.graph_format.specs.Format.{Record}
use Rattle.gix_commitgraph.proofs.check.NearParentLemmas.{past_start, length-column, one-near, two-near}
use Rattle.gix_commitgraph.proofs.layers.LayerListLemmas.{size}
use Rattle.gix_commitgraph.proofs.graph.Graph.tally_within.Goals.{then-second-eq-NO_PARENT, else-second-eq-NO_PARENT}
use Rattle.gix_commitgraph.proofs.graph.Graph.tally_within.Goals as goal

pub returns : goal.returns
returns c =
    let layers = c.args.self.now in
    let span = c.args.span in
    let layer_pos : ℕ = c.args.layer_pos in
    let first = c.args.first in
    let second = c.args.second in
    let long =
    length-column layers span c.requires.span (λ (r : Record). r.generation) c.args.numbers.now c.requires.numbers in
    let below : past_start span first < size span.file.now =
    subst (λ (n : ℕ). past_start span first < n) long c.if-one-numbers.false in
    let fits : first < 4294967296 = omega (arith, c.ranges.first.fits) in
    elim c.if-second-eq-NO_PARENT.branch [
      | then-second-eq-NO_PARENT w ↦
          let most = rw w.count-is at c.max.ensures in
          rw w.count-is
          (one-near layers span c.requires.span c.args.numbers.now c.requires.numbers layer_pos first second c.max.result
          c.requires.first c.requires.second w.if-second-eq-NO_PARENT.true fits below (omega (arith, most)))
      | else-second-eq-NO_PARENT w ↦
          let other = rw w.count-is at c.if-other-numbers.false in
          rw w.count-is
          (two-near layers span c.requires.span c.args.numbers.now c.requires.numbers layer_pos first second c.max.result
          c.requires.first c.requires.second fits (omega (arith, c.ranges.second.fits)) below
          (subst (λ (n : ℕ). past_start span second < n) long other)
          (rw w.count-is at c.max.ensures))
    ]
