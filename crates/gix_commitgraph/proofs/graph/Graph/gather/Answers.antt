use Rattle.std.proofs.Common.{◌≡◌, ℕ, ◌%◌, ◌<◌, refl, ap, subst, ◌+◌, Option, None, Some, arith}
use Rattle.std.specs.Prelude.{slice_index_or}
use Rattle.graph_format.specs.DecodedRecords.{stored_parents}
use Rattle.gix_commitgraph.specs.Tallies.{IsGathered}
use Rattle.gix_commitgraph.specs.declared.verify.parents.ParentTally.{ParentTally}
use Rattle.gix_commitgraph.proofs.check.GatherLemmas.{one-more}
use Rattle.gix_commitgraph.proofs.check.NearParentLemmas.{column-at, length-column}
use Rattle.gix_commitgraph.proofs.graph.Graph.gather.Goals.{in-Some, in-None}
use Rattle.gix_commitgraph.proofs.graph.Graph.gather.Goals as goal

pub loop-index-init : goal.loop-index-init
loop-index-init c = record { sized = c.told-batch; gathered = λ i below. absurd (omega (arith, below)) }

pub bounds-fields-layer_pos : goal.bounds-fields-layer_pos
bounds-fields-layer_pos c =
    let below = c.loop-index-test.true in
    omega (
      arith,
      below,
      c.min-count.ensures,
      c.num_commits.ensures.ids,
      length-column c.args.self.now c.args.span c.requires.span stored_parents c.parent_fields-fields.result.now
          c.parent_fields-fields.ensures,
    )

pub tally_within-requires-clause-first : goal.tally_within-requires-clause-first
tally_within-requires-clause-first c =
    ap (λ (both : ℕ × ℕ). both.0)
    (column-at c.args.span.file.now stored_parents c.parent_fields-fields.result.now (c.args.first + c.loop-index.index) (0, 0)
    refl c.parent_fields-fields.ensures)

pub tally_within-requires-clause-second : goal.tally_within-requires-clause-second
tally_within-requires-clause-second c =
    ap (λ (both : ℕ × ℕ). both.1)
    (column-at c.args.span.file.now stored_parents c.parent_fields-fields.result.now (c.args.first + c.loop-index.index) (0, 0)
    refl c.parent_fields-fields.ensures)

pub loop-index-preserved : goal.loop-index-preserved
loop-index-preserved c =
    let more = λ (tally : Option ParentTally).
    one-more (λ i. IsGathered c.args.self.now c.args.span (c.args.first + i)) c.loop-index.batch c.loop-index.index tally None
    (omega (arith, c.loop-index.invariant.sized, c.loop-index-test.true, c.min-count.ensures)) c.loop-index.invariant.gathered in
    record {
      sized = c.match-tally_within.array_long;
      gathered = elim c.match-tally_within.branch [
        | in-Some w ↦ rw w.batch-is (more (Some w.in-Some.tally) w.in-Some.ensures)
        | in-None w ↦ rw w.batch-is (more w.gather_any.new.gathered w.gather_any.ensures)
      ];
    }

pub returns : goal.returns
returns c = λ layer_pos within near.
    let i : ℕ = layer_pos % 256 in
    let whole : c.args.first + i ≡ layer_pos = omega (arith, near, c.requires.begins) in
    let below : i < c.loop-index.index =
    omega (arith, whole, within, c.loop-index-test.false, c.min-count.ensures, c.num_commits.ensures.ids) in
    subst (λ (p : ℕ). IsGathered c.args.self.now c.args.span p (slice_index_or c.loop-index.batch i None)) whole
    (c.loop-index.invariant.gathered i below)
