use Rattle.std.proofs.Common.{◌≤◌, ◌≡◌, ◌+◌, ℕ, length, sym, ap, ◌∙◌, arith, rules}
use Rattle.graph_chunks.specs.GraphFilters.{FiltersOfGraph}
use Rattle.graph_chunks.proofs.GraphFilterLemmas.{length-filters, computed-more, computed-no_more, computed-all}
use Rattle.graph_chunks.proofs.filters.GraphFilters.computed.Goals.{then-not-is_empty, else-not-is_empty}
use Rattle.graph_chunks.proofs.filters.GraphFilters.computed.Goals as goal

pub filter_at-requires : goal.filter_at-requires
filter_at-requires c =
    omega (
      arith,
      c.loop-pos-test.true,
      c.loop-pos.auto.pos-end,
      c.num_commits-pos-end.ensures.commits,
      ap (λ (all : FiltersOfGraph). length all.filters) c.self.view_is,
      length-filters c.self.inside.graph.now,
    )

pub loop-pos-preserved : goal.loop-pos-preserved
loop-pos-preserved c = elim c.if-not-is_empty.branch [
  | then-not-is_empty w ↦
      let some : length c.filter_at.result.now ≡ 0 → ⊥ = λ none. absurd (search rules) in
      record {
        counted = w.computed-is
            ∙ ap (λ (n : ℕ). n + 1) c.loop-pos.invariant.counted
            ∙ sym (computed-more c.args.self.now.filters c.loop-pos.pos c.filter_at.result.now c.filter_at.ensures some);
        few = omega (arith, w.computed-is, c.loop-pos.invariant.few);
      }
  | else-not-is_empty w ↦
      let none : length c.filter_at.result.now ≡ 0 = search rules in
      record {
        counted = w.computed-is
            ∙ c.loop-pos.invariant.counted
            ∙ sym (computed-no_more c.args.self.now.filters c.loop-pos.pos c.filter_at.result.now c.filter_at.ensures none);
        few = omega (arith, w.computed-is, c.loop-pos.invariant.few);
      }
]

pub returns : goal.returns
returns c =
    let all : length c.args.self.now.filters ≤ c.loop-pos.pos =
    omega (
      arith,
      c.loop-pos-test.false,
      c.loop-pos.auto.pos-end,
      c.num_commits-pos-end.ensures.commits,
      ap (λ (all : FiltersOfGraph). length all.filters) c.self.view_is,
      length-filters c.self.inside.graph.now,
    ) in
    c.loop-pos.invariant.counted ∙ computed-all c.args.self.now.filters c.loop-pos.pos all
