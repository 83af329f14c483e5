use Rattle.std.proofs.Common.{◌≡◌, [], sym, ◌∙◌, arith}
use Rattle.gix_commitgraph.specs.Graph.{graph_commits}
use Rattle.gix_commitgraph.specs.GraphRemaining.{cursor_left}
use Rattle.gix_commitgraph.proofs.layers.PositionLemmas.{places-next, length-places-next, places-none}
use Rattle.gix_commitgraph.proofs.iter.LayerCursor.next.Goals as goal

pub overflow_sub-self : goal.overflow_sub-self
overflow_sub-self c =
    omega (
      arith,
      c.loop-self.self.counted,
      length-places-next c.loop-self.self.file.now c.loop-self.self.next
          (graph_commits c.loop-self.self.rest.now) (omega arith),
    )

pub invariant_of-self-2 : goal.invariant_of-self-2
invariant_of-self-2 c = record {
  within = omega arith;
  counted =
      omega (
        arith,
        c.loop-self.self.counted,
        length-places-next c.loop-self.self.file.now c.loop-self.self.next
            (graph_commits c.loop-self.self.rest.now) (omega arith),
      );
}

pub returns-clause-next : goal.returns-clause-next
returns-clause-next c =
    sym c.loop-self.invariant
    ∙ places-next c.loop-self.self.file.now c.loop-self.self.next (graph_commits c.loop-self.self.rest.now) (omega arith)

pub returns-in-None-clause-next : goal.returns-in-None-clause-next
returns-in-None-clause-next c =
    let none : cursor_left c.loop-self.self ≡ [] =
    places-none c.loop-self.self.file.now c.loop-self.self.next c.loop-self.self.rest.now (omega arith)
    c.in-None.ensures.cases in
    (sym c.loop-self.invariant ∙ none, none)
