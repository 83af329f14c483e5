-- The first commits are answered for.
use Rattle.commitgraph_c.specs.Many.{AnswersFirst}
use Rattle.commitgraph_c.specs.Probes.{AnswersProbe}
use Rattle.commitgraph_c.proofs.probes.probe_all.Given as goal

abbrev pub invariant-loop-place : goal.invariant-loop-place
invariant-loop-place l = AnswersFirst (AnswersProbe l.filters l.path) l.positions l.place l.initial.out l.out
