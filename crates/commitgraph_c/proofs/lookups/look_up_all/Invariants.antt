-- The first ids are looked up.
use Rattle.commitgraph_c.specs.Many.{AnswersFirst}
use Rattle.c_opening.specs.Answers.{AnswersLookup}
use Rattle.graph_format.specs.Format.{pieces}
use Rattle.commitgraph_c.proofs.lookups.look_up_all.Given as goal

abbrev pub invariant-loop-place : goal.invariant-loop-place
invariant-loop-place l = AnswersFirst (AnswersLookup l.opened) (pieces l.size l.ids) l.place l.initial.out l.out
