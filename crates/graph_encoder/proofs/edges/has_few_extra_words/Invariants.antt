use Rattle.std.proofs.Common.{◌≡◌, ◌+◌, ◌<◌, length, drop}
use Rattle.graph_encoder.specs.ExtraEdges.{all_extra_words, top_bit}
use Rattle.graph_encoder.proofs.edges.has_few_extra_words.Given as goal

-- the words so far and those that are left are all words
abbrev pub invariant-loop-place : goal.invariant-loop-place
invariant-loop-place g l =
    let commits = (g.P.PlanView.as_plan l.plan).commits.items in
    record {
      all : l.words + length (all_extra_words (drop l.place commits)) ≡ length (all_extra_words commits);
      few : l.words < top_bit;
    }
