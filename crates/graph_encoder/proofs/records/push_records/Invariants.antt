use Rattle.std.proofs.Common.{◌≡◌, ◌+◌, ◌++◌, length, drop}
use Rattle.graph_encoder.specs.ExtraEdges.{all_extra_words}
use Rattle.graph_encoder.specs.Written.{records_from}
use Rattle.graph_encoder.proofs.records.push_records.Given as goal

-- the records so far and those that are left are all records, and likewise the extra words
abbrev pub invariant-loop-place : goal.invariant-loop-place
invariant-loop-place g l =
    let commits = (g.P.PlanView.as_plan l.plan).commits.items in
    record {
      records : l.file.items ++ records_from l.index (drop l.place commits) ≡ l.initial.file.items ++ records_from 0 commits;
      words : l.index + length (all_extra_words (drop l.place commits)) ≡ length (all_extra_words commits);
    }
