use Rattle.std.proofs.Common.{◌≡◌, ℕ, ◌+◌, ◌<◌, take, length, slice_index, All, cond}
use Rattle.std.specs.Prelude.{◌==◌}
use Rattle.graph_encoder.specs.Written.{ids_of, ids_with}
use Rattle.graph_encoder.proofs.FanSteps.{counted_with}
use Rattle.graph_encoder.proofs.fan.first_bytes.Given as goal

-- the ids so far are those that are counted and those of the run
abbrev pub invariant-loop-place : goal.invariant-loop-place
invariant-loop-place g l =
    let commits = (g.P.PlanView.as_plan l.plan).commits.items in
    record {
      size : length l.counts ≡ 256;
      first : l.byte < 256;
      counted : (b : ℕ) → b < 256 → counted_with l.counts l.byte l.run b ≡ ids_with b (ids_of (take l.place commits));
      bytes : All (λ id. slice_index id 0 < 256) (ids_of (take l.place commits));
    }
