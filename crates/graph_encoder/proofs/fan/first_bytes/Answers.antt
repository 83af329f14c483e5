use Rattle.std.proofs.Common.{◌≡◌, ◌∙◌, ℕ, ◌+◌, ◌<◌, List, length, set, get_or, slice_index, ap, arith}
use Rattle.std.proofs.Common.{subst, sym, All, length-set, replicate}
use Rattle.std.proofs.lemmas.List.{length-replicate, get_or-replicate, take_all}
use Rattle.graph_encoder.specs.declared.plan.PlanCommit.{PlanCommit}
use Rattle.graph_encoder.specs.Written.{ids_of, ids_with}
use Rattle.graph_encoder.proofs.FanSteps.{counted_with, run-more, run-counted, run-begins, run-small, bytes-more}
use Rattle.graph_encoder.proofs.RowSteps.{row-here}
use Rattle.graph_encoder.proofs.fan.first_bytes.Goals as goal
use Rattle.graph_encoder.proofs.fan.first_bytes.Goals.{then-next-byte, else-next-byte}

pub loop-place-init : goal.loop-place-init
loop-place-init g c = record {
  size = length-replicate {A = ℕ} 256 0;
  first = omega arith;
  counted = λ b h. run-begins (replicate 256 0) 0 b ∙ get_or-replicate 256 b 0 0 h;
  bytes = λ k d h. absurd (omega (arith, h));
}

pub overflow_add-run : goal.overflow_add-run
overflow_add-run g c =
    let commits = (g.P.PlanView.as_plan c.args.plan.now).commits.items in
    let old = c.loop-place in
    let small = run-small old.counts commits old.place old.byte old.run (omega arith)
    (old.invariant.counted old.byte old.invariant.first) in
    elim c.if-next-byte.branch [
      | then-next-byte w ↦ omega (arith, w.run-is)
      | else-next-byte w ↦ omega (arith, w.run-is, small)
    ]

pub loop-place-preserved : goal.loop-place-preserved
loop-place-preserved g c =
    let commits = (g.P.PlanView.as_plan c.args.plan.now).commits.items in
    let old = c.loop-place in
    let new = c.if-next-byte in
    let i : ℕ = old.place in
    let within : i < length commits = omega arith in
    let here = row-here (g.P.PlanView.as_plan c.args.plan.now) i c.row.result within c.row.ensures in
    let first : c.first_byte-next.result ≡ slice_index here.0.id 0 = c.first_byte-next.ensures
    ∙ ap (λ bytes. slice_index bytes 0) here.1.says.id in
    let bytes = bytes-more commits i c.first_byte-next.result here.0 within here.1.is first c.first_byte-next.type_inv
    old.invariant.bytes in
    elim new.branch [
      | then-next-byte w ↦
          let added : List ℕ = set old.counts old.byte (get_or old.counts old.byte 0 + old.run) in
          let counts : new.counts ≡ added = w.counts-is in
          record {
            size = ap length counts ∙ length-set old.counts old.byte _ ∙ old.invariant.size;
            first = omega (arith, w.byte-is, c.first_byte-next.type_inv);
            counted = λ b h.
                run-more new.counts commits i new.byte new.run b here.0 within here.1.is (w.byte-is ∙ first)
                (ap (λ (all : List ℕ). counted_with all new.byte new.run b) counts
                ∙ ap (λ (run : ℕ). counted_with added new.byte run b) w.run-is
                ∙ run-begins added new.byte b
                ∙ run-counted old.counts old.byte old.run b (omega (arith, old.invariant.size, old.invariant.first))
                ∙ old.invariant.counted b h);
            bytes = bytes;
          }
      | else-next-byte w ↦
          record {
            size = ap length w.counts-is ∙ old.invariant.size;
            first = omega (arith, w.byte-is, old.invariant.first);
            counted = λ b h.
                run-more new.counts commits i new.byte new.run b here.0 within here.1.is
                (let same : new.byte ≡ c.first_byte-next.result = omega (arith, w.byte-is, w.if-next-byte.false) in same ∙ first)
                (ap (λ (all : List ℕ). counted_with all new.byte new.run b) w.counts-is
                ∙ ap (λ (byte : ℕ). counted_with old.counts byte new.run b) w.byte-is
                ∙ ap (λ (run : ℕ). counted_with old.counts old.byte run b) w.run-is
                ∙ old.invariant.counted b h);
            bytes = bytes;
          }
    ]
