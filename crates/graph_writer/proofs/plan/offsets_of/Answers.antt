use Rattle.std.proofs.Common.{◌≡◌, ℕ, ◌+◌, ◌<◌, ◌^◌, List, All, length, get_or, slice_get, sym, ap, ◌∙◌, subst, arith}
use Rattle.std.proofs.lemmas.List.{length_push}
use Rattle.std.proofs.lemmas.List.Elements.{All-push}
use Rattle.std.proofs.lemmas.Option.{slice_get-get_or}
use Rattle.graph_levels.specs.OnTop.{level_at}
use Rattle.graph_writer.proofs.positions.LoopSteps.{more-places}
use Rattle.graph_writer.proofs.plan.offsets_of.Goals as goal

pub loop-place-init : goal.loop-place-init
loop-place-init c = record {
  as_many = ap length c.in_ok-offsets.ensures.items;
  fit =
      subst (All (λ (offset : ℕ). offset < 2 ^ 64)) (sym c.in_ok-offsets.ensures.items) (λ k d lt. absurd (omega arith));
  each = λ p offset at.
      let none = ap (λ (xs : List ℕ). slice_get xs p) (sym c.in_ok-offsets.ensures.items) ∙ at in cc;
}

pub loop-place-preserved : goal.loop-place-preserved
loop-place-preserved c =
    let inv = c.loop-place.invariant in
    let P : ℕ → ℕ → Type 0 =
    λ p offset. offset + get_or c.args.times.now p 0 ≡ (level_at c.args.levels.now p).date in
    record {
      as_many = ap length c.in_ok-push.ensures.items ∙ length_push _ _ ∙ ap (λ (n : ℕ). n + 1) inv.as_many;
      fit =
          subst (All (λ (offset : ℕ). offset < 2 ^ 64)) (sym c.in_ok-push.ensures.items)
          (All-push (λ (offset : ℕ). offset < 2 ^ 64) c.loop-place.offsets.items c.offset_of.result inv.fit
          c.offset_of.ensures.fits);
      each = λ p offset at.
          more-places P c.loop-place.offsets.items _ c.loop-place.place inv.as_many inv.each
          c.offset_of.ensures.sum p offset
          (ap (λ (xs : List ℕ). slice_get xs p) (sym c.in_ok-push.ensures.items) ∙ at);
    }

pub returns-clause-some : goal.returns-clause-some
returns-clause-some c =
    let inv = c.loop-place.invariant in (
      c.if-not-have_dates.false,
      record {
        as_many = omega (arith, inv.as_many);
        fit = inv.fit;
        each = λ p lt. inv.each p _ (slice_get-get_or c.loop-place.offsets.items p 0 (omega (arith, inv.as_many)));
      },
    )
