use Rattle.std.proofs.Common.{◌≡◌, ◌+◌, ℕ, List, Some, refl, sym, ap, ◌∙◌, arith}
use Rattle.std.proofs.lemmas.Option.{slice_get_within}
use Rattle.graph_encoder.specs.StoredNumbers.{stored_filter_numbers}
use Rattle.graph_encoder.specs.declared.filters.FilterNumbers.{FilterNumbers}
use Rattle.write_commands.proofs.CarriedSteps.{size-next, more-filters, no-room, top-is}
use Rattle.write_commands.proofs.filters.gathered.Goals as goal

pub loop-number-init : goal.loop-number-init
loop-number-init c = record {
  counted = c.new-gathered.ensures.none;
  numbers = refl;
  room = omega (arith, c.new-gathered.ensures.empty);
  each = λ p f lt at. absurd (omega (arith, lt));
}

pub loop-number-preserved : goal.loop-number-preserved
loop-number-preserved c =
    let n : ℕ = c.loop-number.number in
    let all : List (List ℕ) = c.args.filters.now.filters in
    let inv = c.loop-number.invariant in
    record {
      counted = c.in_ok-push.ensures.len ∙ ap (λ (m : ℕ). m + 1) inv.counted;
      numbers = c.in_ok-push.ensures.numbers ∙ inv.numbers;
      room =
          omega (
            arith,
            inv.room,
            c.in_ok-push.ensures.bytes,
            size-next all n c.filter_at-filter.result.now c.filter_at-filter.ensures,
          );
      each =
          more-filters all c.loop-number.gathered c.push.new.self c.filter_at-filter.result.now n c.filter_at-filter.ensures
          inv.counted c.in_ok-push.ensures.old c.in_ok-push.ensures.new inv.each;
    }

pub returns-then-not-has_room-clause-none : goal.returns-then-not-has_room-clause-none
returns-then-not-has_room-clause-none c =
    no-room c.args.filters.now.filters c.loop-number.gathered c.filter_at-filter.result.now c.loop-number.number c.has_room.result
    c.filter_at-filter.ensures c.has_room.ensures c.if-not-has_room.true c.loop-number.invariant.room

pub returns-clause-some : goal.returns-clause-some
returns-clause-some c =
    let inv = c.loop-number.invariant in
    let counted = c.num_commits-number-end.ensures.commits in
    record {
      as_many = omega (arith, inv.counted, counted);
      each = λ p f at. inv.each p f (omega (arith, slice_get_within c.args.filters.now.filters p f at, counted)) at;
      numbers = λ top at.
          let same : c.index-layers-layers.result ≡ top =
          top-is c.args.graph.now c.layers-layers.result.now c.index-layers-layers.result top c.layers-layers.ensures.same
          c.index-layers-layers.is at in
          ap stored_filter_numbers (sym same)
          ∙ sym c.filter_numbers.ensures
          ∙ c.in-Some.is
          ∙ ap (λ (n : FilterNumbers). Some n) (sym (inv.numbers ∙ c.new-gathered.ensures.numbers));
    }
