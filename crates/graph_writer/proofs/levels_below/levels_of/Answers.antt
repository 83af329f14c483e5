use Rattle.std.proofs.Common.{◌≡◌, ℕ, ◌+◌, [], List, length, unwrap_or, slice_get, sym, ap, ◌∙◌, arith}
use Rattle.std.proofs.lemmas.List.{length_push}
use Rattle.std.proofs.lemmas.Option.{slice_get-get_or}
use Rattle.graph_walks.specs.Dates.{number_at}
use Rattle.graph_walks.specs.History.{generation_at}
use Rattle.graph_format.specs.StoredHistory.{history_of}
use Rattle.graph_levels.specs.OnTop.{no_level}
use Rattle.graph_levels.specs.declared.level.Level.{Level}
use Rattle.graph_writer.proofs.positions.LoopSteps.{more-places}
use Rattle.graph_writer.proofs.levels_below.levels_of.Goals as goal

pub loop-number-preserved : goal.loop-number-preserved
loop-number-preserved c =
    let inv = c.loop-number.invariant in
    let P : ℕ → Level → Type 0 =
    λ p level. (generation_at (history_of c.args.graph.now.layers) p ≡ level.generation)
    × (number_at (unwrap_or c.args.dates.now []) p ≡ level.date) in
    record {
      as_many = ap length c.in_ok-push.ensures.items ∙ length_push _ _ ∙ ap (λ (n : ℕ). n + 1) inv.as_many;
      each = λ p level at.
          more-places P c.loop-number.levels.items _ c.loop-number.number inv.as_many inv.each
          (sym c.generation.ensures, sym c.date_at.ensures) p level
          (ap (λ (xs : List Level). slice_get xs p) (sym c.in_ok-push.ensures.items) ∙ at);
    }

pub returns-clause-generations : goal.returns-clause-generations
returns-clause-generations c p lt =
    let inv = c.loop-number.invariant in
    (inv.each p _ (slice_get-get_or c.loop-number.levels.items p no_level (omega (arith, inv.as_many)))).0

pub returns-clause-dates : goal.returns-clause-dates
returns-clause-dates c p lt =
    let inv = c.loop-number.invariant in
    (inv.each p _ (slice_get-get_or c.loop-number.levels.items p no_level (omega (arith, inv.as_many)))).1
