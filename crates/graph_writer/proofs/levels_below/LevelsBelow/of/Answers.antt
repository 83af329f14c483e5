use Rattle.std.proofs.Common.{true, List, sym, ap, subst, refl}
use Rattle.graph_format.specs.Layer.{Layer}
use Rattle.graph_writer.specs.LevelsBelow.{AreLevelsBelow}
use Rattle.graph_writer.specs.NewCommits.{layers_of_below}
use Rattle.graph_writer.specs.declared.levels_below.LevelsBelow.{LevelsBelow}
use Rattle.graph_writer.proofs.levels.FitSteps.{no-levels}
use Rattle.graph_writer.proofs.levels_below.LevelsBelow.of.Goals as goal

pub returns-in-None-clause-levels : goal.returns-in-None-clause-levels
returns-in-None-clause-levels c =
    let known : LevelsBelow = record { levels = c.new.result; have_dates = true } in
    subst (λ (layers : List Layer). AreLevelsBelow layers known) (sym (ap layers_of_below c.in-None.is))
    (no-levels known c.new.ensures.items refl)
