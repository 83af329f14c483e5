-- The words of `ask` and of `paths` are those of their names.
use Rattle.std.proofs.Common.{◌∷◌, [], ℕ, List, IfSome, subst, sym}
use Rattle.historytool.specs.HistorytoolCommands.{AskAfterName}
use Rattle.historytool.proofs.command.Command.of_path.Goals as goal

pub returns-in-ask-clause-asked : goal.returns-in-ask-clause-asked
returns-in-ask-clause-asked c help version =
    subst (λ (name : List ℕ). IfSome c.ask.result (AskAfterName help version (name ∷ c.args.path.now ∷ [])))
    (sym c.in-ask.is) (c.ask.ensures.asked help version)

pub returns-in-paths-clause-asked : goal.returns-in-paths-clause-asked
returns-in-paths-clause-asked c help version =
    subst (λ (name : List ℕ). IfSome c.paths.result (AskAfterName help version (name ∷ c.args.path.now ∷ [])))
    (sym c.in-paths.is) (c.paths.ensures.asked help version)
