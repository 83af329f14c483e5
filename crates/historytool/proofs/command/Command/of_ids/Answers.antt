-- The words after the name are those that it takes, or else no command is asked for.
use Rattle.std.proofs.Common.{◌∷◌, ℕ, List, IfSome, map, string_bytes, subst, sym}
use Rattle.historytool.specs.HistorytoolCommands.{AskAfterName}
use Rattle.historytool.proofs.command.Command.of_ids.Goals as goal

pub returns-in-ask-clause-asked : goal.returns-in-ask-clause-asked
returns-in-ask-clause-asked c help version =
    subst (λ (name : List ℕ). IfSome c.ask_unchecked.result (AskAfterName help version
    (name ∷ c.args.path.now ∷ c.args.first.now ∷ map string_bytes c.args.others.now)))
    (sym c.in-ask.is) (c.ask_unchecked.ensures.asked help version)

pub returns-in-paths-clause-asked : goal.returns-in-paths-clause-asked
returns-in-paths-clause-asked c help version =
    subst (λ (name : List ℕ). IfSome c.paths_with.result (AskAfterName help version
    (name ∷ c.args.path.now ∷ c.args.first.now ∷ map string_bytes c.args.others.now)))
    (sym c.in-paths.is) (c.paths_with.ensures.asked help version)
