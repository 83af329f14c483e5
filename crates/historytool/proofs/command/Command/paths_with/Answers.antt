-- The option is a word of its own.
use Rattle.std.proofs.Common.{◌∷◌, ℕ, List, IfSome, map, string_bytes, subst, sym}
use Rattle.std.specs.Prelude.{codes}
use Rattle.historytool.specs.HistorytoolCommands.{AskAfterName}
use Rattle.historytool.proofs.command.Command.paths_with.Goals as goal

pub returns-in-text-clause-asked : goal.returns-in-text-clause-asked
returns-in-text-clause-asked c help version =
    subst (λ (option : List ℕ). IfSome c.exact_paths.result (AskAfterName help version
    (codes "paths" ∷ option ∷ c.args.first.now ∷ map string_bytes c.args.others.now)))
    (sym c.in-text.is) (c.exact_paths.ensures.asked help version)

pub returns-in-text-2-clause-asked : goal.returns-in-text-2-clause-asked
returns-in-text-2-clause-asked c help version =
    subst (λ (option : List ℕ). IfSome c.limited_paths.result (AskAfterName help version
    (codes "paths" ∷ option ∷ c.args.first.now ∷ map string_bytes c.args.others.now)))
    (sym c.in-text-2.is) (c.limited_paths.ensures.asked help version)
