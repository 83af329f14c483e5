-- The name of a question whose ids are texts yet, and these texts.
use Rattle.std.specs.Prelude.{ℕ, List, [], ◌∷◌, map, string_bytes}
use Rattle.question_lines.specs.declared.question.Name.{Name}
use Rattle.question_lines.specs.declared.question.Name.TheVariants as named
use Rattle.history_commands.specs.declared.spelled.SpelledQuestion.{SpelledQuestion}
use Rattle.history_commands.specs.declared.spelled.SpelledQuestion.TheVariants.{IsAncestor, Walk, MergeBase}

abbrev pub spelled_name : SpelledQuestion → Name
spelled_name (IsAncestor first second) = named.IsAncestor
spelled_name (Walk first second) = named.Walk
spelled_name (MergeBase first others) = named.MergeBase

abbrev pub spelled_texts : SpelledQuestion → List (List ℕ)
spelled_texts (IsAncestor first second) = first.now ∷ second.now ∷ []
spelled_texts (Walk first second) = first.now ∷ second.now ∷ []
spelled_texts (MergeBase first others) = first.now ∷ map string_bytes others.now
