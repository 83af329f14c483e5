use Rattle.commit_search.specs.WalkAnswer.{IsAtOrAbove, IsAbove}
use Rattle.commit_search.proofs.VisitLemmas.{counted_least, counted_most}
use Rattle.commit_search.proofs.law.numbers_of_commits_are_lengths_of_lists.Goals as goal

pub returns-clause-least : goal.returns-clause-least
returns-clause-least c = λ history from to n ps lists. counted_least ps (IsAtOrAbove history from to) lists n

pub returns-clause-most : goal.returns-clause-most
returns-clause-most c = λ history from to n ps lists. counted_most ps (IsAbove history from to) lists n
