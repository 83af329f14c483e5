use Rattle.newer_commits.proofs.ContentsLemmas.{no_commits_of, commits_of_added}
use Rattle.newer_commits.proofs.law.added_commits_are_those_with_their_contents.Goals as goal

pub returns-clause-none : goal.returns-clause-none
returns-clause-none g c = λ kind facts top none. no_commits_of kind (g.S.Base.finds facts) top none

pub returns-clause-one_more : goal.returns-clause-one_more
returns-clause-one_more g c = λ kind facts old new contents bytes pos are adds.
    commits_of_added kind (g.S.Base.finds facts) old new contents bytes pos are adds
