use Rattle.newer_commits.proofs.ContentsLemmas.{commits_lead, lead_along}
use Rattle.newer_commits.proofs.law.walks_of_newer_commits_are_those_along_parent_lines.Goals as goal

pub returns-clause-only : goal.returns-clause-only
returns-clause-only g c = λ kind facts top contents base i j are below from to.
    commits_lead kind (g.S.Base.finds facts) top contents base are below i j from to

pub returns-clause-exactly : goal.returns-clause-exactly
returns-clause-exactly g c = λ kind facts top contents base i j are below from to once. (
  commits_lead kind (g.S.Base.finds facts) top contents base are below i j from to,
  lead_along kind (g.S.Base.finds facts) top contents base are below once i j from to,
)
