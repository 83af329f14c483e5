use Rattle.std.proofs.Common.{subst}
use Rattle.newer_commits.specs.CommitsOnTop.{AreAfterParents}
use Rattle.newer_commits.proofs.KeptLemmas.{after_parents}
use Rattle.newer_commits.proofs.commits.NewerCommits.len.Goals as goal

pub returns-clause-order : goal.returns-clause-order
returns-clause-order c =
    subst AreAfterParents c.self.view_is
    (after_parents c.self.inside.below c.self.inside.numbers c.self.inside.commits.items c.self.inside.words.items
    c.self.invariant)
