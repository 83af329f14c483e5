use Rattle.std.proofs.Common.{length, ap, ◌∙◌}
use Rattle.commit_search.specs.Source.{Told}
use Rattle.commit_search.proofs.RankedLemmas.{seen_length}
use Rattle.commit_search.proofs.ranked.RankedCommitSource.num_commits.Goals as goal

pub returns-clause-told : goal.returns-clause-told
returns-clause-told g c = λ t (x, said, is).
    let s = c.args.self.now in
    ap (λ (y : Told). length y.history) is ∙ seen_length (g.R.Ranks.ranking s.ranks.now x) s.least x.history
    ∙ c.num_commits.ensures.told x said
