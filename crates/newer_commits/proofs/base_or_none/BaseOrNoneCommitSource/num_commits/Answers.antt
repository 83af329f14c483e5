use Rattle.std.proofs.Common.{◌≡◌, [], None, Option, length, refl, ap, ◌∙◌, subst}
use Rattle.std.specs.Option.{MatchOption}
use Rattle.graph_format.specs.StoredHistory.{history_of}
use Rattle.commit_search.specs.Source.{Told, told_of}
use Rattle.newer_commits.proofs.base_or_none.BaseOrNoneCommitSource.num_commits.Goals as goal

no_commits : length (history_of []) ≡ 0
unfolding history_of
no_commits = refl

told_by_none : {B : Type 0} (says : B → Type 0) (base : Option B) (t : Told) → base ≡ None
    → MatchOption base (t ≡ told_of []) says → length t.history ≡ 0
told_by_none says base t none told =
    ap (λ (x : Told). length x.history)
    (subst (λ (o : Option _). MatchOption o (t ≡ told_of []) says) none told)
    ∙ no_commits

-- where there is no base, a graph of no layers is told
pub returns-in-None-clause-told : goal.returns-in-None-clause-told
returns-in-None-clause-told g c =
    λ t told. told_by_none (λ base. g.B.CommitSource.says base t) c.args.self.now.base t c.in-None.is told
