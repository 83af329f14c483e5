use Rattle.std.proofs.Common.{IfNone, IfSome, ap, subst}
use Rattle.gix_hash_core.specs.declared.kind.Kind.{Kind}
use Rattle.commit_search.specs.Positions.{numbers_of}
use Rattle.newer_commits.specs.CommitsOnTop.{CommitsOnTop}
use Rattle.newer_answers.specs.AnswersOnTop.{LeadsOnTop, NeverLeadsOnTop}
use Rattle.newer_answers.proofs.KeptOnTopLemmas.{kept_known}
use Rattle.newer_answers.proofs.OnTopLemmas.{leads_kept, never_kept}
use Rattle.newer_answers.proofs.walk.steps_between.Goals as goal

pub returns-in_err-reached-clause-kept : goal.returns-in_err-reached-clause-kept
returns-in_err-reached-clause-kept g c =
    kept_known g.S.Base.layers (g.S.CommitSource.says c.args.commits.now.base)
    (g.S.CommitSource.says c.ancestor_walk.new.commits.base) _ _ c.ancestor_walk.ensures.known c.ancestor_walk.ensures.kept

pub returns-clause-kept : goal.returns-clause-kept
returns-clause-kept g c =
    kept_known g.S.Base.layers (g.S.CommitSource.says c.args.commits.now.base)
    (g.S.CommitSource.says c.ancestor_walk.new.commits.base) _ _ c.ancestor_walk.ensures.known c.ancestor_walk.ensures.kept

pub returns-clause-walk : goal.returns-clause-walk
returns-clause-walk g c =
    let new = c.ancestor_walk.new.commits in
    let says = g.S.CommitSource.says new.base in
    subst
    (λ (top : CommitsOnTop). IfSome c.unless_past.result
    (λ walk. LeadsOnTop says top c.args.from.0 c.args.to.0 (numbers_of walk.items)))
    (ap (λ (k : g.S.CommitSource.Known × g.S.Base.Facts × CommitsOnTop × Kind). k.2) c.ancestor_walk.ensures.known)
    (leads_kept says (g.S.Base.layers (g.S.Base.facts new.base)) new.commits c.num_newer-newer.ensures.numbered
    c.args.from.0 c.args.to.0 c.in_ok-reached.reached c.in_ok-reached.ensures.answer c.in_ok-reached.ensures.right
    c.unless_past.result c.unless_past.ensures.same)

pub returns-clause-none : goal.returns-clause-none
returns-clause-none g c =
    let new = c.ancestor_walk.new.commits in
    let says = g.S.CommitSource.says new.base in
    subst
    (λ (top : CommitsOnTop). IfNone c.unless_past.result (NeverLeadsOnTop says top c.args.from.0 c.args.to.0))
    (ap (λ (k : g.S.CommitSource.Known × g.S.Base.Facts × CommitsOnTop × Kind). k.2) c.ancestor_walk.ensures.known)
    (never_kept says (g.S.Base.layers (g.S.Base.facts new.base)) new.commits c.num_newer-newer.ensures.numbered
    c.args.from.0 c.args.to.0 c.in_ok-reached.reached c.in_ok-reached.ensures.answer c.in_ok-reached.ensures.right
    c.num_commits.result c.unless_past.result c.num_commits.ensures.told c.unless_past.ensures.none)
