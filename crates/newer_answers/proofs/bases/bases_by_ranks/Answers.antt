use Rattle.std.proofs.Common.{◌≡◌, ◌+◌, ◌*◌, ◌<◌, ◌≤◌, ◌∙◌, ℕ, All, IfOk, Some, ap, length, subst, sym}
use Rattle.std.proofs.lemmas.Result.{IfOk-weaker}
use Rattle.gix_hash_core.specs.declared.kind.Kind.{Kind}
use Rattle.graph_format.specs.declared.Position.{Position}
use Rattle.graph_bases.specs.declared.bases.Comparison.{Comparison}
use Rattle.commit_search.specs.Positions.{numbers_of}
use Rattle.newer_commits.specs.CommitsOnTop.{CommitsOnTop, end_of_top}
use Rattle.newer_answers.specs.AnswersOnTop.{AreBasesOnTop}
use Rattle.newer_answers.proofs.KeptOnTopLemmas.{kept_known}
use Rattle.newer_answers.proofs.OnTopLemmas.{ranked_so}
use Rattle.newer_answers.proofs.bases.bases_by_ranks.Goals as goal

pub returns-clause-kept : goal.returns-clause-kept
returns-clause-kept g c =
    kept_known g.S.Base.layers (g.S.CommitSource.says c.args.commits.now.base)
    (g.S.CommitSource.says c.compare_by-compared.new.commits.base) _ _ c.compare_by-compared.ensures.known
    c.compare_by-compared.ensures.kept

pub returns-clause-within : goal.returns-clause-within
returns-clause-within g c =
    let old = c.args.commits.now in
    let many = length old.commits.commits in
    let end : g.S.CommitSource.count (g.S.CommitSource.known old.base) + many ≡ end_of_top old.commits =
    ap (λ (n : ℕ). n + many) (sym old.below) in
    IfOk-weaker c.compare_by-compared.result _ _ (λ compared within.
    subst (λ (n : ℕ). All (λ (base : Position). base.0 < n) compared.bases.positions.items) end within)
    c.compare_by-compared.ensures.within

pub returns-clause-compared : goal.returns-clause-compared
returns-clause-compared g c =
    let old = c.args.commits.now in
    let new = c.compare_by-compared.new.commits in
    let many = length old.commits.commits in
    let end : g.S.CommitSource.count (g.S.CommitSource.known old.base) + many ≡ end_of_top old.commits =
    ap (λ (n : ℕ). n + many) (sym old.below) in
    let same =
    ap (λ (k : g.S.CommitSource.Known × g.S.Base.Facts × CommitsOnTop × Kind). k.2) c.compare_by-compared.ensures.known in
    let visits : IfOk c.compare_by-compared.result
    (λ (compared : Comparison). compared.bases.visits ≤ 3 * end_of_top new.commits) =
    IfOk-weaker c.compare_by-compared.result _ _ (λ compared most.
    subst (λ (t : CommitsOnTop). compared.bases.visits ≤ 3 * end_of_top t) (sym same)
    (subst (λ (n : ℕ). compared.bases.visits ≤ 3 * n) end most))
    c.compare_by-compared.ensures.visits in
    subst
    (λ (top : CommitsOnTop). IfOk c.compare_by-compared.result
    (AreBasesOnTop (g.S.CommitSource.says new.base) top (Some c.args.ranks.now) c.args.first.0 (numbers_of c.args.others.now)))
    same
    (ranked_so (g.S.CommitSource.says new.base) (g.S.Base.layers (g.S.Base.facts new.base)) new.commits c.args.ranks.now
    (λ t told. c.num_commits-commits.ensures.told t told ∙ c.num_commits-commits.ensures.count ∙ sym new.below)
    c.len-newer.ensures.order c.args.first.0 (numbers_of c.args.others.now) c.compare_by-compared.result visits
    c.compare_by-compared.ensures.common c.compare_by-compared.ensures.exact)
