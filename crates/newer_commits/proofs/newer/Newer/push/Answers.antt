use Rattle.std.proofs.Common.{◌≡◌, ◌+◌, ◌∙◌, ◌∷◌, ◌++◌, [], ℕ, List, Contains, IfSome, ap, arith, get_or}
use Rattle.std.proofs.Common.{length, map, min, subst, sym, ⊎_elim}
use Rattle.std.proofs.lemmas.List.Elements.{Contains-get_or}
use Rattle.graph_walks.specs.declared.TheConstants.{GENERATION_NUMBER_MAX}
use Rattle.newer_commits.specs.CommitsOnTop.{CommitsOnTop, newer_commit, nodes_on_top}
use Rattle.graph_walks.specs.Counts.{greatest}
use Rattle.graph_walks.specs.History.{generation_at}
use Rattle.newer_commits.specs.JoinedHistory.{AreNumberedOnTop, joined_history}
use Rattle.newer_commits.proofs.AddLemmas.{numbered_after, ok_or_err}
use Rattle.newer_commits.proofs.newer.Newer.push.Goals as goal

pub push-requires-clause-before : goal.push-requires-clause-before
push-requires-clause-before g c =
    let are = c.requires.found.1 in
    let kept : c.in-Some.parents.items ≡ are.places = subst (λ o. IfSome o (λ v. v.items ≡ are.places)) c.in-Some.is are.kept in
    let same : c.deref.result.now ≡ are.places = c.deref.ensures.value ∙ kept in
    λ k d lt. are.there (get_or c.deref.result.now k d)
    (subst (λ (xs : List ℕ). Contains xs (get_or c.deref.result.now k d)) same (Contains-get_or c.deref.result.now k d lt))

pub invariant_of-self : goal.invariant_of-self
invariant_of-self g c =
    let are = c.requires.found.1 in
    let old = c.args.self.now.commits in
    let new = c.push.new.self in
    let parents = c.deref.result.now in
    let kept : c.in-Some.parents.items ≡ are.places = subst (λ o. IfSome o (λ v. v.items ≡ are.places)) c.in-Some.is are.kept in
    let same : parents ≡ are.places = c.deref.ensures.value ∙ kept in
    let count = g.S.CommitSource.count (g.S.CommitSource.known c.args.self.now.base) in
    record {
      below = c.push.ensures.below ∙ c.args.self.now.below;
      numbered = λ t told.
          ⊎_elim
          (λ (ok : new.commits ≡ old.commits ++ newer_commit c.args.id c.min-generation.result parents ∷ []).
          let size : length t.history ≡ old.below =
          c.num_commits.ensures.told t told ∙ c.num_commits.ensures.count ∙ sym c.args.self.now.below in
          let number : c.min-generation.result ≡ min GENERATION_NUMBER_MAX (1 + c.args.found.greatest) =
          omega (arith, c.min-generation.ensures, c.saturating_add.ensures) in
          numbered_after t.history old new c.args.id c.min-generation.result parents size (c.args.self.now.numbered t told)
          c.len.ensures.order
          (λ q contained. are.there q (subst (λ (xs : List ℕ). Contains xs q) same contained))
          (number
          ∙ ap (λ (m : ℕ). min GENERATION_NUMBER_MAX (1 + m))
          (are.number t told
          ∙ ap (λ (xs : List ℕ). greatest (map (generation_at (joined_history t.history (nodes_on_top old))) xs))
          (sym same)))
          ok)
          (λ (err : new ≡ old).
          subst (λ (x : CommitsOnTop). AreNumberedOnTop t.history (nodes_on_top x)) (sym err) (c.args.self.now.numbered t told))
          (ok_or_err c.push.result
          (new.commits ≡ old.commits ++ newer_commit c.args.id c.min-generation.result parents ∷ [])
          (new ≡ old) c.push.ensures.added c.push.ensures.err);
    }
