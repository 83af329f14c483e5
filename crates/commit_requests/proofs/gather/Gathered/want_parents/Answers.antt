use Rattle.std.proofs.Common.{rules, ◌≡◌, ◌∙◌, ◌∷◌, ◌++◌, [], ℕ, List, ap, subst, sym}
use Rattle.newer_commits.specs.CommitsOnTop.{CommitsOnTop}
use Rattle.commit_requests.specs.Gathering.{WantsMore}
use Rattle.commit_requests.proofs.GatherLemmas.{wants_next}
use Rattle.commit_requests.proofs.StreamLemmas.{append_again}
use Rattle.commit_requests.proofs.gather.Gathered.want_parents.Goals as goal

pub loop-id-preserved : goal.loop-id-preserved
loop-id-preserved g c =
    let finds = g.S.Base.finds in
    let facts = g.S.Base.facts in
    let old = c.args.newer.now in
    let mid = c.loop-id.newer in
    let asked : List (List ℕ) = c.args.requests.now.asked in
    let yielded : List (List ℕ) = c.loop-id.yielded in
    let id : List ℕ = c.in-Some.id in
    let names : c.loop-id.id-iterator ≡ id ∷ c.next.new.self = search rules in
    let before : List (List ℕ) = c.loop-id.self.wanted.items in
    let after : List (List ℕ) = c.want.new.self.wanted.items in
    let one : WantsMore (finds (facts old.base)) old.commits asked before after (id ∷ []) =
    subst (λ (t : CommitsOnTop). WantsMore (finds (facts old.base)) t asked before after (id ∷ [])) c.loop-id.invariant.commits
    (subst (λ (f : g.S.Base.Facts). WantsMore (finds f) mid.commits asked before after (id ∷ [])) c.loop-id.invariant.facts
    c.in-Ok.ensures.wanted) in
    record {
      can_next = tt;
      is_finite = tt;
      known = c.in-Ok.ensures.known ∙ c.loop-id.invariant.known;
      facts = c.in-Ok.ensures.facts ∙ c.loop-id.invariant.facts;
      kept = λ t told. c.loop-id.invariant.kept t (c.in-Ok.ensures.kept t told);
      kind = c.in-Ok.ensures.kind ∙ c.loop-id.invariant.kind;
      commits = c.in-Ok.ensures.commits ∙ c.loop-id.invariant.commits;
      held = c.in-Ok.ensures.held ∙ c.loop-id.invariant.held;
      left = append_again yielded (id ∷ []) c.next.new.self
          ∙ (ap (λ (xs : List (List ℕ)). yielded ++ xs) (sym names) ∙ c.loop-id.invariant.left);
      wanted = wants_next (finds (facts old.base)) old.commits asked c.args.self.now.wanted.items before after yielded id
          c.loop-id.invariant.wanted one;
    }
