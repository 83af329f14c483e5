use Rattle.std.proofs.Common.{rules, ◌≡◌, ◌∙◌, ◌∷◌, ◌++◌, [], ℕ, List, ap, arith, drop, subst, sym, take}
use Rattle.newer_commits.specs.CommitsOnTop.{CommitsOnTop}
use Rattle.newer_commits.specs.FoundParents.{AreFoundParents, IsOneParentRefusal}
use Rattle.newer_commits.proofs.AddLemmas.{first_refused}
use Rattle.newer_commits.proofs.FoundLemmas.{all_taken, found_kept, found_there, next_of}
use Rattle.newer_commits.proofs.newer.Newer.find_parents.Goals as goal

pub loop-id-preserved : goal.loop-id-preserved
loop-id-preserved g c =
    let finds = g.S.Base.finds in
    let facts = g.S.Base.facts in
    let says = g.S.CommitSource.says in
    let base = c.args.self.now.base in
    let top = c.args.self.now.commits in
    let n = c.loop-id.found.count in
    let ids = take n c.args.parents in
    let names : c.loop-id.id-iterator ≡ c.in-Some.id ∷ c.next.new.self = search rules in
    let next = next_of c.args.parents n c.in-Some.id c.next.new.self (sym c.loop-id.invariant.left ∙ names) in
    let same = g.met.S.Base.follow c.loop-id.self.base base c.loop-id.invariant.known in
    let after = says c.with_parent.new.self.base in
    let before = found_kept (finds (facts base)) (says c.loop-id.self.base) after top ids c.loop-id.found c.in-Ok.ensures.kept
    c.loop-id.invariant.found in
    let step : AreFoundParents (finds (facts base)) after top ids c.loop-id.found
    → AreFoundParents (finds (facts base)) after top (ids ++ c.in-Some.id ∷ []) c.in-Ok.more =
    subst
    (λ (f : g.S.Base.Facts). AreFoundParents (finds f) after top ids c.loop-id.found
    → AreFoundParents (finds f) after top (ids ++ c.in-Some.id ∷ []) c.in-Ok.more)
    same
    (subst
    (λ (t : CommitsOnTop). AreFoundParents (finds (facts c.loop-id.self.base)) after t ids c.loop-id.found
    → AreFoundParents (finds (facts c.loop-id.self.base)) after t (ids ++ c.in-Some.id ∷ []) c.in-Ok.more)
    c.loop-id.invariant.same (c.in-Ok.ensures.found ids)) in
    record {
      can_next = tt;
      is_finite = tt;
      known = c.in-Ok.ensures.known ∙ c.loop-id.invariant.known;
      kept = λ t told. c.loop-id.invariant.kept t (c.in-Ok.ensures.kept t told);
      kind = c.in-Ok.ensures.kind ∙ c.loop-id.invariant.kind;
      same = c.in-Ok.ensures.same ∙ c.loop-id.invariant.same;
      left = sym (ap (λ (k : ℕ). drop k c.args.parents) c.in-Ok.ensures.count ∙ next.1);
      found =
          subst (λ (all : List (List ℕ)). AreFoundParents (finds (facts base)) after top all c.in-Ok.more)
          (sym (ap (λ (k : ℕ). take k c.args.parents) c.in-Ok.ensures.count ∙ next.0)) (step before);
    }

pub returns-in-Err-clause-refused : goal.returns-in-Err-clause-refused
returns-in-Err-clause-refused g c =
    let finds = g.S.Base.finds in
    let facts = g.S.Base.facts in
    let may_fail = g.S.CommitSource.may_fail in
    let base = c.args.self.now.base in
    let top = c.args.self.now.commits in
    let n = c.loop-id.found.count in
    let names : c.loop-id.id-iterator ≡ c.in-Some.id ∷ c.next.new.self = search rules in
    let next = next_of c.args.parents n c.in-Some.id c.next.new.self (sym c.loop-id.invariant.left ∙ names) in
    let same = g.met.S.Base.follow c.loop-id.self.base base c.loop-id.invariant.known in
    let there = found_there (finds (facts base)) (g.S.CommitSource.says c.loop-id.self.base) top (take n c.args.parents)
    c.loop-id.found c.loop-id.invariant.found in
    let refused =
    subst
    (λ (f : g.S.Base.Facts). IsOneParentRefusal (finds f) (may_fail (g.S.CommitSource.known base)) top n c.in-Some.id
    c.in-Err.error)
    same
    (subst
    (λ (k : g.S.CommitSource.Known). IsOneParentRefusal (finds (facts c.loop-id.self.base)) (may_fail k) top n c.in-Some.id
    c.in-Err.error)
    c.loop-id.invariant.known
    (subst
    (λ (t : CommitsOnTop). IsOneParentRefusal (finds (facts c.loop-id.self.base))
    (may_fail (g.S.CommitSource.known c.loop-id.self.base)) t n c.in-Some.id c.in-Err.error)
    c.loop-id.invariant.same c.in-Err.ensures.refused)) in
    first_refused (finds (facts base)) (may_fail (g.S.CommitSource.known base)) top c.args.parents n c.in-Some.id there next.2
    c.in-Err.error refused

pub returns-clause-found : goal.returns-clause-found
returns-clause-found g c =
    let finds = g.S.Base.finds (g.S.Base.facts c.args.self.now.base) in
    let none : c.loop-id.id-iterator ≡ [] = search rules in
    let all : take c.loop-id.found.count c.args.parents ≡ c.args.parents =
    all_taken c.args.parents c.loop-id.found.count (sym c.loop-id.invariant.left ∙ none) in
    subst
    (λ (ids : List (List ℕ)). AreFoundParents finds (g.S.CommitSource.says c.loop-id.self.base) c.args.self.now.commits ids
    c.loop-id.found)
    all c.loop-id.invariant.found

pub with_parent-requires : goal.with_parent-requires
with_parent-requires g c =
    let names : c.loop-id.id-iterator ≡ c.in-Some.id ∷ c.next.new.self = search rules in
    let next = next_of c.args.parents c.loop-id.found.count c.in-Some.id c.next.new.self (sym c.loop-id.invariant.left ∙ names) in
    omega (arith, next.3, c.requires, c.ranges.most.fits)
