use Rattle.std.proofs.Common.{◌≡◌, ◌∙◌, ℕ, List, None, ap, arith, length, subst}
use Rattle.commit_objects.specs.Object.{object_id_of}
use Rattle.newer_commits.specs.Adding.{IsNewCommit}
use Rattle.newer_commits.specs.CommitsOnTop.{CommitsOnTop}
use Rattle.newer_commits.specs.FindingOnTop.{Finds}
use Rattle.newer_commits.specs.FoundParents.{AreFoundParents, IsParentRefusal}
use Rattle.newer_commits.proofs.AddLemmas.{parent_refused}
use Rattle.newer_commits.proofs.FoundLemmas.{few_parents}
use Rattle.newer_commits.proofs.newer.Newer.prepare.Goals as goal

pub find_parents-requires : goal.find_parents-requires
find_parents-requires g c =
    let few = few_parents c.args.self.now.kind c.args.contents.now c.in-Ok.commit c.in-Ok.ensures in
    let same = ap (λ (ids : List (List ℕ)). length ids) c.parents.ensures in
    omega (arith, few, same)

pub returns-in-Ok-find_parents-clause-prepared : goal.returns-in-Ok-find_parents-clause-prepared
returns-in-Ok-find_parents-clause-prepared g c =
    let finds = g.S.Base.finds in
    let facts = g.S.Base.facts in
    let base = c.args.self.now.base in
    let top = c.args.self.now.commits in
    let kind = c.args.self.now.kind in
    let contents = c.args.contents.now in
    let said = c.in-Ok.commit in
    let says = g.S.CommitSource.says c.find_parents.new.self.base in
    let found = c.in-Ok-find_parents.found in
    let id_is : c.object_id-id.result ≡ object_id_of kind contents = c.object_id-id.ensures in
    let same = g.met.S.Base.follow c.position_of.new.self.base base c.position_of.ensures.known in
    record {
      said = said;
      absent = record {
        says = c.in-Ok.ensures;
        is_new =
            subst (λ (x : List ℕ). Finds (finds (facts base)) top x None) (c.as_oid.ensures ∙ id_is)
            (rw c.in-Ok-None.field-0-is at c.in-Ok-None.ensures.found);
      };
      id = id_is;
      found =
          subst (λ (ids : List (List ℕ)). AreFoundParents (finds (facts base)) says top ids found) c.parents.ensures
          (subst (λ (f : g.S.Base.Facts). AreFoundParents (finds f) says top c.parents.result found) same
          (subst
          (λ (t : CommitsOnTop). AreFoundParents (finds (facts c.position_of.new.self.base)) says t c.parents.result found)
          c.position_of.ensures.commits c.in-Ok-find_parents.ensures.found));
    }

pub returns-in-Err-find_parents-clause-refused : goal.returns-in-Err-find_parents-clause-refused
returns-in-Err-find_parents-clause-refused g c =
    let finds = g.S.Base.finds in
    let facts = g.S.Base.facts in
    let base = c.args.self.now.base in
    let top = c.args.self.now.commits in
    let kind = c.args.self.now.kind in
    let contents = c.args.contents.now in
    let said = c.in-Ok.commit in
    let error = c.in-Err-find_parents.error in
    let may_fail = g.S.CommitSource.may_fail in
    let id_is : c.object_id-id.result ≡ object_id_of kind contents = c.object_id-id.ensures in
    let absent : IsNewCommit kind (finds (facts base)) top contents said =
    record {
      says = c.in-Ok.ensures;
      is_new =
          subst (λ (x : List ℕ). Finds (finds (facts base)) top x None) (c.as_oid.ensures ∙ id_is)
          (rw c.in-Ok-None.field-0-is at c.in-Ok-None.ensures.found);
    } in
    let same = g.met.S.Base.follow c.position_of.new.self.base base c.position_of.ensures.known in
    let refused =
    subst (λ (ids : List (List ℕ)). IsParentRefusal (finds (facts base)) (may_fail (g.S.CommitSource.known base)) top ids error)
    c.parents.ensures
    (subst (λ (f : g.S.Base.Facts). IsParentRefusal (finds f) (may_fail (g.S.CommitSource.known base)) top c.parents.result error)
    same
    (subst
    (λ (k : g.S.CommitSource.Known). IsParentRefusal (finds (facts c.position_of.new.self.base)) (may_fail k) top c.parents.result
    error)
    c.position_of.ensures.known
    (subst
    (λ (t : CommitsOnTop). IsParentRefusal (finds (facts c.position_of.new.self.base))
    (may_fail (g.S.CommitSource.known c.position_of.new.self.base)) t c.parents.result error)
    c.position_of.ensures.commits c.in-Err-find_parents.ensures.refused))) in
    parent_refused (finds (facts base)) (may_fail (g.S.CommitSource.known base)) top kind contents said absent error refused
