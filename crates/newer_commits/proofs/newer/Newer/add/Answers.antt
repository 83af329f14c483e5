use Rattle.std.proofs.Common.{None, subst, sym}
use Rattle.std.proofs.lemmas.Result.{IfErr-weaker, IfOk-weaker}
use Rattle.newer_commits.specs.CommitsOnTop.{CommitsOnTop}
use Rattle.newer_commits.specs.FindingOnTop.{Finds}
use Rattle.newer_commits.specs.FoundParents.{AreFoundParents, IsPushRefusal, IsPushed}
use Rattle.newer_commits.proofs.AddLemmas.{prepared_absent, prepared_adds, prepared_refused}
use Rattle.newer_commits.proofs.newer.Newer.add.Goals as goal

pub push-requires-clause-absent : goal.push-requires-clause-absent
push-requires-clause-absent g c =
    let finds = g.S.Base.finds in
    let facts = g.S.Base.facts in
    let base = c.args.self.now.base in
    let top = c.args.self.now.commits in
    let id = c.in-Ok.prepared.id in
    let same = g.met.S.Base.follow c.prepare.new.self.base base c.prepare.ensures.known in
    subst (λ (f : g.S.Base.Facts). Finds (finds f) c.prepare.new.self.commits id None) (sym same)
    (subst (λ (t : CommitsOnTop). Finds (finds (facts base)) t id None) (sym c.prepare.ensures.same)
    (prepared_absent c.args.self.now.kind (finds (facts base)) (g.S.CommitSource.says c.prepare.new.self.base) top
    c.args.contents.now c.in-Ok.prepared c.in-Ok.ensures.prepared))

pub push-requires-clause-found : goal.push-requires-clause-found
push-requires-clause-found g c =
    let finds = g.S.Base.finds in
    let facts = g.S.Base.facts in
    let base = c.args.self.now.base in
    let says = g.S.CommitSource.says c.prepare.new.self.base in
    let is = c.in-Ok.ensures.prepared in
    let found = c.in-Ok.prepared.found in
    let same = g.met.S.Base.follow c.prepare.new.self.base base c.prepare.ensures.known in (
      is.said.parents,
      subst (λ (f : g.S.Base.Facts). AreFoundParents (finds f) says c.prepare.new.self.commits is.said.parents found) (sym same)
          (subst (λ (t : CommitsOnTop). AreFoundParents (finds (facts base)) says t is.said.parents found)
          (sym c.prepare.ensures.same) is.found),
    )

pub returns-in-Ok-clause-added : goal.returns-in-Ok-clause-added
returns-in-Ok-clause-added g c =
    let finds = g.S.Base.finds in
    let facts = g.S.Base.facts in
    let base = c.args.self.now.base in
    let top = c.args.self.now.commits in
    let new = c.push.new.self.commits in
    let says = g.S.CommitSource.says c.prepare.new.self.base in
    let is = c.in-Ok.ensures.prepared in
    let id = c.in-Ok.prepared.id in
    let found = c.in-Ok.prepared.found in
    let same = g.met.S.Base.follow c.prepare.new.self.base base c.prepare.ensures.known in
    let are : AreFoundParents (finds (facts c.prepare.new.self.base)) says c.prepare.new.self.commits is.said.parents found =
    subst (λ (f : g.S.Base.Facts). AreFoundParents (finds f) says c.prepare.new.self.commits is.said.parents found) (sym same)
    (subst (λ (t : CommitsOnTop). AreFoundParents (finds (facts base)) says t is.said.parents found)
    (sym c.prepare.ensures.same) is.found) in
    IfOk-weaker c.push.result _ _ (λ pos pushed.
    prepared_adds c.args.self.now.kind (finds (facts base)) says top new c.args.contents.now c.in-Ok.prepared is pos.0
    (subst (λ (f : g.S.Base.Facts). IsPushed (finds f) top new is.said.parents id pos.0) same
    (subst (λ (t : CommitsOnTop). IsPushed (finds (facts c.prepare.new.self.base)) t new is.said.parents id pos.0)
    c.prepare.ensures.same (pushed is.said.parents are))))
    c.push.ensures.added

pub returns-in-Ok-clause-refused : goal.returns-in-Ok-clause-refused
returns-in-Ok-clause-refused g c =
    let finds = g.S.Base.finds in
    let facts = g.S.Base.facts in
    let base = c.args.self.now.base in
    let top = c.args.self.now.commits in
    let says = g.S.CommitSource.says c.prepare.new.self.base in
    let may_fail = g.S.CommitSource.may_fail (g.S.CommitSource.known base) in
    let is = c.in-Ok.ensures.prepared in
    IfErr-weaker c.push.result _ _ (λ e refused.
    prepared_refused c.args.self.now.kind (finds (facts base)) may_fail says top c.args.contents.now c.in-Ok.prepared is e
    (subst (λ (t : CommitsOnTop). IsPushRefusal t c.in-Ok.prepared.found.count e) c.prepare.ensures.same refused))
    c.push.ensures.refused
