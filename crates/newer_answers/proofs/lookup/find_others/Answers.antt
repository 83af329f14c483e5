-- One id more is looked up, after those before it.
use Rattle.std.proofs.Common.{◌≡◌, ◌<◌, ◌∷◌, ◌++◌, [], None, Some, length, slice_get, refl, rules, subst, ◌∙◌, arith}
use Rattle.std.proofs.lemmas.List.Elements.{All-push}
use Rattle.std.proofs.lemmas.Option.{slice_get_read}
use Rattle.graph_format.specs.declared.Position.{Position}
use Rattle.newer_commits.specs.CommitsOnTop.{CommitsOnTop, end_of_top}
use Rattle.newer_commits.specs.FindingOnTop.{Finds}
use Rattle.newer_answers.proofs.PlaceOnTopLemmas.{finds_as, found_next, missing_next}
use Rattle.newer_answers.proofs.lookup.find_others.Goals as goal

pub loop-place-preserved : goal.loop-place-preserved
loop-place-preserved g c =
    let facts = g.S.Base.facts in
    let base = c.args.commits.now.base in
    let top = c.args.commits.now.commits in
    let mid = c.loop-place.commits in
    let ids = c.args.others.now in
    let at = c.loop-place.place in
    let id = c.index-others-place.result in
    let pos = c.in-Some.pos in
    let same = g.met.S.Base.follow mid.base base c.loop-place.invariant.known in
    let here : slice_get ids at ≡ Some id =
    slice_get_read ids (length ids) at id refl (omega arith) c.index-others-place.is in
    let within : pos.0 < end_of_top mid.commits = rw c.in-Some.is at c.in_ok-pos.ensures.within in
    let looked = rw c.as_oid.ensures at (rw c.in-Some.is at c.in_ok-pos.ensures.found) in
    let pushed : c.push.new.self.items ≡ c.loop-place.found.items ++ pos ∷ [] = search rules in
    record {
      known = c.position_of.ensures.known ∙ c.loop-place.invariant.known;
      kept = λ t told. c.loop-place.invariant.kept t (c.position_of.ensures.kept t told);
      kind = c.position_of.ensures.kind ∙ c.loop-place.invariant.kind;
      same = c.position_of.ensures.commits ∙ c.loop-place.invariant.same;
      within = rw pushed (All-push (λ (p : Position). p.0 < end_of_top top) c.loop-place.found.items pos
          c.loop-place.invariant.within
          (subst (λ (t : CommitsOnTop). pos.0 < end_of_top t) c.loop-place.invariant.same within));
      found = rw pushed (found_next (Finds (g.S.Base.finds (facts base)) top) ids c.loop-place.found.items at id pos
          c.loop-place.invariant.found here
          (finds_as g.S.Base.finds (facts base) (facts mid.base) top mid.commits id (Some pos.0) same
          c.loop-place.invariant.same looked));
    }

pub returns-in_default-clause-found : goal.returns-in_default-clause-found
returns-in_default-clause-found g c =
    let facts = g.S.Base.facts in
    let base = c.args.commits.now.base in
    let top = c.args.commits.now.commits in
    let mid = c.loop-place.commits in
    let ids = c.args.others.now in
    let at = c.loop-place.place in
    let id = c.index-others-place.result in
    let same = g.met.S.Base.follow mid.base base c.loop-place.invariant.known in
    let here : slice_get ids at ≡ Some id =
    slice_get_read ids (length ids) at id refl (omega arith) c.index-others-place.is in
    missing_next (Finds (g.S.Base.finds (facts base)) top) ids c.loop-place.found.items at id c.loop-place.invariant.found here
    (finds_as g.S.Base.finds (facts base) (facts mid.base) top mid.commits id None same c.loop-place.invariant.same
    (rw c.as_oid.ensures at (rw c.in_default.is at c.in_ok-pos.ensures.found)))
