-- One id more is looked up, after those before it.
use Rattle.std.proofs.Common.{◌≡◌, ◌<◌, ◌∷◌, ◌++◌, [], Some, length, slice_get, refl, rules, ◌∙◌, arith}
use Rattle.std.proofs.lemmas.List.Elements.{All-push}
use Rattle.std.proofs.lemmas.Option.{slice_get_read}
use Rattle.graph_format.specs.declared.Position.{Position}
use Rattle.commit_search.specs.Positions.{numbers_of}
use Rattle.graph_parts.specs.Shown.{commits_of_parts}
use Rattle.graph_parts.proofs.GraphPartLemmas.{same-commits, sees-then}
use Rattle.graph_unchecked.proofs.PartLookupLemmas.{found-more, not-found}
use Rattle.graph_unchecked.proofs.lookup.find_others.Goals as goal

pub loop-place-preserved : goal.loop-place-preserved
loop-place-preserved g c =
    let known = g.T.Folder.tree c.args.folder.now in
    let old = c.args.parts.now in
    let mid = c.loop-place.parts in
    let new = c.find.new.parts in
    let ids = c.args.others.now in
    let at = c.loop-place.place in
    let id = c.index-others-place.result in
    let pos = c.in-Some.pos in
    let here : slice_get ids at ≡ Some id =
    slice_get_read ids (length ids) at id refl (omega arith) c.index-others-place.is in
    let sees = rw c.loop-place.invariant.tree at c.find.ensures.sees in
    let looked = rw c.loop-place.invariant.tree at c.in_ok-pos.ensures.found in
    let within : pos.0 < commits_of_parts mid = rw c.in-Some.is at c.in_ok-pos.ensures.within in
    let pushed : c.push.new.self.items ≡ c.loop-place.found.items ++ pos ∷ [] = search rules in
    record {
      tree = c.find.ensures.tree ∙ c.loop-place.invariant.tree;
      failures = search rules;
      right = c.find.ensures.parts;
      sees = sees-then known old mid new c.loop-place.invariant.sees sees;
      within = rw pushed (All-push (λ (p : Position). p.0 < commits_of_parts old) c.loop-place.found.items pos
          c.loop-place.invariant.within (omega (arith, within, same-commits known old mid c.loop-place.invariant.sees)));
      found = λ layers shows.
          rw pushed (found-more layers ids c.loop-place.found.items at id pos
          (c.loop-place.invariant.found layers (sees.kept layers shows)) here
          (rw c.as_oid.ensures at (rw c.in-Some.is at looked layers shows)));
    }

pub returns-in_default-clause-found : goal.returns-in_default-clause-found
returns-in_default-clause-found g c = λ layers shows.
    let ids = c.args.others.now in
    let at = c.loop-place.place in
    let id = c.index-others-place.result in
    let here : slice_get ids at ≡ Some id =
    slice_get_read ids (length ids) at id refl (omega arith) c.index-others-place.is in
    let sees = rw c.loop-place.invariant.tree at c.find.ensures.sees in
    not-found layers ids (numbers_of c.loop-place.found.items) at id
    (c.loop-place.invariant.found layers (sees.kept layers shows)) here
    (rw c.as_oid.ensures at (rw c.in_default.is at (rw c.loop-place.invariant.tree at c.in_ok-pos.ensures.found) layers shows))
