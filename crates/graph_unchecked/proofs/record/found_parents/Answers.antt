-- The parents are so of the layers that are shown.
use Rattle.std.proofs.Common.{◌<◌, [], ◌∷◌, Option, ap, sym, subst, ◌∙◌, arith}
use Rattle.gix_hash_core.specs.Oid.{oid_bytes}
use Rattle.answers.specs.FoundOf.{OfOne}
use Rattle.answers.proofs.FoundLemmas.{first_missing}
use Rattle.graph_folder.specs.Tree.{Tree}
use Rattle.gix_commitgraph.specs.GraphLookup.{FoundIn}
use Rattle.gix_commitgraph.specs.IdWalks.{ids_at}
use Rattle.graph_parts.specs.Shown.{SeesMore, Shows, commits_of_parts}
use Rattle.graph_parts.proofs.GraphPartLemmas.{same-commits, sees-then}
use Rattle.graph_unchecked.specs.Trusted.{AreIdsOfParents}
use Rattle.graph_unchecked.proofs.record.found_parents.Goals as goal

pub returns-in_default-clause-found : goal.returns-in_default-clause-found
returns-in_default-clause-found g c = λ layers shows graph.
    first_missing (FoundIn layers) (OfOne (AreIdsOfParents layers)) (oid_bytes c.args.id) []
    ((rw c.in_default.is at c.in_ok-pos.ensures.found) layers shows)

pub parents_of-requires-clause-pos : goal.parents_of-requires-clause-pos
parents_of-requires-clause-pos g c =
    let within : c.in-Some.pos.0 < commits_of_parts c.args.parts.now = rw c.in-Some.is at c.in_ok-pos.ensures.within in
    omega (arith, within, same-commits _ c.args.parts.now c.find.new.parts c.find.ensures.sees)

pub returns-in_err-parents-clause-sees : goal.returns-in_err-parents-clause-sees
returns-in_err-parents-clause-sees g c =
    let one = c.find.new.parts in
    let two = c.parents_of.new.parts in
    sees-then (g.T.Folder.tree c.args.folder.now) c.args.parts.now one two c.find.ensures.sees
    (subst (λ (k : Option Tree). SeesMore k one two) c.find.ensures.tree c.parents_of.ensures.sees)

pub returns-in_err-ids-clause-sees : goal.returns-in_err-ids-clause-sees
returns-in_err-ids-clause-sees g c =
    let known = g.T.Folder.tree c.args.folder.now in
    let one = c.find.new.parts in
    let two = c.parents_of.new.parts in
    let three = c.read_ids.new.parts in
    let first = c.find.ensures.tree in
    sees-then known c.args.parts.now two three
    (sees-then known c.args.parts.now one two c.find.ensures.sees
    (subst (λ (k : Option Tree). SeesMore k one two) first c.parents_of.ensures.sees))
    (subst (λ (k : Option Tree). SeesMore k two three) (c.parents_of.ensures.tree ∙ first) c.read_ids.ensures.sees)

pub returns-clause-sees : goal.returns-clause-sees
returns-clause-sees g c =
    let known = g.T.Folder.tree c.args.folder.now in
    let one = c.find.new.parts in
    let two = c.parents_of.new.parts in
    let three = c.read_ids.new.parts in
    let first = c.find.ensures.tree in
    sees-then known c.args.parts.now two three
    (sees-then known c.args.parts.now one two c.find.ensures.sees
    (subst (λ (k : Option Tree). SeesMore k one two) first c.parents_of.ensures.sees))
    (subst (λ (k : Option Tree). SeesMore k two three) (c.parents_of.ensures.tree ∙ first) c.read_ids.ensures.sees)

pub returns-clause-found : goal.returns-clause-found
returns-clause-found g c = λ layers shows graph.
    let one = c.find.new.parts in
    let two = c.parents_of.new.parts in
    let three = c.read_ids.new.parts in
    let first = c.find.ensures.tree in
    let next = c.parents_of.ensures.tree ∙ first in
    let at_two = (subst (λ (k : Option Tree). SeesMore k two three) next c.read_ids.ensures.sees).kept layers shows in
    let at_one = (subst (λ (k : Option Tree). SeesMore k one two) first c.parents_of.ensures.sees).kept layers at_two in (
      c.in-Some.pos.0 ∷ [],
      ((rw c.in-Some.is at c.in_ok-pos.ensures.found) layers at_one, tt),
      (rw c.deref.ensures.value at c.in_ok-ids.ensures.ids) layers
          (subst (λ (k : Option Tree). Shows k three layers) (sym next) shows)
          ∙ ap (ids_at layers) (c.in_ok-parents.ensures.parents layers
          (subst (λ (k : Option Tree). Shows k two layers) (sym first) at_two) graph),
    )
