-- The first id is there, and the others are or are not.
use Rattle.std.proofs.Common.{◌∷◌, refl, sym}
use Rattle.std.proofs.lemmas.List.Elements.{All-cons}
use Rattle.commit_search.specs.Positions.{numbers_of}
use Rattle.gix_hash_core.specs.Oid.{oid_bytes}
use Rattle.answers.specs.FoundOf.{OfFirst}
use Rattle.answers.proofs.FoundLemmas.{later_missing}
use Rattle.graph_commands.specs.Ancestor.{IsThere}
use Rattle.history_commands.specs.CheckedReplies.{AreBasesOf, Scans}
use Rattle.history_commands.proofs.found.compare.Goals as goal

pub returns-in-Some-find_missing-clause-found : goal.returns-in-Some-find_missing-clause-found
returns-in-Some-find_missing-clause-found c =
    let layers = c.args.comparer.now.layers in
    let first = rw c.graph-graph.ensures at c.in-Some.ensures.scanned in
    let missing = rw c.graph-graph.ensures at c.in-Some-find_missing.ensures.missing.1 in
    later_missing (Scans layers) (OfFirst (AreBasesOf layers)) (oid_bytes c.args.first) c.args.others.now c.in-Some.first.0
    c.in-Some-find_missing.place (sym first) missing.0 missing.1

pub returns-in_default-find_all-clause-refused : goal.returns-in_default-find_all-clause-refused
returns-in_default-find_all-clause-refused c =
    let first = rw c.graph-graph.ensures at c.in-Some.ensures.scanned in
    let others = rw c.graph-graph.ensures at c.in_default-find_missing.ensures.there in (
      refl,
      All-cons (IsThere c.args.comparer.now.layers) (oid_bytes c.args.first) c.args.others.now (c.in-Some.first.0, sym first)
          (others refl),
    )

pub returns-in-Ok-compare_at-clause-found : goal.returns-in-Ok-compare_at-clause-found
returns-in-Ok-compare_at-clause-found c =
    let first = rw c.graph-graph.ensures at c.in-Some.ensures.scanned in
    let others = rw c.graph-graph.ensures at c.in-Ok.ensures.found in (
      c.in-Some.first.0 ∷ numbers_of c.in-Ok.others.items,
      (sym first, others),
      rw c.deref.ensures.value at c.in-Ok-compare_at.ensures.known,
    )

pub returns-clause-refused : goal.returns-clause-refused
returns-clause-refused c =
    let first = rw c.graph-graph.ensures at c.in-Some.ensures.scanned in
    let others = rw c.graph-graph.ensures at c.in_default-find_missing.ensures.there in (
      refl,
      All-cons (IsThere c.args.comparer.now.layers) (oid_bytes c.args.first) c.args.others.now (c.in-Some.first.0, sym first)
          (others refl),
    )
