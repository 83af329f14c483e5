-- The ids are at the positions where they are found.
use Rattle.std.proofs.Common.{[], ◌∷◌, refl, sym}
use Rattle.std.proofs.lemmas.List.Elements.{All-cons, All-nil}
use Rattle.gix_hash_core.specs.Oid.{oid_bytes}
use Rattle.answers.specs.FoundOf.{OfTwo}
use Rattle.answers.proofs.FoundLemmas.{second_missing}
use Rattle.graph_commands.specs.Ancestor.{IsThere}
use Rattle.history_commands.specs.CheckedReplies.{IsTold, Scans}
use Rattle.history_commands.proofs.found.is_ancestor.Goals as goal

pub returns-in_default-find-clause-found : goal.returns-in_default-find-clause-found
returns-in_default-find-clause-found c =
    let layers = c.args.graph.now.layers in
    second_missing (Scans layers) (OfTwo (IsTold layers)) (oid_bytes c.args.first) (oid_bytes c.args.second) []
    c.in-Some.first.0 (sym c.in-Some.ensures.scanned) (sym c.in_default-find.ensures.scanned)

pub returns-in-Ok-clause-found : goal.returns-in-Ok-clause-found
returns-in-Ok-clause-found c = (
  c.in-Some.first.0 ∷ c.in-Some-find.second.0 ∷ [],
  (sym c.in-Some.ensures.scanned, (sym c.in-Some-find.ensures.scanned, tt)),
  c.in-Ok.ensures.told,
)

pub returns-in-Err-clause-refused : goal.returns-in-Err-clause-refused
returns-in-Err-clause-refused c =
    let There = IsThere c.args.graph.now.layers in
    let first = oid_bytes c.args.first in
    let second = oid_bytes c.args.second in (
      refl,
      All-cons There first (second ∷ []) (c.in-Some.first.0, sym c.in-Some.ensures.scanned)
          (All-cons There second [] (c.in-Some-find.second.0, sym c.in-Some-find.ensures.scanned) (All-nil There)),
    )
