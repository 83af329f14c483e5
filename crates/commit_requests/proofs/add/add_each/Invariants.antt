use Rattle.std.proofs.Common.{◌≡◌, map}
use Rattle.commit_search.specs.Source.{Told}
use Rattle.commit_requests.specs.declared.order.Placed.{Placed}
use Rattle.commit_requests.proofs.TurnLemmas.{AreAdded}
use Rattle.commit_requests.proofs.add.add_each.Given as goal

-- the first of them were added
abbrev pub invariant-loop-place : goal.invariant-loop-place
invariant-loop-place g l =
    let says = g.S.CommitSource.says in
    record {
      known : g.S.CommitSource.known l.newer.base ≡ g.S.CommitSource.known l.fn.newer.base;
      facts : g.S.Base.facts l.newer.base ≡ g.S.Base.facts l.fn.newer.base;
      kept : (t : Told) → says l.newer.base t → says l.fn.newer.base t;
      kind : l.newer.kind ≡ l.fn.newer.kind;
      added : AreAdded l.fn.newer.kind (g.S.Base.finds (g.S.Base.facts l.fn.newer.base)) l.fn.newer.commits l.held
          (map (λ (place : Placed). place.number) l.places) l.place-index l.newer.commits;
    }
