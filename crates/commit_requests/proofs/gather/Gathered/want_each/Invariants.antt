use Rattle.std.proofs.Common.{◌≡◌, take}
use Rattle.commit_search.specs.Source.{Told}
use Rattle.commit_requests.specs.Gathering.{WantsMore}
use Rattle.commit_requests.proofs.gather.Gathered.want_each.Given as goal

-- the first of them are wanted
abbrev pub invariant-loop-id : goal.invariant-loop-id
invariant-loop-id g l =
    let says = g.S.CommitSource.says in
    record {
      known : g.S.CommitSource.known l.newer.base ≡ g.S.CommitSource.known l.fn.newer.base;
      facts : g.S.Base.facts l.newer.base ≡ g.S.Base.facts l.fn.newer.base;
      kept : (t : Told) → says l.newer.base t → says l.fn.newer.base t;
      kind : l.newer.kind ≡ l.fn.newer.kind;
      commits : l.newer.commits ≡ l.fn.newer.commits;
      held : l.self.held ≡ l.fn.self.held;
      wanted : WantsMore (g.S.Base.finds (g.S.Base.facts l.fn.newer.base)) l.fn.newer.commits l.requests.asked
          l.fn.self.wanted.items l.self.wanted.items (take l.id-index l.ids);
    }
