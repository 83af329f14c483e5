use Rattle.std.proofs.Common.{◌≡◌, ◌≤◌, ◌-◌, length}
use Rattle.std.specs.Io.KnownBytes.{Appends, Consumes, prepend_known}
use Rattle.commit_search.specs.Source.{Told}
use Rattle.object_stream.specs.declared.object_type.ObjectType.TheVariants.{Commit}
use Rattle.commit_requests.specs.Gathering.{IsGathering}
use Rattle.commit_requests.specs.Requested.{commit_entries, request_lines}
use Rattle.commit_requests.proofs.completing.gather.Given as goal

-- what was read is what was asked for first, and all that is lacking beside was asked for or is wanted
abbrev pub invariant-asking : goal.invariant-asking
invariant-asking g l =
    let says = g.S.CommitSource.says in
    record {
      known : g.S.CommitSource.known l.newer.base ≡ g.S.CommitSource.known l.fn.newer.base;
      facts : g.S.Base.facts l.newer.base ≡ g.S.Base.facts l.fn.newer.base;
      kept : (t : Told) → says l.newer.base t → says l.fn.newer.base t;
      kind : l.newer.kind ≡ l.fn.newer.kind;
      commits : l.newer.commits ≡ l.fn.newer.commits;
      same_type : l.requests.type ≡ Commit;
      same_kind : l.requests.kind ≡ l.fn.newer.kind;
      taken : l.requests.taken ≡ length l.gathered.held;
      within : l.requests.taken ≤ length l.requests.asked;
      few : length l.requests.asked ≤ l.most;
      gathering : IsGathering l.fn.newer.kind (g.S.Base.finds (g.S.Base.facts l.fn.newer.base)) l.fn.newer.commits l.ids
          l.requests.asked l.gathered.held l.gathered.wanted.items;
      written : Appends (g.W.Write.contents l.fn.writer) (g.W.Write.contents l.writer) (request_lines l.requests.asked);
      read : Consumes (prepend_known l.fn.requests.ahead (g.R.Read.remaining l.fn.reader))
          (prepend_known l.requests.ahead (g.R.Read.remaining l.reader)) (commit_entries l.fn.newer.kind l.gathered.held);
    }

abbrev pub decreases-asking : goal.decreases-asking
decreases-asking g l = l.most - l.requests.taken
