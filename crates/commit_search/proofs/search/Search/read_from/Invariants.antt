use Rattle.std.proofs.Common.{◌≡◌, ◌+◌, length}
use Rattle.commit_search.specs.Search.{AreFieldsAhead}
use Rattle.commit_search.specs.Source.{Told}
use Rattle.commit_search.proofs.search.Search.read_from.Given as goal

abbrev pub invariant-loop-next : goal.invariant-loop-next
invariant-loop-next g l =
    let source = g.S.CommitSource in
    let k = source.known l.fn.commits in
    record {
      known : source.known l.commits ≡ k;
      kept : (t : Told) → source.says l.commits t → source.says l.fn.commits t;
      first : l.ahead.first ≡ l.place;
      len : l.place + length l.ahead.fields.items ≡ l.next;
      ahead : AreFieldsAhead (source.count k) (source.is_listed k) (source.lies k) (source.says l.commits) l.self
          l.ahead;
    }
