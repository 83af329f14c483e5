use Rattle.std.proofs.Common.{◌≡◌, length}
use Rattle.commit_search.specs.Search.{AreParentNumbers}
use Rattle.commit_search.specs.Source.{Told}
use Rattle.commit_search.proofs.ahead.read_numbers.Given as goal

abbrev pub invariant-loop-first : goal.invariant-loop-first
invariant-loop-first g l =
    let source = g.S.CommitSource in
    record {
      known : source.known l.commits ≡ source.known l.fn.commits;
      kept : (t : Told) → source.says l.commits t → source.says l.fn.commits t;
      len : length l.numbers.items ≡ l.first-index;
      numbers : AreParentNumbers (source.says l.commits) l.fields l.numbers.items;
    }
