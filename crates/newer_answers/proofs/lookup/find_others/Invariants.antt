-- The ids so far are at the positions that were found.
use Rattle.std.proofs.Common.{◌≡◌, ◌<◌, All, take}
use Rattle.std.specs.List.{AllZip}
use Rattle.graph_format.specs.declared.Position.{Position}
use Rattle.commit_search.specs.Positions.{numbers_of}
use Rattle.commit_search.specs.Source.{Told}
use Rattle.answers.specs.FoundOf.{FindsAt}
use Rattle.newer_commits.specs.CommitsOnTop.{end_of_top}
use Rattle.newer_commits.specs.FindingOnTop.{Finds}
use Rattle.newer_answers.proofs.lookup.find_others.Given as goal

abbrev pub invariant-loop-place : goal.invariant-loop-place
invariant-loop-place g l =
    let says = g.S.CommitSource.says in
    record {
      known : g.S.CommitSource.known l.commits.base ≡ g.S.CommitSource.known l.fn.commits.base;
      kept : (t : Told) → says l.commits.base t → says l.fn.commits.base t;
      kind : l.commits.kind ≡ l.fn.commits.kind;
      same : l.commits.commits ≡ l.fn.commits.commits;
      within : All (λ (pos : Position). pos.0 < end_of_top l.fn.commits.commits) l.found.items;
      found : AllZip (FindsAt (Finds (g.S.Base.finds (g.S.Base.facts l.fn.commits.base)) l.fn.commits.commits))
          (take l.place l.others) (numbers_of l.found.items);
    }
