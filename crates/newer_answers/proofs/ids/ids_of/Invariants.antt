-- The ids so far are those of the commits so far.
use Rattle.std.proofs.Common.{◌≡◌, take}
use Rattle.std.specs.List.{AllZip}
use Rattle.commit_search.specs.Positions.{numbers_of}
use Rattle.commit_search.specs.Source.{Told}
use Rattle.newer_commits.specs.FindingOnTop.{HasId}
use Rattle.newer_answers.proofs.ids.ids_of.Given as goal

abbrev pub invariant-loop-pos : goal.invariant-loop-pos
invariant-loop-pos g l =
    let says = g.S.CommitSource.says in
    record {
      known : g.S.CommitSource.known l.commits.base ≡ g.S.CommitSource.known l.fn.commits.base;
      kept : (t : Told) → says l.commits.base t → says l.fn.commits.base t;
      kind : l.commits.kind ≡ l.fn.commits.kind;
      same : l.commits.commits ≡ l.fn.commits.commits;
      ids : AllZip (HasId (g.S.Base.has_id (g.S.Base.facts l.fn.commits.base)) l.fn.commits.commits)
          (numbers_of (take l.pos-index l.positions)) l.ids.items;
    }
