use Rattle.std.proofs.Common.{◌≡◌, drop, take}
use Rattle.commit_search.specs.Source.{Told}
use Rattle.newer_commits.specs.FoundParents.{AreFoundParents}
use Rattle.newer_commits.proofs.newer.Newer.find_parents.Given as goal

-- the first parents were found, as many as are counted, and these are left
abbrev pub invariant-loop-id : goal.invariant-loop-id
invariant-loop-id g l =
    let says = g.S.CommitSource.says in
    record {
      can_next : (goal.iterator-loop-id g).can_next l.id-iterator;
      is_finite : (goal.iterator-loop-id g).is_finite l.id-iterator;
      known : g.S.CommitSource.known l.self.base ≡ g.S.CommitSource.known l.fn.self.base;
      kept : (t : Told) → says l.self.base t → says l.fn.self.base t;
      kind : l.self.kind ≡ l.fn.self.kind;
      same : l.self.commits ≡ l.fn.self.commits;
      left : l.id-iterator ≡ drop l.found.count l.fn.parents;
      found : AreFoundParents (g.S.Base.finds (g.S.Base.facts l.fn.self.base)) (says l.self.base) l.fn.self.commits
          (take l.found.count l.fn.parents) l.found;
    }
