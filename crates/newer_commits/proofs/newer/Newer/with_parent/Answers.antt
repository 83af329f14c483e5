use Rattle.std.proofs.Common.{rules, ◌≡◌, ◌+◌, ℕ, List, Some, max, refl, subst}
use Rattle.graph_walks.specs.History.{generation_at}
use Rattle.newer_commits.specs.CommitsOnTop.{CommitsOnTop, nodes_on_top}
use Rattle.newer_commits.specs.FindingOnTop.{Finds}
use Rattle.newer_commits.specs.JoinedHistory.{joined_history}
use Rattle.newer_commits.proofs.FoundLemmas.{found_more}
use Rattle.newer_commits.proofs.newer.Newer.with_parent.Goals as goal

pub returns-in-Ok-clause-found : goal.returns-in-Ok-clause-found
returns-in-Ok-clause-found g c = λ ids are.
    let finds = g.S.Base.finds (g.S.Base.facts c.args.self.now.base) in
    let top = c.args.self.now.commits in
    let pos = c.in-Ok-Some.pos.0 in
    let found : Finds finds top c.args.id (Some pos) =
    subst (λ (id : List ℕ). Finds finds top id (Some pos)) c.as_oid.ensures
    (rw c.in-Ok-Some.field-0-is at c.in-Ok-Some.ensures.found) in
    let there = rw c.in-Ok-Some.field-0-is at c.in-Ok-Some.ensures.within in
    let greater : c.max.result ≡ max c.args.found.greatest c.in-Ok.number = search rules in
    found_more finds (g.S.CommitSource.says c.number_at.new.self.base) top ids c.args.found
    (record { positions = c.with_one.result; count = c.args.found.count + 1; greatest = c.max.result })
    c.args.id pos c.in-Ok.number are found there c.with_one.ensures refl greater
    (λ t told. subst
    (λ (x : CommitsOnTop). c.in-Ok.number ≡ generation_at (joined_history t.history (nodes_on_top x)) pos)
    c.position_of.ensures.commits (c.in-Ok.ensures.number t told))
