use Rattle.std.proofs.Common.{arith}
use Rattle.commit_search.proofs.SearchLemmas.{goes_on_trans, searching_kept, second_field, both_queued}
use Rattle.commit_search.proofs.search.Search.visit.Goals as goal

pub parent_fields-requires : goal.parent_fields-requires
parent_fields-requires g c =
    omega (arith, c.requires.search.queue.within c.args.place c.requires.place, c.commit_at.ensures)

pub visit_field-requires-clause-search : goal.visit_field-requires-clause-search
visit_field-requires-clause-search g c =
    rw c.parent_fields.ensures.known
    (searching_kept _ _ _ c.parent_fields.ensures.kept c.args.self.now c.requires.search)

pub visit_field-requires-clause-read : goal.visit_field-requires-clause-read
visit_field-requires-clause-read g c = λ t said. c.requires.read t (c.parent_fields.ensures.kept t said)

pub visit_field-requires-clause-field : goal.visit_field-requires-clause-field
visit_field-requires-clause-field g c =
    let are = c.in_ok-fields.ensures.fields in
    rw (c.parent_fields.ensures.known, ← c.commit_at.ensures)
    (record { within = are.first; told = λ t said. (are.told t said).first })

pub visit_field-requires-2-clause-field : goal.visit_field-requires-2-clause-field
visit_field-requires-2-clause-field g c =
    let are = rw c.commit_at.ensures at c.in_ok-fields.ensures.fields in
    rw (c.visit_field.ensures.known, c.parent_fields.ensures.known)
    (second_field _ c.args.self.now c.visit_field.new.self c.args.place _ c.requires.place c.in_ok-visit_field.ensures.goes_on
    _ _ _ _ c.visit_field.ensures.kept are)

pub visit_field-requires-2-clause-search : goal.visit_field-requires-2-clause-search
visit_field-requires-2-clause-search g c =
    rw c.visit_field.ensures.known c.in_ok-visit_field.ensures.search

pub visit_field-requires-2-clause-place : goal.visit_field-requires-2-clause-place
visit_field-requires-2-clause-place g c =
    omega (arith, c.requires.place, c.in_ok-visit_field.ensures.goes_on.extends.longer)

pub returns-clause-goes_on : goal.returns-clause-goes_on
returns-clause-goes_on g c =
    goes_on_trans c.args.self.now c.visit_field.new.self c.visit_field-2.new.self c.args.place
    c.in_ok-visit_field.ensures.goes_on c.in_ok-visit_field-2.ensures.goes_on

pub returns-clause-parents : goal.returns-clause-parents
returns-clause-parents g c = λ t said.
    let first = c.in_ok-visit_field.ensures in
    let second = c.in_ok-visit_field-2.ensures in
    let mid = c.visit_field-2.ensures.kept t said in
    let are = rw c.commit_at.ensures at c.in_ok-fields.ensures.fields in
    both_queued (g.S.CommitSource.lies (g.S.CommitSource.known c.args.commits.now)) c.args.self.now c.visit_field.new.self
    c.args.place _ c.requires.place first.goes_on t c.visit_field-2.new.self
    (are.told t (c.visit_field.ensures.kept t mid)) second.goes_on
    (λ q names high. first.named t q mid (rw c.parent_fields.ensures.known names) high)
    (λ q names high. second.named t q said (rw (c.visit_field.ensures.known, c.parent_fields.ensures.known) names) high)
