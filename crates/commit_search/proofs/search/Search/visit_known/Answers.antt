use Rattle.std.proofs.Common.{arith}
use Rattle.commit_search.proofs.SearchLemmas.{goes_on_trans, second_field, both_queued}
use Rattle.commit_search.proofs.search.Search.visit_known.Goals as goal

pub visit_first-requires-clause-field : goal.visit_first-requires-clause-field
visit_first-requires-clause-field g c =
    let are = c.requires.fields in
    record { within = are.first; told = λ t said. (are.told t said).first }

pub visit_field-requires-clause-search : goal.visit_field-requires-clause-search
visit_field-requires-clause-search g c = rw c.visit_first.ensures.known c.in_ok-visit_first.ensures.search

pub visit_field-requires-clause-field : goal.visit_field-requires-clause-field
visit_field-requires-clause-field g c =
    rw c.visit_first.ensures.known
    (second_field _ c.args.self.now c.visit_first.new.self c.args.place _ c.requires.place c.in_ok-visit_first.ensures.goes_on
    _ _ _ _ c.visit_first.ensures.kept c.requires.fields)

pub visit_field-requires-clause-place : goal.visit_field-requires-clause-place
visit_field-requires-clause-place g c =
    omega (arith, c.requires.place, c.in_ok-visit_first.ensures.goes_on.extends.longer)

pub returns-clause-goes_on : goal.returns-clause-goes_on
returns-clause-goes_on g c =
    goes_on_trans c.args.self.now c.visit_first.new.self c.visit_field.new.self c.args.place
    c.in_ok-visit_first.ensures.goes_on c.in_ok-visit_field.ensures.goes_on

pub returns-clause-parents : goal.returns-clause-parents
returns-clause-parents g c = λ t said.
    let first = c.in_ok-visit_first.ensures in
    let second = c.in_ok-visit_field.ensures in
    let mid = c.visit_field.ensures.kept t said in
    both_queued (g.S.CommitSource.lies (g.S.CommitSource.known c.args.commits.now)) c.args.self.now c.visit_first.new.self
    c.args.place _ c.requires.place first.goes_on t c.visit_field.new.self
    (c.requires.fields.told t (c.visit_first.ensures.kept t mid)) second.goes_on
    (λ q names high. first.named t q mid names high)
    (λ q names high. second.named t q said (rw c.visit_first.ensures.known names) high)
