use Rattle.std.proofs.Common.{rules, ◌≡◌, ◌<◌, ◌*◌, ◌⊎◌, ◌∙◌, All, IsTrue, List, Some, ap, is_some, subst, sym}
use Rattle.graph_format.specs.Layer.{Layer}
use Rattle.gix_commitgraph.specs.Graph.{total}
use Rattle.commit_search.specs.Positions.{numbers_of}
use Rattle.graph_history.specs.GraphComparison.{IsComparisonOf}
use Rattle.commitgraph_c.proofs.PositionNumbers.{all_below}
use Rattle.commitgraph_c.proofs.within.cg_merge_bases_within.Goals as goal

pub compare_within-requires-clause-others : goal.compare_within-requires-clause-others
compare_within-requires-clause-others c =
    let layers = c.in-Some-as_checked.checked.layers in
    let others : numbers_of c.deref.result.now ≡ c.args.others.now =
    ap numbers_of c.deref.ensures.value ∙ c.in-Ok.ensures in
    let commits : c.num_commits-commits.result ≡ total layers =
    c.num_commits-commits.ensures.commits ∙ ap (λ (ls : List Layer). total ls) c.graph.ensures.same in
    all_below (total layers) c.deref.result.now c.args.others.now others
    (subst (λ n. All (λ other. other < n) c.args.others.now) commits (c.if-not-are_below.ensures.below (search rules)))

pub returns-in-Ok-compare_within-clause-answer : goal.returns-in-Ok-compare_within-clause-answer
returns-in-Ok-compare_within-clause-answer c =
    let held : c.args.graph.address.held ≡ Some c.in-Some.opened.now = c.in-Some.ensures in
    let layers : c.in-Some-as_checked.checked.layers ≡ c.in-Some.opened.now.0 = c.in-Some-as_checked.ensures.graph in
    let others : numbers_of c.deref.result.now ≡ c.args.others.now =
    ap numbers_of c.deref.ensures.value ∙ c.in-Ok.ensures in
    let is : IsComparisonOf c.in-Some-as_checked.checked.layers c.args.first (numbers_of c.deref.result.now)
    c.in-Ok-compare_within.comparison = c.in-Ok-compare_within.ensures.exact in
    λ zero. rw held (record {
      comparison = c.in-Ok-compare_within.comparison;
      exact = rw (layers, others) at is;
      tells = c.tell.ensures.tells;
    })

pub returns-in-Err-Stopped-clause-stopped : goal.returns-in-Err-Stopped-clause-stopped
returns-in-Err-Stopped-clause-stopped c =
    let held : c.args.graph.address.held ≡ Some c.in-Some.opened.now = c.in-Some.ensures in
    let layers : c.in-Some-as_checked.checked.layers ≡ c.in-Some.opened.now.0 = c.in-Some-as_checked.ensures.graph in
    let is : (c.limit.result.visits < 3 * total c.in-Some-as_checked.checked.layers) ⊎ IsTrue (is_some c.limit.result.flag) =
    rw c.in-Err-Stopped.field-0-is at c.in-Err-Stopped.ensures.refused in
    λ same. rw held (sym c.in-Some-as_checked.ensures.some, rw (c.limit.ensures.visits, c.limit.ensures.flag, layers) at is)
