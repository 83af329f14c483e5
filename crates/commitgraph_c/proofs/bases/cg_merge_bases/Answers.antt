use Rattle.std.proofs.Common.{rules, ◌≡◌, ◌<◌, ◌∙◌, All, List, Some, ap, subst}
use Rattle.graph_format.specs.Layer.{Layer}
use Rattle.gix_commitgraph.specs.Graph.{total}
use Rattle.commit_search.specs.Positions.{numbers_of}
use Rattle.c_opening.specs.ComparisonOrder.{IsOrderedComparison}
use Rattle.commitgraph_c.proofs.PositionNumbers.{all_below}
use Rattle.commitgraph_c.proofs.bases.cg_merge_bases.Goals as goal

pub compare-requires-clause-others : goal.compare-requires-clause-others
compare-requires-clause-others c =
    let layers = c.in-Some.opened.now.0 in
    let others : numbers_of c.deref.result.now ≡ c.args.others.now =
    ap numbers_of c.deref.ensures.value ∙ c.in-Ok.ensures in
    let commits : c.num_commits-commits.result ≡ total layers =
    c.num_commits-commits.ensures.commits
    ∙ ap (λ (ls : List Layer). total ls) (c.graph.ensures.same ∙ c.in-Some-as_checked.ensures.graph) in
    all_below (total layers) c.deref.result.now c.args.others.now others
    (subst (λ n. All (λ other. other < n) c.args.others.now) commits (c.if-not-are_below.ensures.below (search rules)))

pub returns-in-Ok-compare-clause-answer : goal.returns-in-Ok-compare-clause-answer
returns-in-Ok-compare-clause-answer c =
    let held : c.args.graph.address.held ≡ Some c.in-Some.opened.now = c.in-Some.ensures in
    let others : numbers_of c.deref.result.now ≡ c.args.others.now =
    ap numbers_of c.deref.ensures.value ∙ c.in-Ok.ensures in
    let is : IsOrderedComparison c.in-Some.opened.now.0 c.args.first (numbers_of c.deref.result.now)
    c.in-Ok-compare.comparison = c.in-Ok-compare.ensures.exact in
    λ zero. rw held (record {
      comparison = c.in-Ok-compare.comparison;
      exact = rw others at is;
      tells = c.tell.ensures.tells;
    })
