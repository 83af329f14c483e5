-- The numbers of parents of a graph's commits add up to the number of its commits.
use Rattle.std.proofs.Common.{◌≡◌, nat_cmp, List, length, All, sum, sym, ◌∙◌}
use Rattle.std.specs.BTreeMap as tree
use Rattle.std.specs.Ordering.{eq_by_cmp}
use Rattle.std.specs.Cmp.{unsigned_tied}
use Rattle.std.proofs.lemmas.List.{length-map}
use Rattle.std.proofs.lemmas.Map.Keys.{IsDistinct-from_sorted}
use Rattle.graph_format.specs.Layer.{Layer}
use Rattle.graph_format.specs.Layer.{IsOpened}
use Rattle.graph_format.specs.StoredHistory.{history_of}
use Rattle.graph_walks.specs.History.{parent_numbers}
use Rattle.graph_walks.proofs.CountLemmas.{counts_add_up}
use Rattle.gix_commitgraph.specs.Headline.{Stats}
use Rattle.gix_commitgraph.specs.declared.verify.Outcome as verify
use Rattle.gix_commitgraph.proofs.history.HistoryLemmas.{length-history}

-- the numbers of parents of a graph's commits, counted in a map whose keys ascend
pub parents_add_up : (layers : List Layer) (outcome : verify.Outcome) → tree.IsOrdered nat_cmp outcome.parent_counts
    → All IsOpened layers → Stats layers outcome → sum (tree.values outcome.parent_counts) ≡ outcome.num_commits
parents_add_up layers outcome ordered opened stats =
    let history = history_of layers in
    counts_add_up (eq_by_cmp nat_cmp) unsigned_tied outcome.parent_counts.entries (parent_numbers history)
    (IsDistinct-from_sorted nat_cmp (tree.keys outcome.parent_counts) ordered) stats.parent_counts
    ∙ length-map history (λ node. length node.parents)
    ∙ length-history layers opened
    ∙ sym stats.num_commits
