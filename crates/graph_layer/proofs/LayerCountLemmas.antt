-- The numbers of parents of a layer's commits add up to the number of its commits.
use Rattle.std.proofs.Common.{◌≡◌, nat_eq, length, sum, refl, sym, ◌∙◌}
use Rattle.std.specs.HashMap as hash
use Rattle.std.proofs.lemmas.List.{length-map}
use Rattle.graph_format.specs.Layer.{Layer}
use Rattle.graph_format.specs.StoredHistory.{layer_history}
use Rattle.graph_walks.specs.History.{parent_numbers}
use Rattle.graph_walks.proofs.CountLemmas.{counts_add_up}
use Rattle.graph_layer.specs.Traverse.{FileStats}
use Rattle.graph_layer.specs.declared.file.verify.Outcome as file

pub layer_counts_add_up : (layer : Layer) (outcome : file.Outcome) → hash.IsUnique nat_eq outcome.parent_counts
    → FileStats layer outcome → sum (hash.values outcome.parent_counts) ≡ outcome.num_commits
layer_counts_add_up layer outcome unique stats =
    let history = layer_history layer in
    counts_add_up nat_eq (λ a b. refl) outcome.parent_counts.entries (parent_numbers history) unique stats.commits.parent_counts
    ∙ length-map history (λ node. length node.parents)
    ∙ sym stats.commits.num_commits
