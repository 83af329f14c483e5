-- A commit matches bytes, or differs from them in one thing.
use Rattle.std.proofs.Common.{◌≡◌, ℕ, List, slice_get, ap, ◌∙◌}
use Rattle.std.specs.Prelude.{Option, Some, None, IsSomeAnd}
use Rattle.graph_format.specs.Layer.{Layer, record_at}
use Rattle.gix_commitgraph.specs.Graph.{graph_commits}
use Rattle.commit_objects.specs.CommitContents.{Said}
use Rattle.commit_objects.specs.Time.{IsTime}
use Rattle.graph_objects.specs.Matching.{Matches, MatchesAt, recorded_parents, each_known}
use Rattle.graph_objects.specs.Mismatches.{Mismatches, MismatchesAt, IsAmiss}
use Rattle.graph_objects.specs.declared.Mismatch.{Mismatch}
use Rattle.graph_objects.specs.declared.Mismatch.TheVariants.{OtherContents, Unreadable, Tree, Parent, Time}
use Rattle.commit_objects.proofs.ParentLemmas.{says_one}

-- what a commit says of bytes that match it
not_amiss : (layers : List Layer) (layer : Layer) (pos : ℕ) (said other : Said) (m : Mismatch) → said ≡ other
    → (record_at layer pos).tree ≡ said.tree → recorded_parents layers layer pos ≡ each_known said.parents
    → IsTime said.rest (record_at layer pos).time → ¬ (IsAmiss layers layer pos other m)
not_amiss layers layer pos said other OtherContents same tree parents time amiss = amiss
not_amiss layers layer pos said other Unreadable same tree parents time amiss = amiss
not_amiss layers layer pos said other Tree same tree parents time amiss = amiss (tree ∙ ap (λ (s : Said). s.tree) same)
not_amiss layers layer pos said other (Parent index) same tree parents time amiss =
    amiss.1.1 (ap (λ l. slice_get l index) (parents ∙ ap (λ (s : Said). each_known s.parents) same))
not_amiss layers layer pos said other Time same tree parents time amiss =
    let there : IsTime other.rest (record_at layer pos).time = rw (ap (λ (s : Said). s.rest) same) at time in
    amiss.2 there

matches_or_not : (layers : List Layer) (layer : Layer) (pos : ℕ) (bytes : List ℕ) (m : Mismatch) → Matches layers layer pos bytes
    → ¬ (Mismatches layers layer pos bytes m)
matches_or_not layers layer pos bytes OtherContents is not = not is.contents
matches_or_not layers layer pos bytes Unreadable is not = not.1 is.said is.says
matches_or_not layers layer pos bytes Tree is not =
    not_amiss layers layer pos is.said not.1.0 Tree (says_one layer.kind bytes is.said not.1.0 is.says not.1.1)
    is.agree.tree is.agree.parents is.agree.time not.1.2
matches_or_not layers layer pos bytes (Parent index) is not =
    not_amiss layers layer pos is.said not.1.0 (Parent index) (says_one layer.kind bytes is.said not.1.0 is.says not.1.1)
    is.agree.tree is.agree.parents is.agree.time not.1.2
matches_or_not layers layer pos bytes Time is not =
    not_amiss layers layer pos is.said not.1.0 Time (says_one layer.kind bytes is.said not.1.0 is.says not.1.1)
    is.agree.tree is.agree.parents is.agree.time not.1.2

-- both of one place
pub excluded : (layers : List Layer) (p : ℕ) (bytes : List ℕ) (m : Mismatch) → MatchesAt layers p bytes
    → ¬ (MismatchesAt layers p bytes m)
excluded layers p bytes m = by (slice_get (graph_commits layers) p)
  where
    by : (o : Option (Layer × ℕ)) → IsSomeAnd o (λ place. Matches layers place.0 place.1 bytes)
        → ¬ (IsSomeAnd o (λ place. Mismatches layers place.0 place.1 bytes m))
    by None is not = is
    by (Some place) is not = matches_or_not layers place.0 place.1 bytes m is not
