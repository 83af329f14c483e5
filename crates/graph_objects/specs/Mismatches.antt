-- Why the record of a commit does not match bytes: the first reason, in this order.
use Rattle.std.specs.Prelude.{◌≡◌, ◌≢◌, ℕ, List, take, slice_get, IsSomeAnd}
use Rattle.graph_format.specs.Layer.{Layer, record_at}
use Rattle.gix_commitgraph.specs.Graph.{graph_commits}
use Rattle.commit_objects.specs.CommitContents.{Said, Says}
use Rattle.commit_objects.specs.Time.{IsTime}
use Rattle.graph_objects.specs.Matching.{AreContents, recorded_parents, each_known}
use Rattle.graph_objects.specs.declared.Mismatch.{Mismatch}
use Rattle.graph_objects.specs.declared.Mismatch.TheVariants.{OtherContents, Unreadable, Tree, Parent, Time}

-- two lists agree before this place, and not there: one may have ended
abbrev pub DifferFirstAt : {A : Type 0} → List A → List A → ℕ → Type 0
DifferFirstAt one other i = (take i one ≡ take i other) × (slice_get one i ≢ slice_get other i)

-- what is wrong with the record, by what the bytes say
abbrev pub IsAmiss : List Layer → Layer → ℕ → Said → Mismatch → Type 0
IsAmiss layers layer pos said Tree = (record_at layer pos).tree ≢ said.tree
IsAmiss layers layer pos said (Parent index) =
    ((record_at layer pos).tree ≡ said.tree) × DifferFirstAt (recorded_parents layers layer pos) (each_known said.parents) index
IsAmiss layers layer pos said Time =
    ((record_at layer pos).tree ≡ said.tree) × (recorded_parents layers layer pos ≡ each_known said.parents)
    × ¬ IsTime said.rest (record_at layer pos).time
IsAmiss layers layer pos said _ = ⊥

-- the first reason why the commit at a position of a layer does not match
abbrev pub Mismatches : List Layer → Layer → ℕ → List ℕ → Mismatch → Type 0
Mismatches layers layer pos bytes OtherContents = ¬ AreContents layer pos bytes
Mismatches layers layer pos bytes Unreadable = AreContents layer pos bytes × ((said : Said) → ¬ Says layer.kind bytes said)
Mismatches layers layer pos bytes mismatch =
    AreContents layer pos bytes × ((said : Said) × Says layer.kind bytes said × IsAmiss layers layer pos said mismatch)

-- the same of the commit at a position of the graph
abbrev pub MismatchesAt : List Layer → ℕ → List ℕ → Mismatch → Type 0
MismatchesAt layers p bytes mismatch =
    IsSomeAnd (slice_get (graph_commits layers) p) (λ place. Mismatches layers place.0 place.1 bytes mismatch)
