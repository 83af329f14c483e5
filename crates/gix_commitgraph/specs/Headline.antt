-- What the check of a graph says of it.
use Rattle.std.specs.Prelude.{◌≡◌, ℕ, List, Option, ⊤}
use Rattle.std.specs.BTreeMap.{get}
use Rattle.std.specs.Ordering.{nat_cmp}
use Rattle.graph_format.specs.Layer.{Layer}
use Rattle.gix_commitgraph.specs.Graph.{graph_ids, total}
use Rattle.gix_commitgraph.specs.GraphLookup.{FoundIn}
use Rattle.graph_format.specs.Lookup.{scan}
use Rattle.graph_walks.specs.Counts.{count_of}
use Rattle.graph_walks.specs.History.{parent_numbers}
use Rattle.graph_format.specs.StoredHistory.{history_of}
use Rattle.graph_walks.specs.Walks.{MatchesLongestWalk}
use Rattle.gix_commitgraph.specs.Sound.{Sound}
use Rattle.gix_commitgraph.specs.declared.verify.Outcome.{Outcome}
use Rattle.gix_commitgraph.specs.declared.verify.VerifyError.{VerifyError}
use Rattle.gix_commitgraph.specs.declared.verify.VerifyError.TheVariants as error

-- The statistics of a graph.
pub record Stats (layers : List Layer) (outcome : Outcome) : Type 0 where
  pub num_commits : outcome.num_commits ≡ total layers
  -- for each number of parents, repeats counted, how many commits have so many; no entry where none has
  pub parent_counts : (k : ℕ) → get nat_cmp outcome.parent_counts k ≡ count_of (parent_numbers (history_of layers)) k
  -- the most edges on a walk along parents, and nothing where a generation number is at the cap
  pub longest_path_length : MatchesLongestWalk (history_of layers) outcome.longest_path_length

-- each answer that a lookup may give is that of a plain scan of all ids
abbrev pub LookupsAreScans : List Layer → Type 0
LookupsAreScans layers = (id : List ℕ) (answer : Option ℕ) → FoundIn layers id answer → answer ≡ scan (graph_ids layers) id

-- a refusal shows that this does not hold; the processor's own error and a failed allocation show nothing
abbrev pub Disproves : {E : Type 0} → Type 0 → VerifyError E → Type 0
Disproves P (error.Processor pos e) = ⊤
Disproves P error.OutOfMemory = ⊤
Disproves P x = ¬ P

-- a refusal is that of a graph that is not right
abbrev pub IsDeserved : {E : Type 0} → List Layer → VerifyError E → Type 0
IsDeserved layers x = Disproves (Sound layers) x
