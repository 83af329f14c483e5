-- when each id of a graph stands at one position alone, and what follows for its check and its lookups; Git's format does not ask
-- it of ids in different layers
use Rattle.std.specs.Prelude.{◌≡◌, ◌↔◌, ◌<◌, ℕ, List, Option, Some, IsTrue, slice_get}
use Rattle.graph_format.specs.Layer.{Layer}
use Rattle.gix_commitgraph.specs.Graph.{graph_ids, total}
use Rattle.gix_commitgraph.specs.GraphLookup.{FoundIn}
use Rattle.gix_commitgraph.specs.Headline.{Disproves}
use Rattle.gix_commitgraph.specs.Sound.{Sound}
use Rattle.gix_commitgraph.specs.declared.verify.VerifyError.{VerifyError}
use Rattle.gix_commitgraph.specs.declared.verify.VerifyOptions.{VerifyOptions}

-- two positions that hold one id are the same position
abbrev pub AreDistinct : List Layer → Type 0
AreDistinct layers =
    (p q : ℕ) (id : List ℕ) → slice_get (graph_ids layers) p ≡ Some id → slice_get (graph_ids layers) q ≡ Some id → p ≡ q

-- no two positions below n hold one id
abbrev pub AreDistinctBelow : List Layer → ℕ → Type 0
AreDistinctBelow layers n =
    (p q : ℕ) (id : List ℕ) → p < n → q < n
    → slice_get (graph_ids layers) p ≡ Some id → slice_get (graph_ids layers) q ≡ Some id → p ≡ q

-- A graph is right, and keeps the rules that the options add.
pub record IsSoundWith (options : VerifyOptions) (layers : List Layer) : Type 0 where
  pub sound : Sound layers
  pub distinct : IsTrue options.distinct_ids → AreDistinct layers

-- a refusal is that of a graph that does not keep them
abbrev pub IsDeservedWith : {E : Type 0} → VerifyOptions → List Layer → VerifyError E → Type 0
IsDeservedWith options layers x = Disproves (IsSoundWith options layers) x

-- each answer that a lookup may give is a position exactly where that position is in the graph and holds the id
abbrev pub LookupsAreExact : List Layer → Type 0
LookupsAreExact layers =
    (id : List ℕ) (answer : Option ℕ) → FoundIn layers id answer
    → (p : ℕ) → (answer ≡ Some p) ↔ ((p < total layers) × (slice_get (graph_ids layers) p ≡ Some id))
