-- Where an id stands that one position holds at most.
use Rattle.std.proofs.Common.{◌≡◌, ◌↔◌, ◌<◌, ℕ, List, slice_get, arith, sym}
use Rattle.std.specs.Prelude.{Option, Some, None, IfSome, IsNone}
use Rattle.std.proofs.lemmas.Bool.{false≢true}
use Rattle.std.proofs.lemmas.Option.{same_Some, none-some, slice_get_within}
use Rattle.gix_commitgraph.specs.Graph.{graph_ids, total}
use Rattle.gix_commitgraph.specs.GraphLookup.{position_number}
use Rattle.gix_commitgraph.specs.Layer.{Layer}
use Rattle.gix_commitgraph.specs.Position.{Position}
use Rattle.gix_commitgraph.proofs.layers.GraphLemmas.{counted}

-- the answer is each position that holds the id, and no other
abbrev pub IsExact : List Layer → List ℕ → Option Position → Type 0
IsExact layers id answer =
    (p : ℕ) → (position_number answer ≡ Some p) ↔ ((p < total layers) × (slice_get (graph_ids layers) p ≡ Some id))

within : (layers : List Layer) (id : List ℕ) (p : ℕ) → slice_get (graph_ids layers) p ≡ Some id → p < total layers
within layers id p there = omega (arith, slice_get_within (graph_ids layers) p id there, (counted layers).ids)

pub only-there : (layers : List Layer) (id : List ℕ) (answer : Option Position) → IsExact layers id answer
    → IfSome answer (λ pos. (p : ℕ) → slice_get (graph_ids layers) p ≡ Some id → pos.0 ≡ p)
only-there layers id None exact = tt
only-there layers id (Some pos) exact = λ p there. same_Some _ _ ((exact p).1 (within layers id p there, there))

pub none-there : (layers : List Layer) (id : List ℕ) (answer : Option Position) → IsExact layers id answer → IsNone answer
    → (p : ℕ) → ¬ (slice_get (graph_ids layers) p ≡ Some id)
none-there layers id None exact none p there = none-some _ ((exact p).1 (within layers id p there, there))
none-there layers id (Some pos) exact none p there = absurd (false≢true (sym none))
