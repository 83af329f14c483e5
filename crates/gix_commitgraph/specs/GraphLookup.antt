-- what the lookup of an id in a graph answers ("OID Lookup"; "Base Graphs List" on the positions of a chain)
use Rattle.std.specs.Prelude.{◌≡◌, ℕ, ◌+◌, List, length, position, slice_get, Option, Some, None, unwrap_or, option_map}
use Rattle.std.specs.Prelude.{option_and_then, is_some}
use Rattle.graph_format.specs.Layer.{Layer}
use Rattle.graph_layer.specs.Commit.{layer_and_position}
use Rattle.gix_commitgraph.specs.Graph.{graph_commits, start}
use Rattle.graph_format.specs.Lookup.{Found}
use Rattle.graph_format.specs.declared.Position.{Position}
use Rattle.graph_layer.specs.declared.file.commit.Commit.{Commit}

-- the answer of a layer
unfoldable pub answer_at : List (Option ℕ) → ℕ → Option ℕ
answer_at answers i = unwrap_or (slice_get answers i) None

-- the first answer that is a position, counted from the start of its layer
unfoldable pub first_answer : List Layer → List (Option ℕ) → Option ℕ
first_answer layers answers =
    option_and_then (λ i. option_map (λ pos. start layers i + pos) (answer_at answers i)) (position is_some answers)

-- An answer to the lookup of an id in a graph.
pub record FoundIn (layers : List Layer) (id : List ℕ) (answer : Option ℕ) : Type 0 where
  -- one answer for each layer
  pub answers : List (Option ℕ)
  pub one_each : length answers ≡ length layers
  pub each : (i : ℕ) (layer : Layer) → slice_get layers i ≡ Some layer → Found layer id (answer_at answers i)
  -- of which the first that is a position decides
  pub first : answer ≡ first_answer layers answers

-- a position of a graph as a number
abbrev pub position_number : Option Position → Option ℕ
position_number pos = option_map (λ p. p.0) pos

-- The commit at an answer to the lookup of an id, none where the answer is none.
pub record CommitFoundIn (layers : List Layer) (id : List ℕ) (commit : Option Commit) : Type 0 where
  pub answer : Option ℕ
  pub found : FoundIn layers id answer
  pub there : option_map layer_and_position commit ≡ option_and_then (slice_get (graph_commits layers)) answer
