-- What a graph that was checked is kept with, and what its commits say.
use Rattle.std.specs.Prelude.{ℕ, List, [], ◌∷◌, false, Option, Result, Ok, Err, option_map, slice_get}
use Rattle.graph_format.specs.Format.{Record}
use Rattle.graph_format.specs.Layer.{Layer, record_at}
use Rattle.graph_format.specs.StoredHistory.{history_of}
use Rattle.graph_format.specs.declared.Position.{Position}
use Rattle.graph_format.specs.declared.parents.ParentError.{ParentError}
use Rattle.gix_commitgraph.specs.Distinct.{IsSoundWith}
use Rattle.gix_commitgraph.specs.Graph.{graph_commits}
use Rattle.gix_commitgraph.specs.Headline.{Stats}
use Rattle.gix_commitgraph.specs.Verify.{Summarizes}
use Rattle.gix_commitgraph.specs.declared.verify.Outcome.{Outcome}
use Rattle.gix_commitgraph.specs.declared.verify.VerifyOptions.{VerifyOptions}

-- A graph that was checked: its layers, and what its check was asked for besides what every right graph keeps.
pub record CheckedLayers : Type 0 where
  pub layers : List Layer
  pub options : VerifyOptions

-- the options that ask for nothing
abbrev pub plain_options : VerifyOptions
plain_options = record { distinct_ids = false }

-- The layers keep the rules that the options ask for, and these are their statistics.
pub record IsRight (options : VerifyOptions) (layers : List Layer) (outcome : Outcome) : Type 0 where
  pub sound : IsSoundWith options layers
  pub stats : Stats layers outcome
  pub summary : Summarizes (history_of layers) outcome

-- the record of the commit at a position ("Commit Data")
abbrev pub record_in : List Layer → ℕ → Option Record
record_in layers p = option_map (λ place. record_at place.0 place.1) (slice_get (graph_commits layers) p)

-- the positions among the items of an iterator over parents
abbrev pub positions_among : List (Result Position ParentError) → List Position
positions_among [] = []
positions_among (Ok pos ∷ items) = pos ∷ positions_among items
positions_among (Err error ∷ items) = positions_among items
