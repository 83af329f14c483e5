-- What is known of the commits of the graph below, where it is right. For private contracts alone.
use Rattle.std.specs.Prelude.{◌≡◌, ◌<◌, ◌≤◌, ◌^◌, ℕ, true, false, List, Some, All, AllPairs, length}
use Rattle.graph_walks.specs.Dates.{number_at, AreRight}
use Rattle.graph_walks.specs.History.{generation_at}
use Rattle.graph_format.specs.Layer.{Layer, IsOpened}
use Rattle.graph_format.specs.StoredHistory.{history_of}
use Rattle.graph_format.specs.declared.TheConstants.{MAX_COMMITS}
use Rattle.gix_commitgraph.specs.Graph.{total}
use Rattle.gix_commitgraph.specs.Sound.{Sound}
use Rattle.graph_chunks.specs.GraphDates.{graph_dates_refusal}
use Rattle.graph_format.specs.OptionalChunks.{HasDates}
use Rattle.graph_chunks.specs.GraphStoredDates.{times_of, dates_of}
use Rattle.graph_levels.specs.OnTop.{level_at}
use Rattle.graph_writer.specs.WritingRefusal.{AreDatesBelowRight}
use Rattle.graph_writer.specs.declared.commit.WriteError.{WriteError}
use Rattle.graph_writer.specs.declared.commit.WriteError.TheVariants as error
use Rattle.graph_writer.specs.declared.levels_below.LevelsBelow.{LevelsBelow}

-- The graph has corrected dates, which are right, and the levels have them.
pub record HaveDatesBelow (layers : List Layer) (known : LevelsBelow) : Type 0 where
  pub stored : All HasDates layers
  pub right : AreRight (history_of layers) (times_of layers) (dates_of layers)
  pub dates : (p : ℕ) → p < total layers → number_at (dates_of layers) p ≡ (level_at known.levels.items p).date

-- the errors that come where the corrected dates of the graph below are read
abbrev pub MayRefuseDatesBelow : List Layer → WriteError → Type 0
MayRefuseDatesBelow layers (error.Dates fault) = All HasDates layers × (graph_dates_refusal layers ≡ Some fault)
MayRefuseDatesBelow layers fault = fault ≡ error.OutOfMemory

-- The graph is right, and these are the levels of its commits.
pub record AreLevelsBelow (layers : List Layer) (known : LevelsBelow) : Type 0 where
  pub sound : Sound layers
  pub opened : All IsOpened layers
  pub alike : AllPairs (λ layer later. layer.kind ≡ later.kind) layers
  pub few : total layers ≤ MAX_COMMITS
  pub as_many : length known.levels.items ≡ total layers
  pub generations : (p : ℕ) → p < total layers → generation_at (history_of layers) p ≡ (level_at known.levels.items p).generation
  pub early : All (λ level. level.date < 2 ^ 63) known.levels.items
  pub have_dates : known.have_dates ≡ true → HaveDatesBelow layers known
  pub accepted : AreDatesBelowRight layers
  pub have_none : known.have_dates ≡ false → ¬ All HasDates layers
