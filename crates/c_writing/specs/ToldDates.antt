-- what is told of the corrected commit dates of a graph
use Rattle.std.specs.Prelude.{◌≡◌, ℕ, List, None, All}
use Rattle.graph_walks.specs.Dates.{AreRight}
use Rattle.graph_format.specs.Layer.{Layer}
use Rattle.graph_format.specs.StoredHistory.{history_of}
use Rattle.gix_commitgraph.specs.Graph.{total}
use Rattle.graph_format.specs.OptionalChunks.{HasDates}
use Rattle.graph_chunks.specs.GraphStoredDates.{times_of, dates_of}
use Rattle.graph_chunks.specs.GraphDates.{graph_dates_refusal, MayRefuseGraphDates}
use Rattle.graph_chunks.specs.declared.dates.DatesError.{DatesError}
use Rattle.graph_chunks.specs.declared.dates.DatesError.TheVariants as fault
use Rattle.c_opening.specs.Answers.{written}
use Rattle.c_opening.specs.Codes.{out_of_memory}
use Rattle.c_writing.specs.declared.dates.CgDates.{CgDates}

-- no dates are told, but why: a code, the commit or the layer that it is about, and the date that is expected of the commit
abbrev pub without_dates : ℕ → ℕ → ℕ → ℕ → CgDates
without_dates code position layer expected =
    record { code = code; position = position; layer = layer; expected = expected; length = 0 }

-- how it is told that dates are refused: the number of the cause, and the place
abbrev pub told_date_fault : DatesError → CgDates
told_date_fault (fault.DataSize layer) = without_dates 401 0 layer 0
told_date_fault (fault.OverflowSize layer) = without_dates 402 0 layer 0
told_date_fault (fault.OverflowIndex pos) = without_dates 403 pos.0 0 0
told_date_fault (fault.TooLarge pos) = without_dates 404 pos.0 0 0
told_date_fault (fault.Date pos expected) = without_dates 405 pos.0 0 expected
told_date_fault fault.OutOfMemory = without_dates out_of_memory 0 0 0

-- Each layer of a graph has dates, and they are right. It is told how many commits there are, and the dates are written.
pub record TellsDates (layers : List Layer) (told : CgDates) (old new : List ℕ) : Type 0 where
  pub all : All HasDates layers
  pub accepted : graph_dates_refusal layers ≡ None
  pub right : AreRight (history_of layers) (times_of layers) (dates_of layers)
  pub count : told ≡ record { code = 0; position = 0; layer = 0; expected = 0; length = total layers }
  pub room : new ≡ written (dates_of layers) old

-- Each layer of a graph has dates, and the first condition that refuses them is told; or memory ran out, where all of
-- them can be read.
pub record RefusesDates (layers : List Layer) (told : CgDates) : Type 0 where
  pub error : DatesError
  pub all : All HasDates layers
  pub may : MayRefuseGraphDates layers error
  pub told_as : told ≡ told_date_fault error
