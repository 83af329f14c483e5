-- what is told of a layer that was to be written
use Rattle.std.specs.Prelude.{◌≡◌, ℕ, List, [], Bool, Option}
use Rattle.std.specs.Option.{option_map_or}
use Rattle.graph_format.specs.Layer.{Layer}
use Rattle.graph_chunks.specs.declared.dates.DatesError.{DatesError}
use Rattle.graph_writer.specs.WritingRefusal.{AreAccepted, MayRefuseWriting}
use Rattle.graph_writer.specs.WrittenFiles.{IsWritten}
use Rattle.graph_writer.specs.declared.commit.NewCommit.{NewCommit}
use Rattle.graph_writer.specs.declared.commit.WriteError.{WriteError}
use Rattle.graph_writer.specs.declared.commit.WriteError.TheVariants as error
use Rattle.c_opening.specs.Codes.{out_of_memory}
use Rattle.c_writing.specs.HandedIn.{AreHandedIn}
use Rattle.c_writing.specs.ToldDates.{told_date_fault}
use Rattle.c_writing.specs.declared.new_commits.CgNewCommit.{CgNewCommit}
use Rattle.c_writing.specs.declared.write.CgWriteError.{CgWriteError}

-- the layers of a graph, none where no graph is open
abbrev pub open_layers : Option (List Layer × Bool) → List Layer
open_layers held = option_map_or (λ h. h.0) held []

-- a code is told, and of what it is about: the position of a commit below, the number of a commit that is handed in, and that of
-- the earlier commit or of the parent that it is refused for
abbrev pub write_code : ℕ → ℕ → ℕ → ℕ → CgWriteError
write_code code position commit other =
    record { code = code; position = position; commit = commit; other = other; layer = 0; expected = 0 }

-- how wrong dates of the graph below are told, as by cg_corrected_dates
abbrev pub told_dates_below : DatesError → CgWriteError
told_dates_below fault = let told = told_date_fault fault in
    record { code = told.code; position = told.position; commit = 0; other = 0; layer = told.layer; expected = told.expected }

-- how it is told why no layer is written: the number of the cause, and the place
abbrev pub told_write : WriteError → CgWriteError
told_write (error.Kind i) = write_code 701 0 i 0
told_write (error.NullId i) = write_code 702 0 i 0
told_write (error.NullTree i) = write_code 703 0 i 0
told_write (error.Time i) = write_code 704 0 i 0
told_write (error.Twice i earlier) = write_code 705 0 i earlier
told_write (error.Below i pos) = write_code 706 pos.0 i 0
told_write (error.Parent i index) = write_code 707 0 i index
told_write (error.Cycle i) = write_code 708 0 i 0
told_write error.Nothing = write_code 709 0 0 0
told_write error.TooManyCommits = write_code 721 0 0 0
told_write error.TooManyEdges = write_code 722 0 0 0
told_write error.TooManyLayers = write_code 723 0 0 0
told_write error.OutOfMemory = write_code out_of_memory 0 0 0
told_write (error.Dates fault) = told_dates_below fault

-- The bytes are a file of a layer with the commits that are handed in, and no others, on top of these layers; and nothing
-- refuses the commits.
pub record IsFileFrom (layers : List Layer) (handed : List CgNewCommit) (bytes : List ℕ) : Type 0 where
  pub commits : List NewCommit
  pub said : AreHandedIn handed commits
  pub accepted : AreAccepted layers commits
  pub written : IsWritten layers commits bytes

-- The first refusal of the commits is told; or that memory ran out, which comes only where there are commits and each is right
-- by itself.
pub record RefusesCommits (layers : List Layer) (handed : List CgNewCommit) (told : CgWriteError) : Type 0 where
  pub commits : List NewCommit
  pub said : AreHandedIn handed commits
  pub error : WriteError
  pub may : MayRefuseWriting layers commits error
  pub told_as : told ≡ told_write error
