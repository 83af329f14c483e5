-- the answers of `objects`, their texts and their exit statuses
use Rattle.std.specs.Prelude.{◌≡◌, ◌⊎◌, ℕ, ◌-◌, List, Option, Result, Ok, Err, IfSome, ⊤, codes, decimal}
use Rattle.std.specs.Io.KnownBytes.{IsAtEnd, Keeps}
use Rattle.graph_format.specs.Layer.{Layer}
use Rattle.graph_layer.specs.declared.opening.error.OpenError.{OpenError}
use Rattle.gix_commitgraph.specs.Sound.{Sound}
use Rattle.graph_ancestors.specs.RefusedGraph.{MayRefuseGraph}
use Rattle.graph_objects.specs.Stream.{HasLong, IsStreamOf, IsStreamRefusal}
use Rattle.graph_objects.specs.declared.error.ObjectsError.{ObjectsError}
use Rattle.graph_objects.specs.declared.error.ObjectsError.TheVariants.{Device, OutOfMemory}
use Rattle.graph_commands.specs.Text.{◌⧺◌, newline}
use Rattle.graph_commands.specs.declared.refusal.Refusal.{Refusal}
use Rattle.graph_commands.specs.declared.refusal.Refusal.TheVariants.{Open, Verify}
use Rattle.object_commands.specs.AskedRange.{IsRangeOf, asked_range}
use Rattle.object_commands.specs.CommitIds.{LacksRange}
use Rattle.object_commands.specs.ObjectsRefusalLines.{objects_refusal_text}
use Rattle.object_commands.specs.declared.range.PositionRange.{PositionRange}
use Rattle.object_commands.specs.declared.refusal.ObjectsRefusal.{ObjectsRefusal}
use Rattle.object_commands.specs.declared.refusal.ObjectsRefusal.TheVariants.{Graph, Range, Stream}

-- why no right graph is found, as `verify` says it: the path opens none, or the one that it opens fails its check
abbrev pub MayFindNoRightGraph : (Result (List Layer) OpenError → Type 0) → Refusal → Type 0
MayFindNoRightGraph MayOpen (Open error) = MayOpen (Err error)
MayFindNoRightGraph MayOpen (Verify error) = (layers : List Layer) × MayOpen (Ok layers) × MayRefuseGraph layers error
MayFindNoRightGraph MayOpen refusal = ⊥

-- The opener may answer this graph, it is right, and it has the positions that are asked for, which are these.
pub record IsAskedOf (asked : Option PositionRange) (MayOpen : Result (List Layer) OpenError → Type 0) (layers : List Layer)
    (range : PositionRange) : Type 0 where
  pub opened : MayOpen (Ok layers)
  pub right : Sound layers
  pub positions : IsRangeOf layers range
  pub same : range ≡ asked_range layers asked

-- why the commits at these positions of a right graph are not those of a stream, which the input had left before, where that is
-- known. A read may fail at any time. Memory runs out only where nothing was read, or for an entry of more than 64 KiB
abbrev pub MayRefuseObjects : List Layer → PositionRange → Option (List ℕ) → Option (List ℕ) → ObjectsError → Type 0
MayRefuseObjects layers range before after Device = ⊤
MayRefuseObjects layers range before after OutOfMemory = Keeps before after ⊎ IfSome before (HasLong layers range.from range.to)
MayRefuseObjects layers range before after error =
    IfSome before (λ bytes. IsStreamRefusal layers range.from range.to bytes error)

-- what `objects` may answer, given what the input has left before and after, where that is known, and what the opener may answer:
-- why there is no right graph; that it lacks positions that are asked for; why the stream is refused, by the commits there; or
-- how many they are, where the stream is theirs and nothing else. In the first two cases nothing of the input was read
abbrev pub MayCompareObjects : Option PositionRange → Option (List ℕ) → Option (List ℕ)
    → (Result (List Layer) OpenError → Type 0) → Result ℕ ObjectsRefusal → Type 0
MayCompareObjects asked before after MayOpen (Ok commits) =
    (layers : List Layer) × (range : PositionRange) × IsAskedOf asked MayOpen layers range × (commits ≡ range.to - range.from)
    × IfSome before (IsStreamOf layers range.from range.to) × IsAtEnd after
MayCompareObjects asked before after MayOpen (Err (Graph refusal)) = MayFindNoRightGraph MayOpen refusal × Keeps before after
MayCompareObjects asked before after MayOpen (Err (Range commits)) =
    (layers : List Layer) × MayOpen (Ok layers) × Sound layers × LacksRange layers asked commits × Keeps before after
MayCompareObjects asked before after MayOpen (Err (Stream error)) =
    (layers : List Layer) × (range : PositionRange) × IsAskedOf asked MayOpen layers range
    × MayRefuseObjects layers range before after error

-- how many commits were compared, or the line of a refusal
abbrev pub objects_text : Result ℕ ObjectsRefusal → List ℕ
objects_text (Ok commits) = codes "ok commits " ⧺ decimal commits ⧺ newline
objects_text (Err refusal) = objects_refusal_text refusal ⧺ newline

-- 0 where all of them match, and else 1
abbrev pub objects_status : Result ℕ ObjectsRefusal → ℕ
objects_status (Ok commits) = 0
objects_status (Err refusal) = 1
