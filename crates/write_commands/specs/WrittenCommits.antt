-- the answers of `write`, their texts and their exit statuses
use Rattle.std.specs.Prelude.{◌≡◌, ℕ, List, [], ◌∷◌, Option, Some, None, Result, Ok, Err, IfSome}
use Rattle.std.specs.Io.KnownBytes.{IsAtEnd, Keeps}
use Rattle.gix_hash_core.specs.declared.kind.Kind.{Kind}
use Rattle.graph_format.specs.Layer.{Layer}
use Rattle.graph_layer.specs.declared.opening.error.OpenError.{OpenError}
use Rattle.gix_commitgraph.specs.Sound.{Sound}
use Rattle.graph_commands.specs.declared.refusal.Refusal.{Refusal}
use Rattle.graph_writer.specs.WrittenFiles.{IsWritten}
use Rattle.graph_writer.specs.WritingRefusal.{MayRefuseWriting}
use Rattle.graph_writer.specs.declared.commit.NewCommit.{NewCommit}
use Rattle.history_commands.specs.Check.{MayRefuseToStart}
use Rattle.write_commands.specs.NewStream.{MayRefuseCommits, SaysCommits}
use Rattle.write_commands.specs.declared.refusal.LayerRefusal.{LayerRefusal}
use Rattle.write_commands.specs.declared.refusal.LayerRefusal.TheVariants.{Graph, Stream, Commits}

-- the kind of the ids of the graph below, if there is one
abbrev pub kind_below : List Layer → Option Kind
kind_below [] = None
kind_below (layer ∷ layers) = Some layer.kind

-- the commits are those of the stream, where that is known, and it was read to its end
abbrev pub AreReadFrom : List Layer → Option (List ℕ) → Option (List ℕ) → List NewCommit → Type 0
AreReadFrom layers before after commits =
    IfSome before (λ stream. SaysCommits (kind_below layers) stream commits) × IsAtEnd after

-- what comes of a stream on top of these layers, by what the input has left before and after: the file of a layer with its
-- commits; why it says none; or why they make no layer
abbrev pub MayComeOf : List Layer → Option (List ℕ) → Option (List ℕ) → Result (List ℕ) LayerRefusal → Type 0
MayComeOf layers before after (Ok bytes) =
    (commits : List NewCommit) × AreReadFrom layers before after commits × IsWritten layers commits bytes
MayComeOf layers before after (Err (Commits fault)) =
    (commits : List NewCommit) × AreReadFrom layers before after commits × MayRefuseWriting layers commits fault
MayComeOf layers before after (Err (Stream fault)) =
    IfSome before (λ stream. MayRefuseCommits (kind_below layers) stream fault)
MayComeOf layers before after (Err (Graph refusal)) = ⊥

-- the graph below: none without a path, and the folder is left alone; else a right one that the opener may give at the path
abbrev pub IsBelow : Option (List ℕ) → Type 0 → (List ℕ → Result (List Layer) OpenError → Type 0) → List Layer → Type 0
IsBelow None IsLeftAlone MayOpenAt layers = IsLeftAlone × (layers ≡ [])
IsBelow (Some path) IsLeftAlone MayOpenAt layers = MayOpenAt path (Ok layers) × Sound layers

-- why there is no right graph at the path, if there is a path
abbrev pub IsRefusedBelow : Option (List ℕ) → (List ℕ → Result (List Layer) OpenError → Type 0) → Refusal → Type 0
IsRefusedBelow None MayOpenAt refusal = ⊥
IsRefusedBelow (Some path) MayOpenAt refusal = MayRefuseToStart (MayOpenAt path) refusal

-- what `write` may answer: why there is no right graph at the path, before anything of the input was read; or what comes of the
-- input on top of that graph, or on top of none
abbrev pub MayWriteLayer : Option (List ℕ) → Type 0 → (List ℕ → Result (List Layer) OpenError → Type 0)
    → Option (List ℕ) → Option (List ℕ) → Result (List ℕ) LayerRefusal → Type 0
MayWriteLayer path IsLeftAlone MayOpenAt before after (Err (Graph refusal)) =
    IsRefusedBelow path MayOpenAt refusal × Keeps before after
MayWriteLayer path IsLeftAlone MayOpenAt before after answer =
    (layers : List Layer) × IsBelow path IsLeftAlone MayOpenAt layers × MayComeOf layers before after answer
