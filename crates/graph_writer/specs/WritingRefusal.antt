-- Why no layer is written of commits that a new layer could have: the corrected dates below, a cycle, or what the format cannot
-- hold ("HEADER": one byte counts the layers below; "Commit Data": 31 bits of an index into "Extra Edge List").
use Rattle.std.specs.Prelude.{◌≡◌, ◌⊎◌, ◌<◌, ◌≤◌, ◌^◌, ◌-◌, ℕ, List, All, None, Some, length, nat_lt, if◌then◌else◌}
use Rattle.std.specs.List.{sum_by}
use Rattle.graph_format.specs.Layer.{Layer}
use Rattle.graph_chunks.specs.GraphDates.{graph_dates_refusal}
use Rattle.graph_format.specs.OptionalChunks.{HasDates}
use Rattle.graph_writer.specs.Cycles.{IsOwnAncestor, HaveNoCycle}
use Rattle.graph_writer.specs.WriteRefusal.{new_layer_refusal, MayRefuseNewLayer}
use Rattle.graph_writer.specs.declared.commit.NewCommit.{NewCommit}
use Rattle.graph_writer.specs.declared.commit.WriteError.{WriteError}
use Rattle.graph_writer.specs.declared.commit.WriteError.TheVariants as error

-- how many words of the extra edge list a commit with so many parents has: of more than two, one for each from the second on
abbrev pub words_for : ℕ → ℕ
words_for parents = if nat_lt 2 parents then parents - 1 else 0

-- how many words the list of all commits has
abbrev pub word_count : List NewCommit → ℕ
word_count commits = sum_by (λ commit. words_for (length commit.parents.items)) commits

-- Nothing is wrong with the corrected dates of the graph below, where all of its layers have them.
abbrev pub AreDatesBelowRight : List Layer → Type 0
AreDatesBelowRight layers = All HasDates layers → graph_dates_refusal layers ≡ None

-- the errors that come only where a new layer could be of these commits, each where none of the earlier ones holds
abbrev pub MayRefuseLater : List Layer → List NewCommit → WriteError → Type 0
MayRefuseLater layers commits (error.Dates fault) = All HasDates layers × (graph_dates_refusal layers ≡ Some fault)
MayRefuseLater layers commits (error.Cycle i) = AreDatesBelowRight layers × IsOwnAncestor commits i
MayRefuseLater layers commits error.TooManyLayers = AreDatesBelowRight layers × HaveNoCycle commits × (256 ≤ length layers)
MayRefuseLater layers commits error.TooManyEdges =
    AreDatesBelowRight layers × HaveNoCycle commits × (length layers ≤ 255) × (2 ^ 31 ≤ word_count commits)
MayRefuseLater layers commits fault = ⊥

-- the errors that writing may answer: the first condition that refuses the commits, or out of memory
abbrev pub MayRefuseWriting : List Layer → List NewCommit → WriteError → Type 0
MayRefuseWriting layers commits fault =
    MayRefuseNewLayer layers commits fault
    ⊎ ((new_layer_refusal layers commits ≡ None) × MayRefuseLater layers commits fault)

-- Nothing refuses the commits.
pub record AreAccepted (layers : List Layer) (commits : List NewCommit) : Type 0 where
  pub new : new_layer_refusal layers commits ≡ None
  pub dates : AreDatesBelowRight layers
  pub acyclic : HaveNoCycle commits
  pub layers_below : length layers ≤ 255
  pub edges : word_count commits < 2 ^ 31
