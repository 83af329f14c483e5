-- what a check tells C of a graph
use Rattle.std.specs.Prelude.{◌≡◌, ◌==◌, ◌≤◌, ℕ, List, Bool, length, map, if◌then◌else◌, Option, Some, None}
use Rattle.std.specs.BTreeMap.{IsOrdered}
use Rattle.std.specs.Ordering.{nat_cmp}
use Rattle.graph_format.specs.Layer.{Layer}
use Rattle.graph_format.specs.Points.{calls_before_fault}
use Rattle.graph_format.specs.StoredHistory.{history_of}
use Rattle.graph_format.specs.declared.Position.{Position}
use Rattle.graph_walks.specs.Walks.{MatchesLongestWalk}
use Rattle.gix_commitgraph.specs.Distinct.{IsSoundWith}
use Rattle.gix_commitgraph.specs.Graph.{start, total}
use Rattle.gix_commitgraph.specs.Headline.{Stats}
use Rattle.gix_commitgraph.specs.Verify.{points_with}
use Rattle.gix_commitgraph.specs.declared.verify.Outcome.{Outcome}
use Rattle.gix_commitgraph.specs.declared.verify.VerifyError.{VerifyError}
use Rattle.gix_commitgraph.specs.declared.verify.VerifyError.TheVariants as error
use Rattle.gix_commitgraph.specs.declared.verify.VerifyOptions.{VerifyOptions}
use Rattle.graph_history.specs.Checked.{MayRefuseWith}
use Rattle.graph_history.specs.Limits.{Bound, MayRefuseWithin}
use Rattle.graph_history.specs.declared.limit.Stopped.{Stopped}
use Rattle.graph_ancestors.specs.declared.checking.NoFault.{NoFault}
use Rattle.c_opening.specs.Answers.{written}
use Rattle.c_opening.specs.Files.{IsOpenedFrom}
use Rattle.c_opening.specs.Codes.{closed_graph, commit_code, fan_byte, layer_code, out_of_memory, parent_code, stopped}
use Rattle.c_opening.specs.declared.check.CgCount.{CgCount}
use Rattle.c_opening.specs.declared.check.CgVerdict.{CgVerdict}
use Rattle.c_opening.specs.declared.open.CgError.{CgError}
use Rattle.c_opening.specs.declared.open.CgFile.{CgFile}

-- the options of a check
abbrev pub options_of : Bool → VerifyOptions
options_of distinct = record { distinct_ids = distinct }

-- a verdict that is no statistics: its code, and where the fault is
abbrev pub refusal_at : ℕ → ℕ → ℕ → ℕ → ℕ → CgVerdict
refusal_at code position other layer index =
    record {
      code = code;
      num_commits = 0;
      longest = 0;
      has_longest = 0;
      position = position;
      other = other;
      called = 0;
      layer = layer;
      index = index;
      kinds = 0;
    }

-- a fault of a layer, and of the commit at a position
abbrev pub refusal_in_layer : ℕ → ℕ → ℕ → ℕ → CgVerdict
refusal_in_layer code layer other index = refusal_at code 0 other layer index

abbrev pub refusal_in_commit : ℕ → Position → ℕ → CgVerdict
refusal_in_commit code pos other = refusal_at code pos.0 other 0 0

-- how a fault is told: its number, and its place
abbrev pub refusal_of : {E : Type 0} → VerifyError E → CgVerdict
refusal_of error.TooManyFiles = refusal_in_layer 301 0 0 0
refusal_of (error.BaseCount layer) = refusal_in_layer 302 layer 0 0
refusal_of (error.BaseId layer index) = refusal_in_layer 303 layer 0 index
refusal_of (error.Layer layer fault) = refusal_in_layer (layer_code fault) layer (fan_byte fault) 0
refusal_of (error.Commit pos fault) = refusal_in_commit (commit_code fault) pos 0
refusal_of (error.Parent pos fault) = refusal_in_commit (parent_code fault) pos 0
refusal_of (error.ParentOutOfRange pos parent) = refusal_in_commit 307 pos parent.0
refusal_of (error.Generation pos expected) = refusal_in_commit 308 pos expected
refusal_of (error.Processor pos stop) = refusal_in_commit stopped pos 0
refusal_of error.OutOfMemory = refusal_in_layer out_of_memory 0 0 0
refusal_of (error.DuplicateId pos earlier) = refusal_in_commit 311 pos earlier.0

-- the same verdict, with the number of commits that the processor was called on
abbrev pub with_calls : ℕ → CgVerdict → CgVerdict
with_calls called v =
    record {
      code = v.code;
      num_commits = v.num_commits;
      longest = v.longest;
      has_longest = v.has_longest;
      position = v.position;
      other = v.other;
      called = called;
      layer = v.layer;
      index = v.index;
      kinds = v.kinds;
    }

-- how many commits stand before the layer or the commit of a fault; none before a failed allocation
abbrev pub commits_before : List Layer → VerifyError NoFault → ℕ
commits_before layers error.TooManyFiles = 0
commits_before layers (error.BaseCount layer) = start layers layer
commits_before layers (error.BaseId layer index) = start layers layer
commits_before layers (error.Layer layer fault) = start layers layer
commits_before layers (error.Commit pos fault) = pos.0
commits_before layers (error.Parent pos fault) = pos.0
commits_before layers (error.ParentOutOfRange pos parent) = pos.0
commits_before layers (error.Generation pos expected) = pos.0
commits_before layers (error.Processor pos fault) = pos.0
commits_before layers error.OutOfMemory = 0
commits_before layers (error.DuplicateId pos earlier) = pos.0

-- The number of commits that a check calls the processor on: all, or those that it comes to before the first fault. Where memory
-- ran out, none is told of.
pub record TellsCalls (options : VerifyOptions) (layers : List Layer) (v : CgVerdict) : Type 0 where
  pub all : v.code ≡ 0 → v.called ≡ total layers
  pub before : ¬ (v.code ≡ 0) → ¬ (v.code ≡ out_of_memory)
      → v.called ≡ length (calls_before_fault (points_with {E = NoFault} options layers))
  pub none : v.code ≡ out_of_memory → v.called ≡ 0

-- the verdict where no graph is open
abbrev pub closed_verdict : CgVerdict
closed_verdict = refusal_in_layer closed_graph 0 0 0

-- the verdict where no graph was opened: its code and its layer are those of the error
abbrev pub told_unopened : CgError → CgVerdict
told_unopened e = refusal_in_layer e.code e.layer 0 0

-- the longest walk that a verdict tells of, if it is known
abbrev pub told_longest : CgVerdict → Option ℕ
told_longest v = if v.has_longest == 1 then Some v.longest else None

-- The statistics of a graph as a verdict tells them.
pub record TellsStats (layers : List Layer) (v : CgVerdict) : Type 0 where
  pub code : v.code ≡ 0
  pub num_commits : v.num_commits ≡ total layers
  pub called : v.called ≡ total layers
  pub longest : MatchesLongestWalk (history_of layers) (told_longest v)
  pub known : v.has_longest ≤ 1
  pub unknown : v.has_longest ≡ 0 → v.longest ≡ 0
  pub no_place : (v.position ≡ 0) × ((v.other ≡ 0) × ((v.layer ≡ 0) × (v.index ≡ 0)))

-- The verdict on a graph whose check answers an error: its first fault, or that an allocation failed.
pub record TellsRefusal (options : VerifyOptions) (layers : List Layer) (v : CgVerdict) : Type 0 where
  pub error : VerifyError NoFault
  pub told : v ≡ with_calls v.called (refusal_of error)
  pub may : MayRefuseWith options layers error

-- The verdict on a graph whose check answers an error within a limit: its first fault, that an allocation failed, or that it was
-- stopped.
pub record TellsRefusalWithin (bound : Bound) (options : VerifyOptions) (layers : List Layer) (v : CgVerdict) : Type 0 where
  pub error : VerifyError Stopped
  pub told : v ≡ refusal_of error
  pub may : MayRefuseWithin bound options layers error

-- The verdict on a graph: the code is 0 only where it keeps what the options ask for, and else says why not.
pub record IsVerdict (options : VerifyOptions) (layers : List Layer) (v : CgVerdict) : Type 0 where
  pub right : v.code ≡ 0 → IsSoundWith options layers × TellsStats layers v
  pub refused : ¬ (v.code ≡ 0) → TellsRefusal options layers v

-- how many commits have a number of parents, as it is told
abbrev pub told_count : ℕ × ℕ → CgCount
told_count entry = record { parents = entry.0; commits = entry.1 }

-- The numbers of parents that are counted, and for each how many commits have it, as many as there is room for.
pub record TellsCountsOf (outcome : Outcome) (v : CgVerdict) (old new : List CgCount) : Type 0 where
  pub kinds : v.kinds ≡ length outcome.parent_counts.entries
  pub room : new ≡ written (map told_count outcome.parent_counts.entries) old

-- The numbers of parents that commits of a graph have, in ascending order, and for each how many have it.
pub record TellsCounts (layers : List Layer) (v : CgVerdict) (old new : List CgCount) : Type 0 where
  pub outcome : Outcome
  pub stats : Stats layers outcome
  pub ascending : IsOrdered nat_cmp outcome.parent_counts
  pub tells : TellsCountsOf outcome v old new

-- The verdict tells these statistics.
pub record TellsOutcome (outcome : Outcome) (v : CgVerdict) : Type 0 where
  pub code : v.code ≡ 0
  pub num_commits : v.num_commits ≡ outcome.num_commits
  pub called : v.called ≡ outcome.num_commits
  pub longest : told_longest v ≡ outcome.longest_path_length
  pub known : v.has_longest ≤ 1
  pub unknown : v.has_longest ≡ 0 → v.longest ≡ 0
  pub no_place : (v.position ≡ 0) × ((v.other ≡ 0) × ((v.layer ≡ 0) × (v.index ≡ 0)))

-- The layers of files make a graph, and the check refuses it, as the verdict and the error say.
pub record FailsCheck (options : VerifyOptions) (files : List CgFile) (v : CgVerdict) (e : CgError) : Type 0 where
  pub layers : List Layer
  pub opened : IsOpenedFrom files layers
  pub refused : TellsRefusal options layers v
  pub called : v.called ≡ 0
  pub told : e ≡ record { code = v.code; layer = 0 }
