-- the answers of `merge`
use Rattle.std.specs.Prelude.{◌≡◌, ◌⊎◌, ◌<◌, ℕ, List, [], Option, Result, Ok, Err}
use Rattle.graph_format.specs.Layer.{Layer}
use Rattle.graph_layer.specs.declared.opening.error.OpenError.{OpenError}
use Rattle.gix_commitgraph.specs.Graph.{total}
use Rattle.gix_commitgraph.specs.Sound.{Sound}
use Rattle.graph_writer.specs.WrittenFiles.{IsWrittenWith}
use Rattle.graph_writer.specs.WritingRefusal.{MayRefuseWriting}
use Rattle.graph_writer.specs.declared.commit.NewCommit.{NewCommit}
use Rattle.graph_writer.specs.declared.commit.WriteError.{WriteError}
use Rattle.graph_writer.specs.declared.commit.WriteError.TheVariants as error
use Rattle.graph_writer.specs.declared.filters.NewFilters.{NewFilters}
use Rattle.history_commands.specs.Check.{MayRefuseToStart}
use Rattle.write_commands.specs.declared.refusal.LayerRefusal.{LayerRefusal}
use Rattle.write_commands.specs.declared.refusal.LayerRefusal.TheVariants.{Graph, Stream, Commits}
use Rattle.write_commands.specs.CarriedFilters.{AreCarried}
use Rattle.write_commands.specs.GraphCommits.{AreCommitsOf}

-- the commits are those of a right graph that the opener may give, and the filters those that a file with them is to have
abbrev pub AreFoundCommits : (Result (List Layer) OpenError → Type 0) → List NewCommit → Option NewFilters → Type 0
AreFoundCommits MayOpen commits filters =
    (layers : List Layer) × MayOpen (Ok layers) × Sound layers × AreCommitsOf layers commits × AreCarried layers filters

-- why the commits of a right graph make no file of one layer: what refuses them as new commits on no graph; or memory ran out
-- before all of them were listed, and there are some
abbrev pub MayRefuseCommitsOf : List Layer → WriteError → Type 0
MayRefuseCommitsOf layers fault =
    ((commits : List NewCommit) × AreCommitsOf layers commits × MayRefuseWriting [] commits fault)
    ⊎ ((fault ≡ error.OutOfMemory) × (0 < total layers))

-- what `merge` may answer, given what the opener may answer at the path: the file of a layer, on no other, that has the commits
-- of a right graph, and their filters; why these make none; or why there is no right graph, as `verify` may say
abbrev pub MayMerge : (Result (List Layer) OpenError → Type 0) → Result (List ℕ) LayerRefusal → Type 0
MayMerge MayOpen (Ok bytes) =
    (commits : List NewCommit) × (filters : Option NewFilters) × AreFoundCommits MayOpen commits filters
    × IsWrittenWith [] commits filters bytes
MayMerge MayOpen (Err (Commits fault)) =
    (layers : List Layer) × MayOpen (Ok layers) × Sound layers × MayRefuseCommitsOf layers fault
MayMerge MayOpen (Err (Stream fault)) = ⊥
MayMerge MayOpen (Err (Graph refusal)) = MayRefuseToStart MayOpen refusal
