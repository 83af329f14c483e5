-- the numbers by which the library tells causes: each cause has one, the same in all calls, and 0 stands for none
use Rattle.std.specs.Prelude.{ℕ}
use Rattle.gix_chunk_core.specs.declared.error.ChunkError.{ChunkError}
use Rattle.gix_chunk_core.specs.declared.error.ChunkError.TheVariants as chunk
use Rattle.graph_format.specs.declared.error.FileError.{FileError}
use Rattle.graph_format.specs.declared.error.FileError.TheVariants as file
use Rattle.graph_format.specs.declared.error.GraphError.{GraphError}
use Rattle.graph_format.specs.declared.error.GraphError.TheVariants as graph
use Rattle.graph_format.specs.declared.fault.CommitFault.{CommitFault}
use Rattle.graph_format.specs.declared.fault.CommitFault.TheVariants as commit
use Rattle.graph_format.specs.declared.fault.LayerFault.{LayerFault}
use Rattle.graph_format.specs.declared.fault.LayerFault.TheVariants as layer
use Rattle.graph_layer.specs.declared.opening.error.OpenError.{OpenError}
use Rattle.graph_layer.specs.declared.opening.error.OpenError.TheVariants as opening
use Rattle.graph_format.specs.declared.parents.ParentError.{ParentError}
use Rattle.graph_format.specs.declared.parents.ParentError.TheVariants as parent

abbrev pub out_of_memory : ℕ
out_of_memory = 1

abbrev pub closed_graph : ℕ
closed_graph = 2

abbrev pub not_checked : ℕ
not_checked = 3

abbrev pub no_such_position : ℕ
no_such_position = 4

abbrev pub path_not_utf8 : ℕ
path_not_utf8 = 5

abbrev pub no_dates : ℕ
no_dates = 6

abbrev pub more_parents : ℕ
more_parents = 7

abbrev pub path_wanted : ℕ
path_wanted = 8

abbrev pub no_such_layer : ℕ
no_such_layer = 9

abbrev pub stopped : ℕ
stopped = 10

abbrev pub no_ids : ℕ
no_ids = 712

abbrev pub chunk_code : ChunkError → ℕ
chunk_code chunk.NoChunks = 151
chunk_code chunk.TableTooSmall = 152
chunk_code (chunk.EarlyEnd entry) = 153
chunk_code (chunk.Duplicate id) = 154
chunk_code (chunk.OutOfFile entry) = 155
chunk_code (chunk.Falling entry) = 156
chunk_code (chunk.NoEnd id) = 157

abbrev pub file_code : FileError → ℕ
file_code file.TooSmall = 101
file_code file.Signature = 102
file_code (file.Version byte) = 103
file_code (file.Hash byte) = 104
file_code (file.Chunks error) = chunk_code error
file_code file.BaseSize = 106
file_code file.BaseCount = 107
file_code file.NoCommitData = 108
file_code file.CommitDataSize = 109
file_code file.NoFan = 110
file_code file.FanSize = 111
file_code file.NoIds = 112
file_code file.IdsSize = 113
file_code file.TooManyEdges = 114
file_code file.Trailer = 115
file_code file.BaseMissing = 116
file_code (file.FanFalls at) = 117
file_code file.IdCount = 118
file_code file.RecordCount = 119
file_code file.OutOfMemory = out_of_memory

abbrev pub graph_code : GraphError → ℕ
graph_code graph.NoFiles = 201
graph_code (graph.TooManyCommits sum) = 202
graph_code (graph.HashMismatch layer) = 203
graph_code graph.OutOfMemory = out_of_memory

abbrev pub open_code : OpenError → ℕ
open_code opening.NothingFound = 21
open_code opening.NotOpened = 22
open_code opening.Device = 23
open_code (opening.ChainNotText line) = 24
open_code (opening.Layer layer error) = file_code error
open_code (opening.Graph error) = graph_code error
open_code opening.OutOfMemory = out_of_memory

abbrev pub layer_code : LayerFault → ℕ
layer_code layer.Checksum = 341
layer_code layer.FileName = 342
layer_code (layer.Fan byte) = 343

abbrev pub commit_code : CommitFault → ℕ
commit_code commit.NullId = 351
commit_code commit.Order = 352
commit_code commit.NullTree = 353

abbrev pub parent_code : ParentError → ℕ
parent_code parent.SecondWithoutFirst = 361
parent_code parent.FirstIsEdgeIndex = 362
parent_code parent.NoEdgeList = 363
parent_code parent.EdgeOverflow = 364

-- the byte at which the fan is wrong, 0 where something else is
abbrev pub fan_byte : LayerFault → ℕ
fan_byte layer.Checksum = 0
fan_byte layer.FileName = 0
fan_byte (layer.Fan byte) = byte
