-- the numbers by which programs tell errors and faults
use Rattle.std.specs.Prelude.{ℕ}
use Rattle.gix_chunk_core.specs.declared.error.ChunkError.{ChunkError}
use Rattle.gix_chunk_core.specs.declared.error.ChunkError.TheVariants as chunk
use Rattle.graph_format.specs.declared.error.FileError.{FileError}
use Rattle.graph_format.specs.declared.error.FileError.TheVariants as file
use Rattle.graph_format.specs.declared.error.GraphError.{GraphError}
use Rattle.graph_format.specs.declared.error.GraphError.TheVariants as graph
use Rattle.graph_format.specs.declared.fault.CommitFault.{CommitFault}
use Rattle.graph_format.specs.declared.fault.CommitFault.TheVariants as commit
use Rattle.graph_format.specs.declared.parents.ParentError.{ParentError}
use Rattle.graph_format.specs.declared.parents.ParentError.TheVariants as parent

abbrev pub chunk_number : ChunkError → ℕ
chunk_number chunk.NoChunks = 1
chunk_number chunk.TableTooSmall = 2
chunk_number (chunk.EarlyEnd entry) = 3
chunk_number (chunk.Duplicate id) = 4
chunk_number (chunk.OutOfFile entry) = 5
chunk_number (chunk.Falling entry) = 6
chunk_number (chunk.NoEnd id) = 7

abbrev pub file_number : FileError → ℕ
file_number file.TooSmall = 1
file_number file.Signature = 2
file_number (file.Version byte) = 3
file_number (file.Hash byte) = 4
file_number (file.Chunks error) = 5
file_number file.BaseSize = 6
file_number file.BaseCount = 7
file_number file.NoCommitData = 8
file_number file.CommitDataSize = 9
file_number file.NoFan = 10
file_number file.FanSize = 11
file_number file.NoIds = 12
file_number file.IdsSize = 13
file_number file.TooManyEdges = 14
file_number file.Trailer = 15
file_number file.BaseMissing = 16
file_number (file.FanFalls at) = 17
file_number file.IdCount = 18
file_number file.RecordCount = 19
file_number file.OutOfMemory = 20

abbrev pub graph_number : GraphError → ℕ
graph_number graph.NoFiles = 1
graph_number (graph.TooManyCommits sum) = 2
graph_number (graph.HashMismatch layer) = 3
graph_number graph.OutOfMemory = 4

abbrev pub commit_number : CommitFault → ℕ
commit_number commit.NullId = 1
commit_number commit.Order = 2
commit_number commit.NullTree = 3

abbrev pub parent_number : ParentError → ℕ
parent_number parent.SecondWithoutFirst = 1
parent_number parent.FirstIsEdgeIndex = 2
parent_number parent.NoEdgeList = 3
parent_number parent.EdgeOverflow = 4
