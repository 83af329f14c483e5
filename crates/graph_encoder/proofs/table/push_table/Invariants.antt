use Rattle.std.proofs.Common.{◌≡◌, ◌+◌, ◌++◌, drop}
use Rattle.graph_encoder.specs.Sizes.{total_size, table_by_sizes}
use Rattle.graph_encoder.proofs.table.push_table.Given as goal

-- the table so far and that of the chunks that are left are the whole table
abbrev pub invariant-loop-chunk : goal.invariant-loop-chunk
invariant-loop-chunk l = record {
  table : l.file.items ++ table_by_sizes l.offset (drop l.chunk-index l.chunks)
      ≡ l.initial.file.items ++ table_by_sizes l.first l.chunks;
  bytes : l.offset + total_size (drop l.chunk-index l.chunks) ≡ l.first + total_size l.chunks;
}
