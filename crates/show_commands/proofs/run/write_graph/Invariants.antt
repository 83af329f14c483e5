-- The lines of the layers so far are written.
use Rattle.std.proofs.Common.{ℕ, take}
use Rattle.std.specs.List.{enumerate_from, flat_map}
use Rattle.std.specs.Io.KnownBytes.{Appends}
use Rattle.graph_format.specs.Layer.{Layer}
use Rattle.show_commands.specs.LayerLines.{layer_lines}
use Rattle.show_commands.proofs.run.write_graph.Given as goal

abbrev pub invariant-loop-number : goal.invariant-loop-number
invariant-loop-number g l =
    Appends (g.W.Write.contents l.fn.writer) (g.W.Write.contents l.writer)
    (flat_map (λ (row : ℕ × Layer). layer_lines row.0 row.1) (enumerate_from 0 (take l.number l.graph)))
