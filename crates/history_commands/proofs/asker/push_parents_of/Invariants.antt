-- The parents so far are added, and those that are left are the others.
use Rattle.std.proofs.Common.{◌≡◌, ◌<◌, ◌++◌, ℕ, List, All, map}
use Rattle.std.specs.Prelude.{codes}
use Rattle.std.specs.List.{flat_map}
use Rattle.std.specs.Io.KnownBytes.{Appends}
use Rattle.graph_walks.specs.History.{parents_at}
use Rattle.graph_format.specs.StoredHistory.{history_of}
use Rattle.graph_format.specs.declared.Position.{Position}
use Rattle.gix_commitgraph.specs.Graph.{total}
use Rattle.gix_commitgraph.specs.IdWalks.{ids_at}
use Rattle.answer_lines.specs.AnswerLines.{parent_text}
use Rattle.graph_commands.specs.Buffer.{with_buffer}
use Rattle.history_commands.proofs.asker.push_parents_of.Given as goal

abbrev pub invariant-loop-parent : goal.invariant-loop-parent
invariant-loop-parent g l = record {
  within : All (λ (q : Position). q.0 < total l.graph.layers) l.parent-iterator;
  added : (ids : List (List ℕ))
      × (ids_at l.graph.layers (parents_at (history_of l.graph.layers) l.fn.pos.0)
      ≡ ids ++ ids_at l.graph.layers (map (λ (q : Position). q.0) l.parent-iterator))
      × Appends (with_buffer (g.W.Write.contents l.fn.writer) l.fn.buffer) (with_buffer (g.W.Write.contents l.writer) l.buffer)
      (codes "parents" ++ flat_map parent_text ids);
}
