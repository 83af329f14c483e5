-- The line of a refusal comes after those of the graph.
use Rattle.std.proofs.Common.{refl, Some}
use Rattle.std.proofs.KnownBytes.{Appends-trans}
use Rattle.show_commands.proofs.run.show.Goals as goal

pub returns-in_ok-write_line-in-Err : goal.returns-in_ok-write_line-in-Err
returns-in_ok-write_line-in-Err g c = (
  Some c.in-Err.refusal,
  c.in-Err.ensures.refused,
  Appends-trans _ _ _ _ _ c.in_ok-write_graph.ensures c.in_ok-write_line-in-Err.ensures.written,
  refl,
)
