use Rattle.std.proofs.Common.{rules}
use Rattle.graph_commands.proofs.run.run_find.Goals as goal

pub returns-in_ok-write_line-in-Ok-None-clause-written : goal.returns-in_ok-write_line-in-Ok-None-clause-written
returns-in_ok-write_line-in-Ok-None-clause-written g c = search rules
