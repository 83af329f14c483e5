use Rattle.std.proofs.Common.{rules}
use Rattle.graph_commands.proofs.buffer.Buffer.write_out.Goals as goal

pub returns-clause-written : goal.returns-clause-written
returns-clause-written g c = search rules
