use Rattle.std.proofs.Common.{rules}
use Rattle.graph_commands.proofs.refusal.VerifyTextDisplay.fmt.Goals as goal

pub returns-in-DuplicateId-clause-writes : goal.returns-in-DuplicateId-clause-writes
returns-in-DuplicateId-clause-writes g c = search rules
