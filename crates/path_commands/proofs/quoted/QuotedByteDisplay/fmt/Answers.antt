-- A character of ASCII is one byte.
use Rattle.std.proofs.Common.{arith}
use Rattle.std.proofs.lemmas.Grind.{common_steps}
use Rattle.std.proofs.lemmas.Str.{encode_ascii}
use Rattle.path_commands.proofs.quoted.QuotedByteDisplay.fmt.Goals as goal

pub returns-in_ok-write_str-clause-writes : goal.returns-in_ok-write_str-clause-writes
returns-in_ok-write_str-clause-writes g c = grind (arith, common_steps, encode_ascii)
