use Rattle.std.proofs.Common.{rules}
use Rattle.graph_encoder.specs.StoredNumbers.{stored_filter_numbers}
use Rattle.write_commands.proofs.filters.filter_numbers.Goals as goal

pub returns-in-Some-Some : goal.returns-in-Some-Some
unfolding stored_filter_numbers
returns-in-Some-Some c = search rules

pub returns-in_default : goal.returns-in_default
unfolding stored_filter_numbers
returns-in_default c = search rules

pub returns-in_default-2 : goal.returns-in_default-2
unfolding stored_filter_numbers
returns-in_default-2 c = search rules
