use Rattle.graph_format.proofs.DigitLemmas.{digits-count}
use Rattle.graph_format.proofs.law.lookup.digits_are_binary_digits.Goals as goal

pub returns : goal.returns
returns c = digits-count
