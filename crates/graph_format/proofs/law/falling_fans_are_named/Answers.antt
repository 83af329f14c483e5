use Rattle.graph_format.proofs.FallingFanLemmas.{first_fall}
use Rattle.graph_format.proofs.law.falling_fans_are_named.Goals as goal

pub returns : goal.returns
returns c = first_fall
