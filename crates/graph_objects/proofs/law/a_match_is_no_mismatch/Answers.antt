use Rattle.graph_objects.proofs.MatchLemmas.{excluded}
use Rattle.graph_objects.proofs.law.a_match_is_no_mismatch.Goals as goal

pub returns : goal.returns
returns c = excluded
