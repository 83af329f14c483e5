use Rattle.gix_commitgraph.proofs.check.DuplicateNameLemmas.{asked-from_named}
use Rattle.gix_commitgraph.proofs.law.distinct.a_repeated_id_is_named_only_where_that_is_asked.Goals as goal

pub returns : goal.returns
returns c h = λ options layers pos earlier. asked-from_named _ options layers pos earlier
