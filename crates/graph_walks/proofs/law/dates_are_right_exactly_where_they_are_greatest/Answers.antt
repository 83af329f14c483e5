use Rattle.graph_walks.proofs.DateLemmas.{greatest_from_right, right_from_greatest}
use Rattle.graph_walks.proofs.law.dates_are_right_exactly_where_they_are_greatest.Goals as goal

pub returns : goal.returns
returns c h ts ds = (greatest_from_right h ts ds, right_from_greatest h ts ds)
