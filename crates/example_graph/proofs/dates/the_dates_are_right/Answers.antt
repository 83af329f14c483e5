use Rattle.example_graph.proofs.DateFacts.{dates_are_right, dates_are, no_filters}
use Rattle.example_graph.proofs.dates.the_dates_are_right.Goals as goal

pub returns : goal.returns
returns c = record { dates = dates_are_right; each = dates_are; filters = no_filters }
