use Rattle.example_graph.proofs.StreamFacts.{is_stream}
use Rattle.example_graph.proofs.stream.the_commits_match.Goals as goal

pub returns : goal.returns
returns c = is_stream
