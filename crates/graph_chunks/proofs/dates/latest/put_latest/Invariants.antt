use Rattle.graph_chunks.proofs.LatestLemmas.{AreToldFrom}
use Rattle.graph_chunks.proofs.dates.latest.put_latest.Given as goal

abbrev pub invariant-loop-index : goal.invariant-loop-index
invariant-loop-index l = AreToldFrom l.dates l.words l.latest l.index l.listed
