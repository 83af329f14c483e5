use Rattle.gix_commitgraph.proofs.sound.SoundLemmas.{sound-scanned}
use Rattle.gix_commitgraph.proofs.law.sound.a_lookup_in_a_right_graph_is_a_scan.Goals as goal

pub returns : goal.returns
returns c = sound-scanned
