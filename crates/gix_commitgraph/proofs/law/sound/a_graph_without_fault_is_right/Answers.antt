use Rattle.gix_commitgraph.proofs.sound.SoundLemmas.{sound-from_none}
use Rattle.gix_commitgraph.proofs.law.sound.a_graph_without_fault_is_right.Goals as goal

pub returns : goal.returns
returns c h = sound-from_none
