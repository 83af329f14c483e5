use Rattle.gix_commitgraph.proofs.sound.SoundLemmas.{none-from_sound}
use Rattle.gix_commitgraph.proofs.law.sound.a_right_graph_is_without_fault.Goals as goal

pub returns : goal.returns
returns c h = none-from_sound
