use Rattle.gix_commitgraph.proofs.sound.SoundLemmas.{sound-longest}
use Rattle.gix_commitgraph.proofs.law.sound.the_longest_path_of_a_right_graph_is_its_longest_walk.Goals as goal

pub returns : goal.returns
returns c = sound-longest
