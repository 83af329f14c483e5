use Rattle.gix_commitgraph.proofs.sound.SoundLemmas.{sound_with-from_none, none-from_sound_with}
use Rattle.gix_commitgraph.proofs.law.distinct.a_graph_that_keeps_what_is_asked_is_without_fault.Goals as goal

pub returns : goal.returns
returns c h = λ options layers opened. (sound_with-from_none options layers opened, none-from_sound_with options layers opened)
