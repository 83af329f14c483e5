use Rattle.example_graph.proofs.DamageFacts.{fan_falls, trailer_is_other, generation_is_wrong}
use Rattle.example_graph.proofs.layer.damaged_copies_are_refused.Goals as goal

pub returns : goal.returns
returns c = record { falling_fan = fan_falls; other_trailer = trailer_is_other; wrong_generation = generation_is_wrong }
