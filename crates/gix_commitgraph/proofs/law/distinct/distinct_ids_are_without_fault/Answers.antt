use Rattle.std.proofs.Common.{true, refl}
use Rattle.gix_commitgraph.proofs.sound.SoundLemmas.{sound_with-from_none, none-from_sound_with}
use Rattle.gix_commitgraph.proofs.law.distinct.distinct_ids_are_without_fault.Goals as goal

pub returns : goal.returns
returns c h = λ layers opened sound. (
  λ none. (sound_with-from_none (record { distinct_ids = true }) layers opened none).distinct refl,
  λ distinct. none-from_sound_with (record {
    distinct_ids =
        true;
  }) layers opened (record { sound = sound; distinct = λ is. distinct }),
)
