use Rattle.changed_paths.proofs.Murmur3Lemmas.{same_murmur3}
use Rattle.changed_paths.proofs.law.readings_agree_on_ascii.Goals as goal

pub returns : goal.returns
returns c seed bytes all = same_murmur3 bytes all seed
