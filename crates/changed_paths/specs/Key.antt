-- the two hashes of a path, of which its probes are made ("Bloom Filter Data")
use Rattle.std.specs.Prelude.{◌≡◌, ℕ, List}
use Rattle.changed_paths.specs.Filter.{first_hash, step_hash}
use Rattle.changed_paths.specs.declared.murmur3.ByteReading.{ByteReading}
use Rattle.changed_paths.specs.declared.key.Hashes.{Hashes}

pub record AreHashes (reading : ByteReading) (path : List ℕ) (hashes : Hashes) : Type 0 where
  pub first : hashes.first ≡ first_hash reading path
  pub step : hashes.step ≡ step_hash reading path
