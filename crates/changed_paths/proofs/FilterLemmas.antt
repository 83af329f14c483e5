-- A path that is absent, and the paths whose bits a filter has.
use Rattle.std.proofs.Common.{◌≡◌, ℕ, List, Contains, arith}
use Rattle.std.proofs.lemmas.List.Elements.{All-contains}
use Rattle.changed_paths.specs.Filter.{probe, bit_hit, MayRead, AllHit, SomeMisses, IsAbsent, HasPaths}
use Rattle.changed_paths.specs.declared.filters.HashVersion.{HashVersion}
use Rattle.changed_paths.specs.declared.murmur3.ByteReading.{ByteReading}

never_both : (reading : ByteReading) (hashes : ℕ) (filter path : List ℕ) → AllHit reading hashes filter path
    → ¬ SomeMisses reading hashes filter path
unfolding AllHit SomeMisses
never_both reading hashes filter path hit missed =
    let one : bit_hit filter (probe reading path missed.0) ≡ 1 = hit missed.0 missed.1 in
    let none : bit_hit filter (probe reading path missed.0) ≡ 0 = missed.2 in
    omega arith

pub absent_is_not_contained : (version : HashVersion) (reading : ByteReading) (hashes : ℕ) (filter path : List ℕ)
    (paths : List (List ℕ)) → MayRead version reading → HasPaths reading hashes filter paths
    → IsAbsent version hashes filter path → ¬ Contains paths path
absent_is_not_contained version reading hashes filter path paths may of absent contained =
    never_both reading hashes filter path (All-contains (AllHit reading hashes filter) paths path of contained)
    (absent reading may)
