-- How long a digest is.
use Rattle.std.proofs.Common.{◌≡◌, ◌*◌, ℕ, zero, suc, List, arith, length, length-append, refl}
use Rattle.std.specs.Int.{w32, to_be_bytes}
use Rattle.std.specs.Prelude.{slice_index}
use Rattle.sha1.specs.Sha1.{digest_bytes, sha1}
use Rattle.sha2.proofs.Facts256.{length-sha256}
use Rattle.gix_hash_core.specs.Digest.{digest_of}
use Rattle.gix_hash_core.specs.Kind.{id_len}
use Rattle.gix_hash_core.specs.declared.kind.Kind.{Kind}
use Rattle.gix_hash_core.specs.declared.kind.Kind.TheVariants.{Sha1, Sha256}

length-digest_bytes : (hash : List ℕ) (n : ℕ) → length (digest_bytes hash n) ≡ n * 4
unfolding digest_bytes
length-digest_bytes hash zero = refl
length-digest_bytes hash (suc n) =
    let before = length-digest_bytes hash n in
    let last : length (to_be_bytes w32 (slice_index hash n)) ≡ 4 = refl in
    let both = length-append (digest_bytes hash n) (to_be_bytes w32 (slice_index hash n)) in
    omega (arith, before, last, both)

length-sha1 : (message : List ℕ) → length (sha1 message) ≡ 20
unfolding sha1
length-sha1 message = length-digest_bytes _ 5

-- a digest is as long as an id of its kind
pub digest_is_sized : (kind : Kind) (message : List ℕ) → length (digest_of kind message) ≡ id_len kind
digest_is_sized Sha1 message = length-sha1 message
digest_is_sized Sha256 message = length-sha256 message
