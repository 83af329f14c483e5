-- Digests of messages, as a file ends with one of all bytes before it (gitformat-commit-graph, "TRAILER").
use Rattle.std.specs.Prelude.{ℕ, List}
use Rattle.sha1.specs.Sha1.{sha1}
use Rattle.sha2.specs.Sha256.{sha256}
use Rattle.gix_hash_core.specs.declared.kind.Kind.{Kind}
use Rattle.gix_hash_core.specs.declared.kind.Kind.TheVariants.{Sha1, Sha256}

-- the digest of a message by the hash of the kind, as FIPS 180-4 defines it
abbrev pub digest_of : Kind → List ℕ → List ℕ
digest_of Sha1 message = sha1 message
digest_of Sha256 message = sha256 message
