-- The kinds of hash, and how many bytes their ids have.
use Rattle.std.specs.Prelude.{ℕ, ◌==◌, Bool, ◌||◌, if◌then◌else◌, Option, Some, None}
use Rattle.gix_hash_core.specs.declared.kind.Kind.{Kind}
use Rattle.gix_hash_core.specs.declared.kind.Kind.TheVariants.{Sha1, Sha256}

-- how many bytes an id of the kind has
abbrev pub id_len : Kind → ℕ
id_len Sha1 = 20
id_len Sha256 = 32

-- the kind that the hash version in a file's header stands for: 1 is SHA-1 and 2 is SHA-256
-- (gitformat-commit-graph, "HEADER")
abbrev pub kind_of : ℕ → Option Kind
kind_of byte = if byte == 1 then Some Sha1 else (if byte == 2 then Some Sha256 else None)

-- whether ids of some kind have this many bytes
abbrev pub is_id_len : ℕ → Bool
is_id_len n = n == 20 || n == 32
