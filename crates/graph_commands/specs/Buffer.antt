-- bytes on their way to a writer
use Rattle.std.specs.Prelude.{ℕ, List, Option}
use Rattle.std.specs.Io.KnownBytes.{append_known}

-- what a writer will hold once it has the bytes of a buffer too
abbrev pub with_buffer : Option (List ℕ) → List ℕ → Option (List ℕ)
with_buffer contents buffer = append_known contents buffer
