-- Why bytes could not be read.
use Rattle.std.specs.Prelude.{ℕ, ◌≤◌, ⊤}
use Rattle.object_stream.specs.declared.error.ReadFailure.{ReadFailure}
use Rattle.object_stream.specs.declared.error.ReadFailure.TheVariants.{Device, OutOfMemory}

-- a read failed, or there is no memory for so many bytes, of which there are at least 64 KiB
abbrev pub IsFillError : ℕ → ReadFailure → Type 0
IsFillError count Device = ⊤
IsFillError count OutOfMemory = 65536 ≤ count
