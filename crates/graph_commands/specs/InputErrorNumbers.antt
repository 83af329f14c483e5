-- the numbers that stand in the program's lines for errors of ids and of reading
use Rattle.std.specs.Prelude.{ℕ}
use Rattle.gix_hash_core.specs.declared.object_id.IdError.{IdError}
use Rattle.gix_hash_core.specs.declared.object_id.IdError.TheVariants as hexadecimal
use Rattle.graph_folder.specs.declared.folder.ReadError.{ReadError}
use Rattle.graph_folder.specs.declared.folder.ReadError.TheVariants as read

abbrev pub id_number : IdError → ℕ
id_number hexadecimal.Length = 1
id_number hexadecimal.Digit = 2

abbrev pub read_number : ReadError → ℕ
read_number read.NotOpened = 1
read_number read.Device = 2
read_number read.OutOfMemory = 3
