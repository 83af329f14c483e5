-- Files of which only the first bytes are known, and the length.
use Rattle.std.specs.Prelude.{◌≡◌, ℕ, ◌+◌, ◌-◌, ◌*◌, ◌≤◌, List, ◌++◌, length, take}
use Rattle.std.proofs.Math.ListN.{replicate}
use Rattle.gix_chunk_core.specs.Table.{Chunks, table_at}

-- A file that has so many bytes begins with these.
pub record BeginsWith (file front : List ℕ) (len : ℕ) : Type 0 where
  pub size : length file ≡ len
  pub starts : take (length front) file ≡ front

-- such a file, whose other bytes are 0
unfoldable pub filled : List ℕ → ℕ → List ℕ
filled front len = front ++ replicate (len - length front) 0

-- The table lies in the first bytes.
pub record IsTableIn (front : List ℕ) (len at count : ℕ) : Type 0 where
  pub chunks : Chunks (filled front len) at count (table_at (filled front len) at count)
  pub within : at + 12 * (count + 1) ≤ length front
  pub fits : length front ≤ len
