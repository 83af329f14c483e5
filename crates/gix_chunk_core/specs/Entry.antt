-- The entries of a table of chunks (gitformat-chunk, "DESCRIPTION"; gitformat-commit-graph, "CHUNK LOOKUP").
use Rattle.std.specs.Prelude.{ℕ, ◌+◌, ◌*◌, List, [], ◌∷◌, take, drop, slice_range}
use Rattle.std.specs.Int.{w64, from_be_bytes}

-- The four bytes that name a chunk, and where it begins, counted from the file's start.
pub record Entry : Type 0 where
  pub id : List ℕ
  pub offset : ℕ

-- entry i of a table that begins at `at`: it has twelve bytes, of which the last eight are the offset
unfoldable pub entry_at : List ℕ → ℕ → ℕ → Entry
entry_at bytes at i =
    let entry = slice_range bytes (at + 12 * i) (at + 12 * i + 12) in
    record { id = take 4 entry; offset = from_be_bytes w64 (drop 4 entry) }

-- the id of the entry that ends a table: it names no chunk
abbrev pub end_id : List ℕ
end_id = 0 ∷ 0 ∷ 0 ∷ 0 ∷ []
