-- The chunks of a layer that a reader can do without: corrected commit dates ("Generation Data", "Generation Data Overflow") and
-- changed-path filters ("Bloom Filter Index", "Bloom Filter Data"). A layer has filters where it has both chunks of them; one
-- alone is ignored.
use Rattle.std.specs.Prelude.{◌≢◌, ◌+◌, ◌-◌, ◌/◌, ◌^◌, ℕ, List, [], map, length, codes, slice_index}
use Rattle.std.specs.Prelude.{Option, Some, None, unwrap_or, nat_lt, if◌then◌else◌}
use Rattle.std.specs.List.{range_with_len}
use Rattle.graph_format.specs.Format.{chunk_of}
use Rattle.graph_format.specs.Integers.{word_in, long_in}
use Rattle.graph_format.specs.Layer.{Layer, bytes_of}

-- the offset of commit p: its word; or, where the word's top bit is set, the number of the overflow list that the other bits name
abbrev pub offset_of : List ℕ → List ℕ → ℕ → Option ℕ
offset_of offsets overflow p =
    if nat_lt (word_in offsets p) (2 ^ 31) then Some (word_in offsets p)
    else if nat_lt (word_in offsets p - 2 ^ 31) (length overflow / 8) then Some (long_in overflow (word_in offsets p - 2 ^ 31))
    else None

-- its corrected date: its time and its offset together, and its time alone where it has no offset
abbrev pub date_of : List ℕ → List ℕ → List ℕ → ℕ → ℕ
date_of offsets overflow times p = slice_index times p + unwrap_or (offset_of offsets overflow p) 0

-- the dates of all commits, for which there is a time each
unfoldable pub stored_dates : List ℕ → List ℕ → List ℕ → List ℕ
stored_dates offsets overflow times = map (date_of offsets overflow times) (range_with_len 0 (length times))

-- a layer has corrected dates
abbrev pub HasDates : Layer → Type 0
HasDates layer = chunk_of (bytes_of layer) (codes "GDA2") ≢ None

-- the offsets of a layer's commits, and those that do not fit a word; none where the chunk is missing
abbrev pub offsets_in : Layer → List ℕ
offsets_in layer = unwrap_or (chunk_of (bytes_of layer) (codes "GDA2")) []

abbrev pub overflow_in : Layer → List ℕ
overflow_in layer = unwrap_or (chunk_of (bytes_of layer) (codes "GDO2")) []

-- the committer's times of a layer's commits, in seconds since 1970-01-01 00:00:00 UTC
abbrev pub times_in : Layer → List ℕ
times_in layer = map (λ r. r.time) layer.records

-- the corrected dates of a layer's commits
unfoldable pub dates_in : Layer → List ℕ
dates_in layer = stored_dates (offsets_in layer) (overflow_in layer) (times_in layer)

-- the index of a layer's filters, and their data
abbrev pub index_in : Layer → Option (List ℕ)
index_in layer = chunk_of (bytes_of layer) (codes "BIDX")

abbrev pub data_in : Layer → Option (List ℕ)
data_in layer = chunk_of (bytes_of layer) (codes "BDAT")
