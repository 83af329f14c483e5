-- The three numbers that stand before the filters of a layer, as its file has them ("Bloom Filter Data").
use Rattle.std.specs.Prelude.{ℕ, List, Option, Some, None, length, nat_lt, if◌then◌else◌}
use Rattle.graph_format.specs.Integers.{word_in}
use Rattle.graph_format.specs.Layer.{Layer}
use Rattle.graph_format.specs.OptionalChunks.{index_in, data_in}
use Rattle.graph_encoder.specs.declared.filters.FilterNumbers.{FilterNumbers}

-- the three numbers at the head of the data of filters, where it is long enough
abbrev pub numbers_at_head : List ℕ → Option FilterNumbers
numbers_at_head body =
    if nat_lt (length body) 12 then None
    else Some (record { version = word_in body 0; hashes = word_in body 1; bits_per_entry = word_in body 2 })

abbrev pub numbers_with : Option (List ℕ) → Option (List ℕ) → Option FilterNumbers
numbers_with (Some index) (Some body) = numbers_at_head body
numbers_with index body = None

-- those of a layer, none where it has no filters
unfoldable pub stored_filter_numbers : Layer → Option FilterNumbers
stored_filter_numbers layer = numbers_with (index_in layer) (data_in layer)
