-- How Git makes filters beside those of a graph ("Bloom Filter Data"): by their version, their number of hashes and their bits
-- for each path; where none are there, by version 1, seven hashes and ten bits.
use Rattle.std.specs.Prelude.{ℕ, List, [], ◌∷◌, length, Option, Some, None, nat_lt, if◌then◌else◌, unwrap_or}
use Rattle.std.specs.Option.{option_or}
use Rattle.graph_format.specs.Layer.{Layer}
use Rattle.graph_format.specs.Integers.{word_in}
use Rattle.graph_format.specs.OptionalChunks.{index_in, data_in}
use Rattle.graph_chunks.specs.declared.filters.FilterSettings.{FilterSettings}
use Rattle.changed_paths.specs.declared.filters.HashVersion.TheVariants.{One}
use Rattle.path_filters.specs.declared.settings.Settings.{Settings}

-- the bits for each path that the data of filters names, where both chunks are there
abbrev pub bits_with : Option (List ℕ) → Option (List ℕ) → Option ℕ
bits_with (Some index) (Some body) = if nat_lt (length body) 12 then None else Some (word_in body 2)
bits_with index body = None

-- those of a layer's filters, none where it has no filters
abbrev pub bits_in : Layer → Option ℕ
bits_in layer = bits_with (index_in layer) (data_in layer)

-- those of the lowest layer with filters
abbrev pub bits_of : List Layer → Option ℕ
bits_of [] = None
bits_of (layer ∷ layers) = option_or (bits_in layer) (bits_of layers)

-- with the version and the hashes of these filters, where some are there, and for 512 paths at most
abbrev pub git_settings : Option FilterSettings → List Layer → Settings
git_settings (Some own) layers =
    record { version = own.version; bits = unwrap_or (bits_of layers) 10; hashes = own.hashes; most = 512 }
git_settings None layers = record { version = One; bits = 10; hashes = 7; most = 512 }
