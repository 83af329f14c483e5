-- the lines of a layer: what its file says of itself
use Rattle.std.specs.Prelude.{ℕ, List, [], ◌∷◌, Bool, length, codes, decimal, Option, Some, None, option_map, is_some}
use Rattle.std.specs.Prelude.{if◌then◌else◌}
use Rattle.std.specs.List.{flat_map}
use Rattle.hex.specs.Hex.{encode_lower}
use Rattle.graph_format.specs.Format.{chunk_of}
use Rattle.graph_format.specs.Layer.{Layer, bytes_of}
use Rattle.graph_commands.specs.Listing.{kind_text}
use Rattle.graph_commands.specs.Text.{◌⧺◌, newline}
use Rattle.graph_encoder.specs.StoredNumbers.{stored_filter_numbers}
use Rattle.graph_encoder.specs.declared.filters.FilterNumbers.{FilterNumbers}

-- the names of the chunks of the format, in the order in which Git writes them ("CHUNK DATA")
abbrev pub chunk_names : List (List ℕ)
chunk_names =
    codes "OIDF" ∷ codes "OIDL" ∷ codes "CDAT" ∷ codes "GDA2" ∷ codes "GDO2" ∷ codes "EDGE" ∷ codes "BIDX" ∷ codes "BDAT"
    ∷ codes "BASE" ∷ []

-- how many bytes the chunk of this name has in a layer's file, none where it is missing
abbrev pub chunk_size : Layer → List ℕ → Option ℕ
chunk_size layer name = option_map length (chunk_of (bytes_of layer) name)

-- whether something is there
abbrev pub yes_or_no : Bool → List ℕ
yes_or_no is_there = if is_there then codes "yes" else codes "no"

-- whether a layer has corrected dates ("Generation Data")
abbrev pub dates_word : Layer → List ℕ
dates_word layer = yes_or_no (is_some (chunk_size layer (codes "GDA2")))

-- how the filters of a layer are made ("Bloom Filter Data"): the version of the hash, how often a path is hashed, and the least
-- number of bits of a path; or that it has none
abbrev pub filter_numbers_text : Option FilterNumbers → List ℕ
filter_numbers_text (Some numbers) =
    codes "version " ⧺ decimal numbers.version ⧺ codes " hashes " ⧺ decimal numbers.hashes
    ⧺ codes " bits " ⧺ decimal numbers.bits_per_entry
filter_numbers_text None = codes "none"

-- the line of layer i, which counts from 0 for the lowest
abbrev pub counts_line : ℕ → Layer → List ℕ
counts_line i layer =
    codes "layer " ⧺ decimal i ⧺ codes " commits " ⧺ decimal (length layer.ids) ⧺ codes " hash " ⧺ kind_text layer.kind
    ⧺ codes " bases " ⧺ decimal (length layer.bases) ⧺ codes " dates " ⧺ dates_word layer
    ⧺ codes " filters " ⧺ filter_numbers_text (stored_filter_numbers layer) ⧺ newline

-- the line of its checksum
abbrev pub checksum_line : Layer → List ℕ
checksum_line layer = codes "checksum " ⧺ encode_lower layer.checksum ⧺ newline

-- a chunk and its size, if it is there
abbrev pub chunk_text : List ℕ → Option ℕ → List ℕ
chunk_text name (Some size) = codes " " ⧺ name ⧺ codes " " ⧺ decimal size
chunk_text name None = []

-- the chunks that a layer's file has
abbrev pub chunks_text : Layer → List ℕ
chunks_text layer = codes "chunks" ⧺ flat_map (λ name. chunk_text name (chunk_size layer name)) chunk_names

-- all lines of layer i
abbrev pub layer_lines : ℕ → Layer → List ℕ
layer_lines i layer = counts_line i layer ⧺ checksum_line layer ⧺ chunks_text layer ⧺ newline
