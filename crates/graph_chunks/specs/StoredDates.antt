-- Why the chunks of a layer with corrected commit dates are refused ("Generation Data", "Generation Data Overflow"). Where the
-- second chunk is missing, it is taken for an empty one.
use Rattle.std.specs.Prelude.{◌≡◌, ◌==◌, ◌⊎◌, ⊤, ℕ, ◌*◌, ◌%◌, ◌^◌, ◌<◌, not, List, length, Option, Some, None, is_none, nat_lt}
use Rattle.gix_chunk_core.specs.FirstFault.{◌when◌, ◌otherwise◌, first_below}
use Rattle.graph_format.specs.declared.file.Position.{Position}
use Rattle.graph_format.specs.OptionalChunks.{offset_of, date_of}
use Rattle.graph_chunks.specs.declared.dates.layer.LayerDatesError.{LayerDatesError}
use Rattle.graph_chunks.specs.declared.dates.layer.LayerDatesError.TheVariants.{DataSize, OverflowSize, OverflowIndex, TooLarge}
use Rattle.graph_chunks.specs.declared.dates.layer.LayerDatesError.TheVariants.{OutOfMemory}

-- the position in the layer
abbrev pub date_position : ℕ → Position
date_position p = record { 0 = p }

-- why commit p has no date
abbrev pub date_fault : List ℕ → List ℕ → List ℕ → ℕ → Option LayerDatesError
date_fault offsets overflow times p =
    OverflowIndex (date_position p) when is_none (offset_of offsets overflow p)
    otherwise TooLarge (date_position p) when not (nat_lt (date_of offsets overflow times p) (2 ^ 63))

-- the first condition that refuses the chunks of a layer whose commits have these times
unfoldable pub dates_refusal : List ℕ → List ℕ → List ℕ → Option LayerDatesError
dates_refusal offsets overflow times =
    DataSize when not (length offsets == 4 * length times)
    otherwise OverflowSize when not (length overflow % 8 == 0)
    otherwise first_below (date_fault offsets overflow times) (length times)

-- the errors that decoding may answer: the first condition that refuses the chunks, and out of memory where none does
abbrev pub MayRefuseLayerDates : List ℕ → List ℕ → List ℕ → LayerDatesError → Type 0
MayRefuseLayerDates offsets overflow times error =
    (dates_refusal offsets overflow times ≡ Some error)
    ⊎ ((error ≡ OutOfMemory) × (dates_refusal offsets overflow times ≡ None))

-- the commit that the error names, if it names one, is one of so many
abbrev pub NamesOneOf : ℕ → LayerDatesError → Type 0
NamesOneOf commits (OverflowIndex pos) = pos.0 < commits
NamesOneOf commits (TooLarge pos) = pos.0 < commits
NamesOneOf commits _ = ⊤
