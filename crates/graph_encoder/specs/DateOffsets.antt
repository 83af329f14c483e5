-- Corrected dates as a file holds them: how far each is past its commit's time. (gitformat-commit-graph, "Generation Data" and
-- "Generation Data Overflow".)
use Rattle.std.specs.Prelude.{ℕ, ◌+◌, ◌^◌, Bool, List, length, map, take, filter, slice_index, nat_le, if◌then◌else◌}
use Rattle.std.specs.Prelude.{Option, option_map}
use Rattle.std.specs.List.{range_with_len}
use Rattle.graph_encoder.specs.ExtraEdges.{top_bit}
use Rattle.graph_encoder.specs.declared.plan.FilePlan.{FilePlan}

-- the offsets of a plan's dates, if it has dates
abbrev pub offsets_of : FilePlan → Option (List ℕ)
offsets_of plan = option_map (λ offsets. offsets.items) plan.date_offsets

-- an offset has no room beside a word's top bit
abbrev pub is_large : ℕ → Bool
is_large offset = nat_le (2 ^ 31) offset

-- the large offsets, in the order of commits: the numbers of "Generation Data Overflow"
abbrev pub large_offsets : List ℕ → List ℕ
large_offsets offsets = filter is_large offsets

-- the word of commit i in "Generation Data": its offset; or, for a large one, the top bit and its index among the large ones
abbrev pub offset_word : List ℕ → ℕ → ℕ
offset_word offsets i =
    if is_large (slice_index offsets i) then top_bit + length (large_offsets (take i offsets)) else slice_index offsets i

-- the words of all commits
abbrev pub offset_words : List ℕ → List ℕ
offset_words offsets = map (offset_word offsets) (range_with_len 0 (length offsets))
