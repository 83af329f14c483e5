-- What the words of an extra edge list say, with no recursion: the section "Extra Edge List" of Git's commit-graph format.
use Rattle.std.specs.Prelude.{ℕ, ◌-◌, ◌<◌, ◌≤◌, List, [], ◌∷◌, ◌++◌, map, length, drop, slice_index, slice_range, Some, None}
use Rattle.graph_format.specs.Parents.{DecodedParents, position_of}
use Rattle.graph_format.specs.declared.parents.ParentError.TheVariants.{EdgeOverflow}

-- The parents that begin at word k end at word j: it is the first from k on that has its top bit set.
pub record EndsAt (words : List ℕ) (k j : ℕ) : Type 0 where
  pub from : k ≤ j
  pub within : j < length words
  pub last : 0x80000000 ≤ slice_index words j
  pub first : (i : ℕ) → k ≤ i → i < j → slice_index words i < 0x80000000

-- no word from k on has its top bit set
abbrev pub RunsOut : List ℕ → ℕ → Type 0
RunsOut words k = (i : ℕ) → k ≤ i → i < length words → slice_index words i < 0x80000000

-- the words from k up to but not including j, and then word j without its top bit; no fault
abbrev pub up_to_last : List ℕ → ℕ → ℕ → DecodedParents
up_to_last words k j =
    let last = slice_index words j - 0x80000000 in
    record { positions = map position_of (slice_range words k j) ++ position_of last ∷ []; fault = None }

-- all words from k on, and the fault
abbrev pub all_from : List ℕ → ℕ → DecodedParents
all_from words k = record { positions = map position_of (drop k words); fault = Some EdgeOverflow }
