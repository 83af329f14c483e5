-- the chunks of a plan
use Rattle.std.proofs.Common.{◌≡◌, ℕ, ◌+◌, ◌-◌, ◌*◌, ◌/◌, ◌^◌, ◌<◌, ◌≤◌, List, [], ◌∷◌, ◌++◌, length, drop, Option, Some, None}
use Rattle.std.proofs.Common.{IfSome, MatchOption, All, refl, sym, ap, ◌∙◌, arith, append_assoc, length-append}
use Rattle.std.proofs.lemmas.List.{map-id}
use Rattle.gix_hash_core.specs.declared.kind.Kind.{Kind}
use Rattle.gix_hash_core.specs.declared.kind.Kind.TheVariants.{Sha1, Sha256}
use Rattle.gix_hash_core.specs.Kind.{id_len}
use Rattle.graph_format.specs.Format.{pieces, words}
use Rattle.graph_format.specs.Parents.{listed}
use Rattle.std.specs.Prelude.{unwrap_or, option_map}
use Rattle.graph_encoder.specs.Chunks.{unless_empty}
use Rattle.graph_encoder.specs.DateOffsets.{large_offsets, offset_words}
use Rattle.graph_encoder.specs.Plan.{AreOffsets, AreFilters}
use Rattle.graph_encoder.specs.Written.{words_bytes, longs_bytes, ids_bytes, filter_index, filter_data, numbers_before}
use Rattle.graph_encoder.specs.declared.filters.PlanFilters.{PlanFilters}
use Rattle.graph_encoder.proofs.OffsetLemmas.{length-longs_bytes, length-offset_words, large_offsets-few}
use Rattle.graph_encoder.proofs.PossibleChunks.{unless_empty-some}
use Rattle.graph_encoder.proofs.BuiltParents.{Hold}
use Rattle.graph_encoder.proofs.Pieces.{pieces-flat_map, length-flat_map-sized, length-words_bytes, words-words_bytes}

-- the bytes of the extra words, if there are any
abbrev pub edges_bytes : List ℕ → Option (List ℕ)
edges_bytes [] = None
edges_bytes (word ∷ words) = Some (words_bytes (word ∷ words))

abbrev pub bases_bytes : List (List ℕ) → Option (List ℕ)
bases_bytes [] = None
bases_bytes (base ∷ bases) = Some (ids_bytes (base ∷ bases))

-- ids of one length that are put one after another
pub length-ids_bytes : (kind : Kind) (ids : List (List ℕ)) → All (λ id. length id ≡ id_len kind) ids
    → length (ids_bytes ids) ≡ id_len kind * length ids
unfolding ids_bytes
length-ids_bytes kind ids h = length-flat_map-sized (id_len kind) (λ id. id) ids h

pub id-whole : (kind : Kind) → 0 < id_len kind
id-whole Sha1 = omega arith
id-whole Sha256 = omega arith

pub ids_bytes-read : (kind : Kind) (ids : List (List ℕ)) → All (λ id. length id ≡ id_len kind) ids
    → pieces (id_len kind) (ids_bytes ids) ≡ ids
unfolding ids_bytes
ids_bytes-read kind ids h = pieces-flat_map (id_len kind) (λ id. id) ids (id-whole kind) h ∙ map-id ids

-- the chunks of words and of ids, which are left out where there are none
pub edges-unless : (words : List ℕ) → unless_empty (words_bytes words) ≡ edges_bytes words
unfolding words_bytes
edges-unless [] = refl
edges-unless (word ∷ words) = unless_empty-some (words_bytes (word ∷ words)) (omega (arith, length-words_bytes (word ∷ words)))

pub bases-unless : (kind : Kind) (bases : List (List ℕ)) → All (λ id. length id ≡ id_len kind) bases
    → unless_empty (ids_bytes bases) ≡ bases_bytes bases
unfolding ids_bytes
bases-unless kind [] h = refl
bases-unless kind (base ∷ bases) h =
    unless_empty-some (ids_bytes (base ∷ bases)) (grind (arith, length-ids_bytes kind (base ∷ bases) h, id-whole kind))

-- the words of offsets, none where the chunk is missing
pub offsets-bytes : (o : Option (List ℕ))
    → unwrap_or (option_map (λ offsets. words_bytes (offset_words offsets)) o) [] ≡ words_bytes (offset_words (unwrap_or o []))
unfolding words_bytes
offsets-bytes None = refl
offsets-bytes (Some offsets) = refl

pub offsets-size : (o : Option (List ℕ))
    → option_map length (option_map (λ offsets. words_bytes (offset_words offsets)) o)
    ≡ option_map (λ offsets. 4 * length offsets) o
offsets-size None = refl
offsets-size (Some offsets) =
    let size : length (words_bytes (offset_words offsets)) ≡ 4 * length offsets =
    length-words_bytes (offset_words offsets) ∙ ap (λ (n : ℕ). 4 * n) (length-offset_words offsets) in
    ap (λ (n : ℕ). Some n) size

-- the chunks of offsets have at most so many bytes
pub offsets-small : (o : Option (List ℕ)) (n : ℕ) → IfSome o (AreOffsets n)
    → (unwrap_or (option_map length (option_map (λ offsets. words_bytes (offset_words offsets)) o)) 0 ≤ 4 * n)
    × (length (longs_bytes (large_offsets (unwrap_or o []))) ≤ 8 * n)
unfolding longs_bytes
offsets-small None n h = (omega arith, omega arith)
offsets-small (Some offsets) n h = (
  omega (arith, length-words_bytes (offset_words offsets), length-offset_words offsets, h.count),
  omega (arith, length-longs_bytes (large_offsets offsets), large_offsets-few offsets, h.count),
)

-- the bytes of both chunks of filters, none where they are missing
abbrev pub filters_bytes : Option PlanFilters → List ℕ
filters_bytes o = unwrap_or (option_map (λ filters. filter_index filters ++ filter_data filters) o) []

pub filters-bytes : (o : Option PlanFilters) (rest : List ℕ)
    → unwrap_or (option_map filter_index o) [] ++ (unwrap_or (option_map filter_data o) [] ++ rest) ≡ filters_bytes o ++ rest
filters-bytes None rest = refl
filters-bytes (Some filters) rest = sym (append_assoc (filter_index filters) (filter_data filters) rest)

-- how many bytes they have
length-filter_data : (filters : PlanFilters) → length (filter_data filters) ≡ 12 + length filters.bytes.items
length-filter_data filters =
    length-append (words_bytes (numbers_before filters.numbers)) filters.bytes.items
    ∙ ap (λ (n : ℕ). n + length filters.bytes.items)
    (length-words_bytes (numbers_before filters.numbers))

pub index-size : (o : Option PlanFilters)
    → option_map length (option_map filter_index o) ≡ option_map (λ filters. 4 * length filters.ends.items) o
index-size None = refl
index-size (Some filters) = ap (λ (n : ℕ). Some n) (length-words_bytes filters.ends.items)

pub data-size : (o : Option PlanFilters)
    → option_map length (option_map filter_data o) ≡ option_map (λ filters. 12 + length filters.bytes.items) o
data-size None = refl
data-size (Some filters) = ap (λ (n : ℕ). Some n) (length-filter_data filters)

-- they have at most so many
pub filters-small : (o : Option PlanFilters) (n : ℕ) → IfSome o (AreFilters n)
    → (unwrap_or (option_map length (option_map filter_index o)) 0 ≤ 4 * n)
    × (unwrap_or (option_map length (option_map filter_data o)) 0 < 12 + 2 ^ 32)
filters-small None n h = (omega arith, omega arith)
filters-small (Some filters) n h = (
  omega (arith, length-words_bytes filters.ends.items, h.count),
  omega (arith, length-filter_data filters, h.room),
)

-- the edges hold the words
pub edges-hold : (words : List ℕ) → All (λ n. n < 2 ^ 32) words → Hold (edges_bytes words) words
edges-hold [] h k e = absurd (omega (arith, e))
edges-hold (word ∷ words) h k e = ap (λ (ns : List ℕ). listed (drop k ns)) (words-words_bytes (word ∷ words) h)

pub edges-words : (ns : List ℕ) → All (λ n. n < 2 ^ 32) ns → MatchOption (edges_bytes ns) (ns ≡ []) (λ chunk. words chunk ≡ ns)
edges-words [] h = refl
edges-words (n ∷ ns) h = words-words_bytes (n ∷ ns) h

pub edges-few : (words : List ℕ) → length words < 2 ^ 32 - 1 → IfSome (edges_bytes words) (λ chunk. length chunk / 4 ≤ 4294967294)
edges-few [] h = tt
edges-few (word ∷ words) h = omega (arith, length-words_bytes (word ∷ words), h)

-- there are not too many offsets
pub offsets-few : (o : Option (List ℕ)) (n : ℕ) → IfSome o (AreOffsets n) → n < 2147483648 → length (unwrap_or o []) < 2147483648
offsets-few None n h e = omega arith
offsets-few (Some offsets) n h e = omega (arith, h.count, e)
