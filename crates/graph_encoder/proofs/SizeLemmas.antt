-- the sizes of chunks, one by one
use Rattle.std.proofs.Common.{◌≡◌, ℕ, ◌+◌, ◌<◌, ◌≤◌, List, [], ◌∷◌, ◌++◌, length, take, drop, get_or, Option, None}
use Rattle.std.proofs.Common.{option_map, Bool, true, false, cond, refl, sym, ap, ◌∙◌, arith, append_assoc}
use mir.Val.{bool_byte}
use Rattle.std.specs.Prelude.{is_some, filter}
use Rattle.std.proofs.lemmas.List.{drop_more, drop_all, length-take-le}
use Rattle.std.proofs.lemmas.List.Filters.{length-filter_more}
use Rattle.std.proofs.lemmas.List.Sums.{length-filter, count_by-le-length, sum_by-drop_more}
use Rattle.graph_encoder.specs.Chunks.{PossibleChunk}
use Rattle.graph_encoder.specs.DateOffsets.{is_large, large_offsets}
use Rattle.graph_encoder.specs.Sizes.{size_if_there, bytes_in, number_there, total_size, entry_bytes, table_by_sizes}
use Rattle.graph_encoder.specs.declared.sizes.ChunkSize.{ChunkSize}

-- what stands past the end of a list
abbrev pub no_chunk : ChunkSize
no_chunk = record { id = []; size = None }

byte_is : (b : Bool) → ◌≡◌ {A = ℕ} (bool_byte b) (cond b 1 0)
byte_is true = refl
byte_is false = refl

-- one more is counted, if it passes a test
counted : {X : Type 0} (p : X → Bool) (xs : List X) (i count added : ℕ) (d : X) (b : Bool) → i < length xs
    → count ≡ length (filter p (take i xs)) → b ≡ p (get_or xs i d) → added ≡ bool_byte b
    → count + added ≡ length (filter p (take (i + 1) xs))
counted p xs i count added d b h e k l =
    let byte : ◌≡◌ {A = ℕ} added (cond (p (get_or xs i d)) 1 0) = l ∙ byte_is b ∙ ap (λ (t : Bool). cond t 1 0) k in
    omega (arith, e, byte, length-filter_more p xs i d h)

pub large-counted : (offsets : List ℕ) (i count added : ℕ) (b : Bool) → i < length offsets
    → count ≡ length (large_offsets (take i offsets)) → b ≡ is_large (get_or offsets i 0) → added ≡ bool_byte b
    → count + added ≡ length (large_offsets (take (i + 1) offsets))
large-counted offsets i count added b h e k l = counted is_large offsets i count added 0 b h e k l

pub chunk-counted : (chunks : List ChunkSize) (i count added : ℕ) (b : Bool) → i < length chunks
    → count ≡ number_there (take i chunks) → b ≡ is_some (get_or chunks i no_chunk).size → added ≡ bool_byte b
    → count + added ≡ number_there (take (i + 1) chunks)
chunk-counted chunks i count added b h e k l =
    counted (λ (c : ChunkSize). is_some c.size) chunks i count added no_chunk b h
    (e ∙ sym (length-filter (λ (c : ChunkSize). is_some c.size) (take i chunks))) k l
    ∙ length-filter (λ (c : ChunkSize). is_some c.size) (take (i + 1) chunks)

pub number-few : (chunks : List ChunkSize) (i : ℕ) → i ≤ length chunks → number_there (take i chunks) ≤ i
number-few chunks i h =
    omega (
      arith,
      count_by-le-length (λ (c : ChunkSize). is_some c.size) (take i chunks),
      length-take-le i chunks h,
    )

-- the bytes of one more chunk
pub total-step : (chunks : List ChunkSize) (i total added all : ℕ) → i < length chunks
    → added ≡ bytes_in (get_or chunks i no_chunk) → total + total_size (drop i chunks) ≡ all
    → total + added + total_size (drop (i + 1) chunks) ≡ all
total-step chunks i total added all h e k = omega (arith, e, k, sum_by-drop_more bytes_in chunks i no_chunk h)

pub total-end : (chunks : List ChunkSize) (i total all : ℕ) → length chunks ≤ i → total + total_size (drop i chunks) ≡ all
    → total ≡ all
total-end chunks i total all h e = omega (arith, e, ap (λ (cs : List ChunkSize). total_size cs) (drop_all i chunks h))

-- one more entry
pub table-step : (chunks : List ChunkSize) (i offset next : ℕ) (before now all : List ℕ) → i < length chunks
    → now ≡ before ++ entry_bytes (get_or chunks i no_chunk).id (get_or chunks i no_chunk).size offset
    → next ≡ offset + bytes_in (get_or chunks i no_chunk)
    → before ++ table_by_sizes offset (drop i chunks) ≡ all → now ++ table_by_sizes next (drop (i + 1) chunks) ≡ all
table-step chunks i offset next before now all h w k a =
    let chunk : ChunkSize = get_or chunks i no_chunk in
    ap (λ (bytes : List ℕ). bytes ++ table_by_sizes next (drop (i + 1) chunks)) w
    ∙ append_assoc before (entry_bytes (get_or chunks i no_chunk).id (get_or chunks i no_chunk).size offset) _
    ∙ ap (λ (n : ℕ). before ++ (entry_bytes (get_or chunks i no_chunk).id (get_or chunks i no_chunk).size offset
    ++ table_by_sizes n (drop (i + 1) chunks))) k
    ∙ ap (λ (cs : List ChunkSize). before ++ table_by_sizes offset cs) (sym (drop_more chunks i no_chunk h))
    ∙ a

-- nine sizes are those of nine chunks
pub same_size : (s : ChunkSize) (c : PossibleChunk) → s.id ≡ c.id → s.size ≡ option_map length c.bytes → s ≡ size_if_there c
same_size s c h e =
    ap (λ (id : List ℕ). record { id = id; size = s.size }) h ∙ ap (λ (size : Option ℕ). record { id = c.id; size = size }) e

pub nine_same : (a b c d e f g i j a' b' c' d' e' f' g' i' j' : ChunkSize) → a ≡ a' → b ≡ b' → c ≡ c' → d ≡ d' → e ≡ e'
    → f ≡ f' → g ≡ g' → i ≡ i' → j ≡ j' → ◌≡◌ {A = List ChunkSize} (a ∷ b ∷ c ∷ d ∷ e ∷ f ∷ g ∷ i ∷ j ∷ [])
    (a' ∷ b' ∷ c' ∷ d' ∷ e' ∷ f' ∷ g' ∷ i' ∷ j' ∷ [])
nine_same a b c d e f g i j a' b' c' d' e' f' g' i' j' h1 h2 h3 h4 h5 h6 h7 h8 h9 =
    rw (h1, h2, h3, h4, h5, h6, h7, h8, h9) refl
