-- the chunks that are there, of those that a file may have
use Rattle.std.proofs.Common.{◌≡◌, ℕ, suc, ◌+◌, ◌<◌, ◌≤◌, List, [], ◌∷◌, ◌++◌, length, map, Option, Some, None, option_map}
use Rattle.std.proofs.Common.{Bool, true, false, not, cond, bytes_eq, refl, sym, ap, ◌∙◌, arith, add-zero, append_assoc}
use Rattle.std.proofs.Common.{length-append}
use Rattle.std.specs.Prelude.{◌==◌, unwrap_or, is_some}
use Rattle.std.specs.List.{flat_map, cons_option}
use Rattle.std.proofs.lemmas.Bool.{and_parts, lt-ltb}
use Rattle.std.proofs.lemmas.List.Sums.{sum_by-cons}
use Rattle.std.proofs.lemmas.Slice.Eq.{bytes_eq-Decides}
use Rattle.gix_chunk_core.specs.Entry.{end_id}
use Rattle.graph_encoder.specs.Chunks.{NamedChunk, PossibleChunk, unless_empty, those_there, long_bytes, chunk_bytes, table_from}
use Rattle.graph_encoder.specs.Sizes.{size_if_there, bytes_in, unless_zero, number_there, total_size, entry_bytes, table_by_sizes}
use Rattle.graph_encoder.specs.declared.sizes.ChunkSize.{ChunkSize}
use Rattle.graph_encoder.proofs.Names.{are_named, is_new, differs}
use Rattle.graph_encoder.proofs.BuiltChunks.{bytes_named}
use Rattle.graph_encoder.proofs.BuiltFan.{count_by-cons}

-- a chunk of this name and these bytes
abbrev pub named : List ℕ → List ℕ → NamedChunk
named id bytes = record { id = id; bytes = bytes }

-- one chunk more, if it is there
abbrev pub with_one : List ℕ → Option (List ℕ) → List NamedChunk → List NamedChunk
with_one id bytes others = cons_option (option_map (named id) bytes) others

-- the names of chunks, as chunks without bytes
abbrev pub names : List PossibleChunk → List NamedChunk
names chunks = map (λ c. named c.id []) chunks

-- The names of those that are there are among the names.
new_one : (name id : List ℕ) (bytes : Option (List ℕ)) (others : List NamedChunk) → not (bytes_eq name id) ≡ true
    → is_new name others ≡ true → is_new name (with_one id bytes others) ≡ true
new_one name id None others h e = e
new_one name id (Some bytes) others h e = rw (h, e) refl

new_there : (name : List ℕ) (chunks : List PossibleChunk) → is_new name (names chunks) ≡ true
    → is_new name (those_there chunks) ≡ true
new_there name [] h = refl
new_there name (chunk ∷ chunks) h =
    let parts = and_parts (not (bytes_eq name chunk.id)) _ h in
    new_one name chunk.id chunk.bytes (those_there chunks) parts.0 (new_there name chunks parts.1)

named_one : (id : List ℕ) (bytes : Option (List ℕ)) (others : List NamedChunk) → (length id == 4) ≡ true
    → not (bytes_eq id end_id) ≡ true → is_new id others ≡ true → are_named others ≡ true
    → are_named (with_one id bytes others) ≡ true
named_one id None others a b c e = e
named_one id (Some bytes) others a b c e = rw (a, b, c, e) refl

-- chunks with proper names, each of its own, are named where they are there
pub named_there : (chunks : List PossibleChunk) → are_named (names chunks) ≡ true → are_named (those_there chunks) ≡ true
named_there [] h = refl
named_there (chunk ∷ chunks) h =
    let one = and_parts (length chunk.id == 4) _ h in
    let two = and_parts (not (bytes_eq chunk.id end_id)) _ one.1 in
    let three = and_parts (is_new chunk.id (names chunks)) _ two.1 in
    named_one chunk.id chunk.bytes (those_there chunks) one.0 two.0 (new_there chunk.id chunks three.0)
    (named_there chunks three.1)

-- the bytes of the chunk of this name
abbrev pub bytes_there : List PossibleChunk → List ℕ → Option (List ℕ)
bytes_there [] id = None
bytes_there (chunk ∷ chunks) id = cond (bytes_eq chunk.id id) chunk.bytes (bytes_there chunks id)

not_so : (b : Bool) → (b ≡ true → ⊥) → b ≡ false
not_so true h = absurd (h refl)
not_so false h = refl

-- no chunk has a new name
not_named : (name id : List ℕ) (chunks : List NamedChunk) → is_new name chunks ≡ true → name ≡ id → bytes_named chunks id ≡ None
not_named name id [] h e = refl
not_named name id (chunk ∷ chunks) h e =
    let parts = and_parts (not (bytes_eq name chunk.id)) _ h in
    let other : bytes_eq chunk.id id ≡ false =
    not_so (bytes_eq chunk.id id) (λ same. differs name chunk.id parts.0 (e ∙ sym ((bytes_eq-Decides chunk.id id).0 same))) in
    ap (λ (b : Bool). cond b (Some chunk.bytes) (bytes_named chunks id)) other ∙ not_named name id chunks parts.1 e

none_here : (b : Bool) (found rest : Option (List ℕ)) → (b ≡ true → found ≡ None) → found ≡ rest → found ≡ cond b None rest
none_here true found rest h e = h refl
none_here false found rest h e = e

found_one : (name id : List ℕ) (bytes : Option (List ℕ)) (others : List NamedChunk) (rest : Option (List ℕ))
    → is_new name others ≡ true → bytes_named others id ≡ rest
    → bytes_named (with_one name bytes others) id ≡ cond (bytes_eq name id) bytes rest
found_one name id None others rest h e =
    none_here (bytes_eq name id) (bytes_named others id) rest
    (λ same. not_named name id others h ((bytes_eq-Decides name id).0 same)) e
found_one name id (Some bytes) others rest h e = ap (λ (o : Option (List ℕ)). cond (bytes_eq name id) (Some bytes) o) e

-- a name finds the chunk of that name, if it is there
pub found_there : (chunks : List PossibleChunk) (id : List ℕ) → are_named (names chunks) ≡ true
    → bytes_named (those_there chunks) id ≡ bytes_there chunks id
found_there [] id h = refl
found_there (chunk ∷ chunks) id h =
    let one = and_parts (length chunk.id == 4) _ h in
    let two = and_parts (not (bytes_eq chunk.id end_id)) _ one.1 in
    let three = and_parts (is_new chunk.id (names chunks)) _ two.1 in
    found_one chunk.id id chunk.bytes (those_there chunks) (bytes_there chunks id) (new_there chunk.id chunks three.0)
    (found_there chunks id three.1)

-- the bytes of those that are there, one after another
bytes_one : (id : List ℕ) (bytes : Option (List ℕ)) (others : List NamedChunk) (rest : List ℕ) → chunk_bytes others ≡ rest
    → chunk_bytes (with_one id bytes others) ≡ unwrap_or bytes [] ++ rest
unfolding chunk_bytes
bytes_one id None others rest h = h
bytes_one id (Some bytes) others rest h = ap (λ (xs : List ℕ). bytes ++ xs) h

pub bytes_of_those : (chunks : List PossibleChunk)
    → chunk_bytes (those_there chunks) ≡ flat_map (λ c. unwrap_or c.bytes []) chunks
unfolding chunk_bytes
bytes_of_those [] = refl
bytes_of_those (chunk ∷ chunks) = bytes_one chunk.id chunk.bytes (those_there chunks) _ (bytes_of_those chunks)

size_one : (id : List ℕ) (bytes : Option (List ℕ)) (others : List NamedChunk) (rest : ℕ) → length (chunk_bytes others) ≡ rest
    → length (chunk_bytes (with_one id bytes others)) ≡ unwrap_or (option_map length bytes) 0 + rest
unfolding chunk_bytes
size_one id None others rest h = omega (arith, h)
size_one id (Some bytes) others rest h = omega (arith, h, length-append bytes (chunk_bytes others))

-- how many bytes they have
pub size_of_those : (chunks : List PossibleChunk)
    → length (chunk_bytes (those_there chunks)) ≡ total_size (map size_if_there chunks)
unfolding chunk_bytes
size_of_those [] = refl
size_of_those (chunk ∷ chunks) =
    size_one chunk.id chunk.bytes (those_there chunks) _ (size_of_those chunks)
    ∙ sym (sum_by-cons bytes_in (size_if_there chunk) (map size_if_there chunks))

-- the first of them has some of the bytes
abbrev pub first_size : List PossibleChunk → ℕ
first_size [] = 0
first_size (chunk ∷ chunks) = bytes_in (size_if_there chunk)

pub first-least : (chunks : List PossibleChunk) → first_size chunks ≤ length (chunk_bytes (those_there chunks))
first-least [] = omega arith
first-least (chunk ∷ chunks) =
    omega (arith, size_of_those (chunk ∷ chunks), sum_by-cons bytes_in (size_if_there chunk) (map size_if_there chunks))

count_one : (id : List ℕ) (bytes : Option (List ℕ)) (others : List NamedChunk) (n : ℕ) → n ≡ length others
    → cond (is_some (option_map length bytes)) 1 0 + n ≡ length (with_one id bytes others)
count_one id None others n h = omega (arith, h)
count_one id (Some bytes) others n h = omega (arith, h)

-- how many they are
pub count_of_those : (chunks : List PossibleChunk) → number_there (map size_if_there chunks) ≡ length (those_there chunks)
count_of_those [] = refl
count_of_those (chunk ∷ chunks) =
    count_by-cons (λ (c : ChunkSize). is_some c.size) (size_if_there chunk) (map size_if_there chunks)
    ∙ count_one chunk.id chunk.bytes (those_there chunks) _ (count_of_those chunks)

few_one : (id : List ℕ) (bytes : Option (List ℕ)) (others : List NamedChunk) (n : ℕ) → length others ≤ n
    → length (with_one id bytes others) ≤ suc n
few_one id None others n h = omega (arith, h)
few_one id (Some bytes) others n h = omega (arith, h)

pub few_there : (chunks : List PossibleChunk) → length (those_there chunks) ≤ length chunks
few_there [] = omega arith
few_there (chunk ∷ chunks) = few_one chunk.id chunk.bytes (those_there chunks) (length chunks) (few_there chunks)

table_one : (offset : ℕ) (id : List ℕ) (bytes : Option (List ℕ)) (others : List NamedChunk) (sizes : List ChunkSize)
    → table_by_sizes (offset + unwrap_or (option_map length bytes) 0) sizes
    ≡ table_from (offset + unwrap_or (option_map length bytes) 0) others
    → entry_bytes id (option_map length bytes) offset
    ++ table_by_sizes (offset + unwrap_or (option_map length bytes) 0) sizes ≡ table_from offset (with_one id bytes others)
table_one offset id None others sizes h = h ∙ ap (λ (n : ℕ). table_from n others) (add-zero offset)
table_one offset id (Some bytes) others sizes h =
    append_assoc id (long_bytes offset) (table_by_sizes (offset + length bytes) sizes)
    ∙ ap (λ (rest : List ℕ). id ++ (long_bytes offset ++ rest)) h

-- their table
pub table_of_those : (offset : ℕ) (chunks : List PossibleChunk)
    → table_by_sizes offset (map size_if_there chunks) ≡ table_from offset (those_there chunks)
table_of_those offset [] = refl
table_of_those offset (chunk ∷ chunks) =
    table_one offset chunk.id chunk.bytes (those_there chunks) (map size_if_there chunks)
    (table_of_those (offset + bytes_in (size_if_there chunk)) chunks)

-- a chunk that is left out where it would have no bytes
pub unless_empty-bytes : (bytes : List ℕ) → unwrap_or (unless_empty bytes) [] ≡ bytes
unless_empty-bytes [] = refl
unless_empty-bytes (byte ∷ bytes) = refl

pub unless_empty-size : (bytes : List ℕ) → option_map length (unless_empty bytes) ≡ unless_zero (length bytes)
unless_empty-size [] = refl
unless_empty-size (byte ∷ bytes) =
    ap (λ (b : Bool). cond b (Some (length (byte ∷ bytes))) None) (sym (lt-ltb 0 (length (byte ∷ bytes)) (omega arith)))

pub unless_empty-len : (bytes : List ℕ) → unwrap_or (option_map length (unless_empty bytes)) 0 ≡ length bytes
unless_empty-len [] = refl
unless_empty-len (byte ∷ bytes) = refl

pub unless_empty-some : (bytes : List ℕ) → 0 < length bytes → unless_empty bytes ≡ Some bytes
unless_empty-some [] h = absurd (omega (arith, h))
unless_empty-some (byte ∷ bytes) h = refl
