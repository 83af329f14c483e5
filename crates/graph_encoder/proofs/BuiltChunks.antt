-- the chunks of bytes that are a front, a table and chunks one after another
use Rattle.std.proofs.Common.{◌≡◌, ◌≢◌, ℕ, suc, ◌+◌, ◌^◌, ◌<◌, ◌≤◌, List, [], ◌∷◌, ◌++◌, length, map, slice_range, Option, Some}
use Rattle.std.proofs.Common.{None, option_map, refl, sym, ap, ◌∙◌, arith, add-zero, add-one, append_assoc, length-append, Bool}
use Rattle.std.proofs.Common.{true, false, cond, bytes_eq, subst}
use Rattle.std.specs.Prelude.{find}
use Rattle.std.specs.List.{range_with_len}
use Rattle.std.proofs.lemmas.List.FromFn.{length-map-range_with_len}
use Rattle.gix_chunk_core.specs.Entry.{Entry, entry_at, end_id}
use Rattle.gix_chunk_core.specs.Table.{Chunk, Chunks, chunk_at, table_at, range_of}
use Rattle.graph_encoder.specs.Chunks.{NamedChunk, chunk_bytes, table_from, table_len, with_chunks}
use Rattle.graph_encoder.proofs.Parts.{slice_range-middle, get-map-range}
use Rattle.graph_encoder.proofs.Names.{are_named, entry_of, entry_of-end, entry_of-named, entry_of-distinct, entry_of-in_file}
use Rattle.graph_encoder.proofs.Names.{entry_of-rising}
use Rattle.graph_encoder.proofs.BuiltTable.{entry_at-built, length-table_from}

-- where chunks lie, one after another from an offset on
abbrev pub places : ℕ → List NamedChunk → List Chunk
places offset [] = []
places offset (chunk ∷ chunks) =
    record { id = chunk.id; start = offset; end = offset + length chunk.bytes } ∷ places (offset + length chunk.bytes) chunks

-- the bytes of the first chunk of this name
abbrev pub bytes_named : List NamedChunk → List ℕ → Option (List ℕ)
bytes_named [] id = None
bytes_named (chunk ∷ chunks) id = cond (bytes_eq chunk.id id) (Some chunk.bytes) (bytes_named chunks id)

-- The table at this place says this of these chunks.
abbrev pub Tabled : List ℕ → ℕ → ℕ → List NamedChunk → ℕ → Type 0
Tabled bytes at offset chunks first = (i : ℕ) → i ≤ length chunks → entry_at bytes at (first + i) ≡ entry_of offset chunks i

entry_of-offset : (offset : ℕ) (chunks : List NamedChunk) → (entry_of offset chunks 0).offset ≡ offset
entry_of-offset offset [] = refl
entry_of-offset offset (chunk ∷ chunks) = refl

chunks-tabled : (bytes : List ℕ) (at offset : ℕ) (chunks : List NamedChunk) (first : ℕ) → Tabled bytes at offset chunks first
    → map (chunk_at bytes at) (range_with_len first (length chunks)) ≡ places offset chunks
chunks-tabled bytes at offset [] first h = refl
chunks-tabled bytes at offset (chunk ∷ chunks) first h =
    let here : entry_at bytes at first ≡ record { id = chunk.id; offset = offset } = ap (entry_at bytes at) (sym (add-zero first))
    ∙ h 0 (omega arith) in
    let next : (entry_at bytes at (first + 1)).offset ≡ offset + length chunk.bytes =
    ap (λ (e : Entry). e.offset) (h 1 (omega arith)) ∙ entry_of-offset _ chunks in
    let head : chunk_at bytes at first ≡ record { id = chunk.id; start = offset; end = offset + length chunk.bytes } =
    ap (λ (e : Entry). record { id = e.id; start = e.offset; end = (entry_at bytes at (first + 1)).offset }) here
    ∙ ap (λ (n : ℕ). record { id = chunk.id; start = offset; end = n }) next in
    let rest : map (chunk_at bytes at) (range_with_len (first + 1) (length chunks))
    ≡ places (offset + length chunk.bytes) chunks =
    chunks-tabled bytes at (offset + length chunk.bytes) chunks (first + 1)
    (λ i k. ap (entry_at bytes at) (let same : first + 1 + i ≡ first + suc i = omega arith in same)
    ∙ h (suc i) (omega (arith, k))) in
    ap (λ (c : Chunk). c ∷ map (chunk_at bytes at) (range_with_len (first + 1) (length chunks))) head
    ∙ ap (λ (cs : List Chunk). record { id = chunk.id; start = offset; end = offset + length chunk.bytes } ∷ cs) rest

-- the bytes at a place that a name finds
abbrev pub found_at : List ℕ → List Chunk → List ℕ → Option (List ℕ)
found_at bytes chunks id =
    option_map (λ (place : ℕ × ℕ). slice_range bytes place.0 place.1)
    (option_map (λ (c : Chunk). (c.start, c.end)) (find (λ (c : Chunk). bytes_eq c.id id) chunks))

found_here : (front back id : List ℕ) (offset : ℕ) (chunk : NamedChunk) (chunks : List NamedChunk) (b : Bool)
    → offset ≡ length front
    → found_at (front ++ (chunk.bytes ++ (chunk_bytes chunks ++ back))) (places (offset + length chunk.bytes) chunks) id
    ≡ bytes_named chunks id
    → option_map (λ (place : ℕ × ℕ). slice_range (front ++ (chunk.bytes ++ (chunk_bytes chunks ++ back))) place.0 place.1)
    (option_map (λ (c : Chunk). (c.start, c.end))
    (cond b (Some (record { id = chunk.id; start = offset; end = offset + length chunk.bytes }))
    (find (λ (c : Chunk). bytes_eq c.id id) (places (offset + length chunk.bytes) chunks))))
    ≡ cond b (Some chunk.bytes) (bytes_named chunks id)
found_here front back id offset chunk chunks true h e =
    ap (λ (bytes : List ℕ). Some bytes)
    (slice_range-middle front chunk.bytes (chunk_bytes chunks ++ back) _ _ h (omega (arith, h)))
found_here front back id offset chunk chunks false h e = e

found : (front back id : List ℕ) (offset : ℕ) (chunks : List NamedChunk) → offset ≡ length front
    → found_at (front ++ (chunk_bytes chunks ++ back)) (places offset chunks) id ≡ bytes_named chunks id
unfolding chunk_bytes
found front back id offset [] h = refl
found front back id offset (chunk ∷ chunks) h =
    ap (λ (bytes : List ℕ). found_at (front ++ bytes) (places offset (chunk ∷ chunks)) id)
    (append_assoc chunk.bytes (chunk_bytes chunks) back)
    ∙ found_here front back id offset chunk chunks (bytes_eq chunk.id id) h
    (ap (λ (bytes : List ℕ). found_at bytes (places (offset + length chunk.bytes) chunks) id)
    (sym (append_assoc front chunk.bytes (chunk_bytes chunks ++ back)))
    ∙ found (front ++ chunk.bytes) back id (offset + length chunk.bytes) chunks (simp length-append (omega (arith, h))))

-- What these bytes are: a front, the table, and the chunks, of which there are not too many for an offset.
pub record AreLaidOut (front back : List ℕ) (chunks : List NamedChunk) : Type 0 where
  pub named : are_named chunks ≡ true
  pub some : 0 < length chunks
  pub short : length front + table_len (length chunks) + length (chunk_bytes chunks) < 2 ^ 64

-- the place of the first chunk
abbrev pub first_offset : List ℕ → List NamedChunk → ℕ
first_offset front chunks = length front + table_len (length chunks)

tabled : (front back : List ℕ) (chunks : List NamedChunk) → AreLaidOut front back chunks
    → Tabled (with_chunks front chunks ++ back) (length front) (first_offset front chunks) chunks 0
unfolding with_chunks
tabled front back chunks h i k =
    ap (λ (bytes : List ℕ). entry_at bytes (length front) (0 + i)) (simp append_assoc)
    ∙ ap (entry_at (front ++ (table_from (first_offset front chunks) chunks ++ (chunk_bytes chunks ++ back))) (length front))
    (let same : 0 + i ≡ i = omega arith in same)
    ∙ entry_at-built front (chunk_bytes chunks ++ back) (length front) (first_offset front chunks) chunks i refl h.named k h.short

entry_at-laid : (front back : List ℕ) (chunks : List NamedChunk) → AreLaidOut front back chunks → (i : ℕ) → i ≤ length chunks
    → entry_at (with_chunks front chunks ++ back) (length front) i ≡ entry_of (first_offset front chunks) chunks i
entry_at-laid front back chunks h i k =
    ap (entry_at (with_chunks front chunks ++ back) (length front)) (let same : i ≡ 0 + i = omega arith in same)
    ∙ tabled front back chunks h i k

pub length-with_chunks : (front : List ℕ) (chunks : List NamedChunk) → are_named chunks ≡ true
    → length (with_chunks front chunks) ≡ first_offset front chunks + length (chunk_bytes chunks)
unfolding with_chunks
length-with_chunks front chunks h = simp length-append (omega (arith, length-table_from (first_offset front chunks) chunks h))

-- the table ends where the chunks end
pub table_at-end : (front back : List ℕ) (chunks : List NamedChunk) → AreLaidOut front back chunks
    → (table_at (with_chunks front chunks ++ back) (length front) (length chunks)).end ≡ length (with_chunks front chunks)
unfolding table_at
table_at-end front back chunks h =
    ap (λ (e : Entry). e.offset) (entry_at-laid front back chunks h (length chunks) (omega arith) ∙ entry_of-end _ chunks)
    ∙ sym (length-with_chunks front chunks h.named)

-- the chunk of a name has the bytes that were laid out
pub range_of-laid : (front back id : List ℕ) (chunks : List NamedChunk) → AreLaidOut front back chunks
    → option_map (λ (place : ℕ × ℕ). slice_range (with_chunks front chunks ++ back) place.0 place.1)
    (range_of (table_at (with_chunks front chunks ++ back) (length front) (length chunks)) id) ≡ bytes_named chunks id
unfolding range_of table_at with_chunks
range_of-laid front back id chunks h =
    let table : List ℕ = table_from (first_offset front chunks) chunks in
    ap (λ (cs : List Chunk). found_at (with_chunks front chunks ++ back) cs id)
    (chunks-tabled (with_chunks front chunks ++ back) (length front) (first_offset front chunks) chunks 0
    (tabled front back chunks h))
    ∙ ap (λ (bytes : List ℕ). found_at bytes (places (first_offset front chunks) chunks) id) (simp append_assoc)
    ∙ found (front ++ table_from (first_offset front chunks) chunks) back id (first_offset front chunks) chunks
    (simp length-append (omega (arith, length-table_from (first_offset front chunks) chunks h.named)))

-- the table is right
pub chunks-laid : (front back : List ℕ) (chunks : List NamedChunk) → AreLaidOut front back chunks
    → Chunks (with_chunks front chunks ++ back) (length front) (length chunks)
    (table_at (with_chunks front chunks ++ back) (length front) (length chunks))
unfolding table_at
chunks-laid front back chunks h =
    let bytes : List ℕ = with_chunks front chunks ++ back in
    let at : ℕ = length front in
    let count : ℕ = length chunks in
    let offset : ℕ = first_offset front chunks in
    let entries : (i : ℕ) → i ≤ count → entry_at bytes at i ≡ entry_of offset chunks i = entry_at-laid front back chunks h in
    let size : length bytes ≡ offset + length (chunk_bytes chunks) + length back = length-append _ back
    ∙ ap (λ (n : ℕ). n + length back) (length-with_chunks front chunks h.named) in
    record {
      some = h.some;
      room = omega (arith, size);
      counted = length-map-range_with_len (chunk_at bytes at) 0 count;
      each = λ i k. get-map-range (chunk_at bytes at) 0 count i k
          ∙ ap (λ (n : ℕ). Some (chunk_at bytes at n)) (let same : 0 + i ≡ i = omega arith in same);
      end = refl;
      named = λ i k. let P : Entry → Type 0 = λ e. e.id ≢ end_id in
          subst P (sym (entries i (omega (arith, k)))) (entry_of-named offset chunks i h.named k);
      distinct = λ i j e k.
          let other : (entry_of offset chunks i).id ≢ (entry_at bytes at j).id = let P : Entry → Type 0 = λ x.
          (entry_of offset chunks i).id ≢ x.id in
          subst P (sym (entries j (omega (arith, k)))) (entry_of-distinct offset chunks i j h.named e k) in
          let P : Entry → Type 0 = λ x. x.id ≢ (entry_at bytes at j).id in subst P (sym (entries i (omega (arith, e, k)))) other;
      ended = ap (λ (e : Entry). e.id) (entries count (omega arith) ∙ entry_of-end offset chunks);
      in_file = λ i k. omega (arith, ap (λ (e : Entry). e.offset) (entries i k), entry_of-in_file offset chunks i k, size);
      rising = λ i k.
          omega (
            arith,
            ap (λ (e : Entry). e.offset) (entries i (omega (arith, k))),
            ap (λ (e : Entry). e.offset) (entries (i + 1) (omega (arith, k))),
            ap (λ (n : ℕ). (entry_of offset chunks n).offset) (add-one i),
            entry_of-rising offset chunks i k,
          );
    }
