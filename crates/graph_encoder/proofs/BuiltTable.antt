-- the table of chunks that lie one after another
use Rattle.std.proofs.Common.{◌≡◌, ℕ, zero, suc, ◌+◌, ◌*◌, ◌^◌, ◌<◌, ◌≤◌, List, [], ◌∷◌, ◌++◌, length, take, drop, slice_range}
use Rattle.std.proofs.Common.{refl, ap, ◌∙◌, arith, append_assoc, length-append, true}
use Rattle.std.specs.Int.{w64, from_be_bytes}
use Rattle.std.proofs.lemmas.List.{take_at, drop_at}
use Rattle.std.proofs.lemmas.Nat.{from_be_bytes-to_be_bytes_8}
use Rattle.gix_chunk_core.specs.Entry.{entry_at, end_id}
use Rattle.graph_encoder.specs.Chunks.{NamedChunk, long_bytes, chunk_bytes, table_from, table_len}
use Rattle.graph_encoder.proofs.Parts.{slice_range-middle}
use Rattle.graph_encoder.proofs.Names.{are_named, named_parts, entry_of}

pub length-long_bytes : (n : ℕ) → length (long_bytes n) ≡ 8
unfolding long_bytes
length-long_bytes n = refl

pub long_bytes-read : (n : ℕ) → n < 2 ^ 64 → from_be_bytes w64 (long_bytes n) ≡ n
unfolding long_bytes
long_bytes-read n h = from_be_bytes-to_be_bytes_8 n h

pub length-table_from : (offset : ℕ) (chunks : List NamedChunk) → are_named chunks ≡ true
    → length (table_from offset chunks) ≡ table_len (length chunks)
length-table_from offset [] h = length-append end_id (long_bytes offset) ∙ ap (λ n. 4 + n) (length-long_bytes offset)
length-table_from offset (chunk ∷ chunks) h =
    let named = named_parts chunk chunks h in
    let rest : length (table_from (offset + length chunk.bytes) chunks) ≡ table_len (length chunks) =
    length-table_from (offset + length chunk.bytes) chunks named.others in
    let name : length chunk.id ≡ 4 = named.sized in
    simp length-append (omega (arith, length-long_bytes offset))

-- the first entry
entry_at-first : (front id rest : List ℕ) (at offset : ℕ) → at ≡ length front → length id ≡ 4 → offset < 2 ^ 64
    → entry_at (front ++ ((id ++ long_bytes offset) ++ rest)) at 0 ≡ record { id = id; offset = offset }
unfolding entry_at
entry_at-first front id rest at offset h e k =
    let twelve : length (id ++ long_bytes offset) ≡ 12 = simp length-append (omega (arith, length-long_bytes offset)) in
    let entry : slice_range (front ++ ((id ++ long_bytes offset) ++ rest)) (at + 12 * 0) (at + 12 * 0 + 12)
    ≡ id ++ long_bytes offset = slice_range-middle front (id ++ long_bytes offset) rest _ _ (omega arith) (omega arith) in
    ap (λ (bytes : List ℕ). record { id = take 4 bytes; offset = from_be_bytes w64 (drop 4 bytes) }) entry
    ∙ ap (λ (name : List ℕ). record { id = name; offset = from_be_bytes w64 (drop 4 (id ++ long_bytes offset)) })
    (take_at id (long_bytes offset) 4 e)
    ∙ ap (λ (bytes : List ℕ). record { id = id; offset = from_be_bytes w64 bytes }) (drop_at id (long_bytes offset) 4 e)
    ∙ ap (λ (n : ℕ). record { id = id; offset = n }) (long_bytes-read offset k)

-- an entry after the first is an entry of the table without the first
entry_at-next : (bytes : List ℕ) (at i : ℕ) → entry_at bytes at (suc i) ≡ entry_at bytes (at + 12) i
unfolding entry_at
entry_at-next bytes at i =
    ap (λ (n : ℕ).
    record { id = take 4 (slice_range bytes n (n + 12)); offset = from_be_bytes w64 (drop 4 (slice_range bytes n (n + 12))) })
    (let same : at + 12 * suc i ≡ at + 12 + 12 * i = omega arith in same)

pub entry_at-built : (front rest : List ℕ) (at offset : ℕ) (chunks : List NamedChunk) (i : ℕ) → at ≡ length front
    → are_named chunks ≡ true → i ≤ length chunks → offset + length (chunk_bytes chunks) < 2 ^ 64
    → entry_at (front ++ (table_from offset chunks ++ rest)) at i ≡ entry_of offset chunks i
unfolding chunk_bytes
entry_at-built front rest at offset [] zero h n e k = entry_at-first front end_id rest at offset h refl (omega (arith, k))
entry_at-built front rest at offset [] (suc i) h n e k = absurd (omega (arith, e))
entry_at-built front rest at offset (chunk ∷ chunks) zero h n e k =
    ap (λ (bytes : List ℕ). entry_at (front ++ bytes) at 0)
    (simp append_assoc)
    ∙ entry_at-first front chunk.id (table_from (offset + length chunk.bytes) chunks ++ rest) at offset h
    (named_parts chunk chunks n).sized (omega (arith, k))
entry_at-built front rest at offset (chunk ∷ chunks) (suc i) h n e k =
    let named = named_parts chunk chunks n in
    let entry : List ℕ = chunk.id ++ long_bytes offset in
    let twelve : length (chunk.id ++ long_bytes offset) ≡ 12 =
    simp length-append (omega (arith, named.sized, length-long_bytes offset)) in
    entry_at-next _ at i
    ∙ ap (λ (bytes : List ℕ). entry_at bytes (at + 12) i) (simp append_assoc)
    ∙ entry_at-built (front ++ (chunk.id ++ long_bytes offset)) rest (at + 12) (offset + length chunk.bytes) chunks i
    (simp length-append (omega (arith, h, named.sized, length-long_bytes offset))) named.others (omega (arith, e))
    (omega (arith, k, length-append chunk.bytes (chunk_bytes chunks)))
