-- the names of chunks, and what a table says of them
use Rattle.std.proofs.Common.{◌≡◌, ◌≢◌, ℕ, zero, suc, ◌+◌, ◌<◌, ◌≤◌, List, [], ◌∷◌, length, ap, ◌∙◌, arith, length-append, Bool}
use Rattle.std.proofs.Common.{true, not, ◌&&◌, bytes_eq}
use Rattle.std.specs.Prelude.{◌==◌}
use Rattle.std.specs.List.{list_all}
use Rattle.std.proofs.lemmas.Bool.{and_parts, not-true, both_ways, eqb-true}
use Rattle.std.proofs.lemmas.Slice.Eq.{bytes_eq-Decides}
use Rattle.gix_chunk_core.specs.Entry.{Entry, end_id}
use Rattle.graph_encoder.specs.Chunks.{NamedChunk, chunk_bytes}

-- no chunk has this name
abbrev pub is_new : List ℕ → List NamedChunk → Bool
is_new name chunks = list_all (λ c. not (bytes_eq name c.id)) chunks

-- each chunk has a name of four bytes that is neither another's nor the end's
abbrev pub are_named : List NamedChunk → Bool
are_named [] = true
are_named (chunk ∷ chunks) =
    (length chunk.id == 4) && (not (bytes_eq chunk.id end_id) && (is_new chunk.id chunks && are_named chunks))

-- What that says of the first chunk and of the others.
pub record AreNamed (chunk : NamedChunk) (chunks : List NamedChunk) : Type 0 where
  pub sized : length chunk.id ≡ 4
  pub proper : chunk.id ≢ end_id
  pub first : is_new chunk.id chunks ≡ true
  pub others : are_named chunks ≡ true

pub differs : (a b : List ℕ) → not (bytes_eq a b) ≡ true → a ≢ b
differs a b h e = both_ways (bytes_eq a b) (not-true _ h) ((bytes_eq-Decides a b).1 e)

pub named_parts : (chunk : NamedChunk) (chunks : List NamedChunk) → are_named (chunk ∷ chunks) ≡ true → AreNamed chunk chunks
named_parts chunk chunks h =
    let one = and_parts (length chunk.id == 4) _ h in
    let two = and_parts (not (bytes_eq chunk.id end_id)) _ one.1 in
    let three = and_parts (is_new chunk.id chunks) _ two.1 in
    record { sized = eqb-true _ _ one.0; proper = differs _ _ two.0; first = three.0; others = three.1 }

-- what the table of chunks that lie one after another from an offset on says: of each chunk, and then of the end
abbrev pub entry_of : ℕ → List NamedChunk → ℕ → Entry
entry_of offset [] i = record { id = end_id; offset = offset }
entry_of offset (chunk ∷ chunks) zero = record { id = chunk.id; offset = offset }
entry_of offset (chunk ∷ chunks) (suc i) = entry_of (offset + length chunk.bytes) chunks i

pub entry_of-end : (offset : ℕ) (chunks : List NamedChunk)
    → entry_of offset chunks (length chunks) ≡ record { id = end_id; offset = offset + length (chunk_bytes chunks) }
unfolding chunk_bytes
entry_of-end offset [] = ap (λ (n : ℕ). record { id = end_id; offset = n }) (omega arith)
entry_of-end offset (chunk ∷ chunks) =
    entry_of-end (offset + length chunk.bytes) chunks
    ∙ ap (λ (n : ℕ). record { id = end_id; offset = n }) (omega (arith, length-append chunk.bytes (chunk_bytes chunks)))

pub entry_of-named : (offset : ℕ) (chunks : List NamedChunk) (i : ℕ) → are_named chunks ≡ true → i < length chunks
    → (entry_of offset chunks i).id ≢ end_id
entry_of-named offset [] i h k = absurd (omega (arith, k))
entry_of-named offset (chunk ∷ chunks) zero h k = (named_parts chunk chunks h).proper
entry_of-named offset (chunk ∷ chunks) (suc i) h k =
    entry_of-named (offset + length chunk.bytes) chunks i (named_parts chunk chunks h).others (omega (arith, k))

entry_of-new : (offset : ℕ) (name : List ℕ) (chunks : List NamedChunk) (i : ℕ) → is_new name chunks ≡ true → i < length chunks
    → name ≢ (entry_of offset chunks i).id
entry_of-new offset name [] i h k = absurd (omega (arith, k))
entry_of-new offset name (chunk ∷ chunks) zero h k = differs _ _ (and_parts (not (bytes_eq name chunk.id)) _ h).0
entry_of-new offset name (chunk ∷ chunks) (suc i) h k =
    entry_of-new (offset + length chunk.bytes) name chunks i (and_parts (not (bytes_eq name chunk.id)) _ h).1 (omega (arith, k))

pub entry_of-distinct : (offset : ℕ) (chunks : List NamedChunk) (i j : ℕ) → are_named chunks ≡ true → i < j → j < length chunks
    → (entry_of offset chunks i).id ≢ (entry_of offset chunks j).id
entry_of-distinct offset [] i j h e k = absurd (omega (arith, k))
entry_of-distinct offset (chunk ∷ chunks) i zero h e k = absurd (omega (arith, e))
entry_of-distinct offset (chunk ∷ chunks) zero (suc j) h e k =
    entry_of-new (offset + length chunk.bytes) chunk.id chunks j (named_parts chunk chunks h).first (omega (arith, k))
entry_of-distinct offset (chunk ∷ chunks) (suc i) (suc j) h e k =
    entry_of-distinct (offset + length chunk.bytes) chunks i j (named_parts chunk chunks h).others (omega (arith, e))
    (omega (arith, k))

pub entry_of-in_file : (offset : ℕ) (chunks : List NamedChunk) (i : ℕ) → i ≤ length chunks
    → (entry_of offset chunks i).offset ≤ offset + length (chunk_bytes chunks)
unfolding chunk_bytes
entry_of-in_file offset [] i h = omega arith
entry_of-in_file offset (chunk ∷ chunks) zero h = omega arith
entry_of-in_file offset (chunk ∷ chunks) (suc i) h =
    let rest = entry_of-in_file (offset + length chunk.bytes) chunks i (omega (arith, h)) in
    omega (arith, rest, length-append chunk.bytes (chunk_bytes chunks))

pub entry_of-rising : (offset : ℕ) (chunks : List NamedChunk) (i : ℕ) → i < length chunks
    → (entry_of offset chunks i).offset ≤ (entry_of offset chunks (suc i)).offset
entry_of-rising offset [] i h = absurd (omega (arith, h))
entry_of-rising offset (chunk ∷ []) zero h = omega arith
entry_of-rising offset (chunk ∷ next ∷ chunks) zero h = omega arith
entry_of-rising offset (chunk ∷ chunks) (suc i) h = entry_of-rising (offset + length chunk.bytes) chunks i (omega (arith, h))
