-- a header, a table, chunks and a trailer
use Rattle.std.proofs.Common.{◌≡◌, ℕ, List, ◌++◌, length, take, slice_index, slice_range, Some, option_map, refl, sym, ap, subst}
use Rattle.std.proofs.Common.{◌∙◌, append_assoc}
use Rattle.gix_hash_core.specs.declared.kind.Kind.{Kind}
use Rattle.gix_hash_core.specs.declared.kind.Kind.TheVariants.{Sha1, Sha256}
use Rattle.gix_hash_core.specs.Kind.{kind_of}
use Rattle.gix_chunk_core.specs.Table.{Table, Chunks, table_at, range_of}
use Rattle.graph_format.specs.Format.{signature, table_of, chunk_range_of, chunk_of}
use Rattle.graph_encoder.specs.Chunks.{NamedChunk, with_chunks}
use Rattle.graph_encoder.specs.Written.{header}
use Rattle.graph_encoder.proofs.BuiltChunks.{AreLaidOut, bytes_named, chunks-laid, range_of-laid, table_at-end}

pub length-header : (kind : Kind) (chunks bases : ℕ) → length (header kind chunks bases) ≡ 8
unfolding header
length-header kind chunks bases = refl

-- the bytes of a file with this header, these chunks and this trailer
abbrev pub laid_file : Kind → ℕ → List NamedChunk → List ℕ → List ℕ
laid_file kind bases chunks back = with_chunks (header kind (length chunks) bases) chunks ++ back

-- What the header says.
pub record IsHeaded (bytes : List ℕ) (k : Kind) (count base_count : ℕ) : Type 0 where
  pub starts : take 4 bytes ≡ signature
  pub version : slice_index bytes 4 ≡ 1
  pub kind : kind_of (slice_index bytes 5) ≡ Some k
  pub chunks : slice_index bytes 6 ≡ count
  pub bases : slice_index bytes 7 ≡ base_count

headed-rest : (kind : Kind) (chunks bases : ℕ) (rest : List ℕ) → IsHeaded (header kind chunks bases ++ rest) kind chunks bases
unfolding header
headed-rest Sha1 chunks bases rest = record { starts = refl; version = refl; kind = refl; chunks = refl; bases = refl }
headed-rest Sha256 chunks bases rest = record { starts = refl; version = refl; kind = refl; chunks = refl; bases = refl }

pub headed : (kind : Kind) (bases : ℕ) (chunks : List NamedChunk) (back : List ℕ)
    → IsHeaded (laid_file kind bases chunks back) kind (length chunks) bases
unfolding with_chunks
headed kind bases chunks back =
    let P : List ℕ → Type 0 = λ bytes. IsHeaded bytes kind (length chunks) bases in
    subst P (sym (append_assoc (header kind (length chunks) bases) _ back)) (headed-rest kind (length chunks) bases _)

table_of-laid : (kind : Kind) (bases : ℕ) (chunks : List NamedChunk) (back : List ℕ)
    → table_of (laid_file kind bases chunks back)
    ≡ table_at (laid_file kind bases chunks back) (length (header kind (length chunks) bases)) (length chunks)
unfolding table_of
table_of-laid kind bases chunks back =
    ap (table_at (laid_file kind bases chunks back) 8) (headed kind bases chunks back).chunks
    ∙ ap (λ (n : ℕ). table_at (laid_file kind bases chunks back) n (length chunks))
    (sym (length-header kind (length chunks) bases))

pub table-laid : (kind : Kind) (bases : ℕ) (chunks : List NamedChunk) (back : List ℕ)
    → AreLaidOut (header kind (length chunks) bases) back chunks
    → Chunks (laid_file kind bases chunks back) 8 (slice_index (laid_file kind bases chunks back) 6)
    (table_of (laid_file kind bases chunks back))
table-laid kind bases chunks back h =
    let P : ℕ → ℕ → Table → Type 0 = λ at count table. Chunks (laid_file kind bases chunks back) at count table in
    let right = chunks-laid (header kind (length chunks) bases) back chunks h in
    let Q : ℕ → Type 0 = λ at.
    P at (length chunks)
    (table_at (laid_file kind bases chunks back) (length (header kind (length chunks) bases)) (length chunks)) in
    let R : ℕ → Type 0 = λ count.
    P 8 count (table_at (laid_file kind bases chunks back) (length (header kind (length chunks) bases)) (length chunks)) in
    let S : Table → Type 0 = λ table. P 8 (slice_index (laid_file kind bases chunks back) 6) table in
    subst S (sym (table_of-laid kind bases chunks back))
    (subst R (sym (headed kind bases chunks back).chunks) (subst Q (length-header kind (length chunks) bases) right))

pub end-laid : (kind : Kind) (bases : ℕ) (chunks : List NamedChunk) (back : List ℕ)
    → AreLaidOut (header kind (length chunks) bases) back chunks
    → (table_of (laid_file kind bases chunks back)).end ≡ length (with_chunks (header kind (length chunks) bases) chunks)
end-laid kind bases chunks back h = ap (λ (table : Table). table.end) (table_of-laid kind bases chunks back)
    ∙ table_at-end (header kind (length chunks) bases) back chunks h

pub chunk_of-laid : (kind : Kind) (bases : ℕ) (chunks : List NamedChunk) (back id : List ℕ)
    → AreLaidOut (header kind (length chunks) bases) back chunks
    → chunk_of (laid_file kind bases chunks back) id ≡ bytes_named chunks id
unfolding chunk_of chunk_range_of
chunk_of-laid kind bases chunks back id h =
    ap (λ (table : Table). option_map (λ (place : ℕ × ℕ). slice_range (laid_file kind bases chunks back) place.0 place.1)
    (range_of table id)) (table_of-laid kind bases chunks back)
    ∙ range_of-laid (header kind (length chunks) bases) back id chunks h
