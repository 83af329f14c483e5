-- laws of decoding records and words, one after another
use Rattle.std.proofs.Common.{◌≡◌, ℕ, zero, suc, ◌+◌, ◌*◌, ◌/◌, ◌<◌, List, [], ◌∷◌, ◌++◌, map, length, unwrap_or, slice_get}
use Rattle.std.proofs.Common.{slice_index_or, slice_range, refl, sym, ap, ◌∙◌, arith}
use Rattle.std.specs.Int.{w32, from_be_bytes}
use Rattle.std.specs.List.{range_with_len}
use Rattle.std.proofs.lemmas.List.{map-append, length-map}
use Rattle.std.proofs.lemmas.List.FromFn.{map-range_with_len_more}
use Rattle.std.proofs.lemmas.Simd.{map-map}
use Rattle.gix_hash_core.specs.declared.kind.Kind.{Kind}
use Rattle.graph_format.specs.Format.{Record, record_of, record_len, pieces, words}
use Rattle.graph_format.specs.Layer.{Layer, record_at, no_record}
use Rattle.graph_format.specs.DecodedRecords.{stored_parents, AreDecoded}
use Rattle.graph_format.specs.declared.records.Records.{Records}

-- the first n records of bytes
abbrev pub first_records : Kind → List ℕ → ℕ → List Record
first_records kind bytes n =
    map (λ i. record_of kind (slice_range bytes (record_len kind * i) (record_len kind * i + record_len kind)))
    (range_with_len 0 n)

pub first_records-more : (kind : Kind) (bytes : List ℕ) (n : ℕ)
    → first_records kind bytes (n + 1) ≡ first_records kind bytes n ++ record_of kind
    (slice_range bytes (record_len kind * n) (record_len kind * n + record_len kind)) ∷ []
first_records-more kind bytes n = map-range_with_len_more _ 0 n n (omega arith)

-- all records of the bytes
pub first_records-all : (kind : Kind) (bytes : List ℕ) (n : ℕ) → n ≡ length bytes / record_len kind
    → first_records kind bytes n ≡ map (record_of kind) (pieces (record_len kind) bytes)
unfolding pieces
first_records-all kind bytes n e = ap (first_records kind bytes) e
    ∙ sym (map-map (record_of kind) _ (range_with_len 0 (length bytes / record_len kind)))

-- one more of a field
field-more : {A : Type 0} {items old : List A} (field : Record → A) (records : List Record) (r : Record)
    → old ≡ map field records → items ≡ old ++ field r ∷ [] → items ≡ map field (records ++ r ∷ [])
field-more {A} field records r before after = after ∙ ap (λ (xs : List A). xs ++ field r ∷ []) before
    ∙ sym (map-append field records (r ∷ []))

-- one record more
pub decoded-more : (records : List Record) (r : Record) (old new : Records) → AreDecoded records old
    → new.generations.items ≡ old.generations.items ++ r.generation ∷ [] → new.times.items ≡ old.times.items ++ r.time ∷ []
    → new.parent_fields.items ≡ old.parent_fields.items ++ stored_parents r ∷ []
    → AreDecoded (records ++ r ∷ []) new
decoded-more records r old new before generation time parents = record {
  generations = field-more (λ r. r.generation) records r before.generations generation;
  times = field-more (λ r. r.time) records r before.times time;
  parent_fields = field-more stored_parents records r before.parent_fields parents;
}

-- the first n words of bytes
abbrev pub first_words : List ℕ → ℕ → List ℕ
first_words bytes n = map (λ i. from_be_bytes w32 (slice_range bytes (4 * i) (4 * i + 4))) (range_with_len 0 n)

pub first_words-more : (bytes : List ℕ) (n : ℕ)
    → first_words bytes (n + 1) ≡ first_words bytes n ++ from_be_bytes w32 (slice_range bytes (4 * n) (4 * n + 4)) ∷ []
first_words-more bytes n = map-range_with_len_more _ 0 n n (omega arith)

-- all words of the bytes
pub first_words-all : (bytes : List ℕ) (n : ℕ) → n ≡ length bytes / 4 → first_words bytes n ≡ words bytes
unfolding words pieces
first_words-all bytes n e = ap (first_words bytes) e ∙ sym (map-map (from_be_bytes w32) _ (range_with_len 0 (length bytes / 4)))

-- a field of the record at a position
field-at : {A : Type 0} (field : Record → A) (records : List Record) (i : ℕ) (d : A) → i < length records
    → slice_index_or (map field records) i d ≡ field (unwrap_or (slice_get records i) no_record)
field-at field [] i d h = absurd (omega (arith, h))
field-at field (r ∷ records) zero d h = refl
field-at field (r ∷ records) (suc i) d h = field-at field records i d (omega (arith, h))

field-of : {A : Type 0} (field : Record → A) (layer : Layer) (xs : List A) (i : ℕ) (d : A) → xs ≡ map field layer.records
    → i < length xs → slice_index_or xs i d ≡ field (record_at layer i)
unfolding record_at
field-of {A} field layer xs i d e h =
    ap (λ (ys : List A). slice_index_or ys i d) e
    ∙ field-at field layer.records i d (omega (arith, h, ap length e, length-map layer.records field))

pub generation-of : (layer : Layer) (xs : List ℕ) (i d : ℕ) → xs ≡ map (λ r. r.generation) layer.records → i < length xs
    → slice_index_or xs i d ≡ (record_at layer i).generation
generation-of layer xs i d e h = field-of (λ r. r.generation) layer xs i d e h

pub time-of : (layer : Layer) (xs : List ℕ) (i d : ℕ) → xs ≡ map (λ r. r.time) layer.records → i < length xs
    → slice_index_or xs i d ≡ (record_at layer i).time
time-of layer xs i d e h = field-of (λ r. r.time) layer xs i d e h

pub first_field-of : (layer : Layer) (xs : List (ℕ × ℕ)) (i : ℕ) (d : ℕ × ℕ) → xs ≡ map stored_parents layer.records
    → i < length xs → (slice_index_or xs i d).0 ≡ (record_at layer i).parent1
first_field-of layer xs i d e h = ap (λ (p : ℕ × ℕ). p.0) (field-of stored_parents layer xs i d e h)

pub second_field-of : (layer : Layer) (xs : List (ℕ × ℕ)) (i : ℕ) (d : ℕ × ℕ) → xs ≡ map stored_parents layer.records
    → i < length xs → (slice_index_or xs i d).1 ≡ (record_at layer i).parent2
second_field-of layer xs i d e h = ap (λ (p : ℕ × ℕ). p.1) (field-of stored_parents layer xs i d e h)

pub ruleset decoding_laws = (first_records-more, first_records-all, decoded-more, first_words-more, first_words-all)

pub ruleset field_laws = (generation-of, time-of, first_field-of, second_field-of)
