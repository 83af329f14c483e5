-- records that are put one after another, and are read again
use Rattle.std.proofs.Common.{◌≡◌, ℕ, ◌+◌, ◌*◌, ◌/◌, ◌%◌, ◌^◌, ◌<◌, List, [], ◌++◌, length, slice_range, refl, sym, ap, ◌∙◌}
use Rattle.std.proofs.Common.{arith, append_assoc, length-append}
use Rattle.std.specs.Int.{w32, w64, from_be_bytes}
use Rattle.std.proofs.lemmas.Nat.{shr_high, mod_low}
use Rattle.gix_hash_core.specs.declared.kind.Kind.{Kind}
use Rattle.gix_hash_core.specs.Kind.{id_len}
use Rattle.graph_format.specs.Format.{Record, record_of, record_len, part}
use Rattle.graph_encoder.specs.Chunks.{word_bytes, long_bytes}
use Rattle.graph_encoder.proofs.Parts.{slice_range-middle, slice_range-last}
use Rattle.graph_encoder.proofs.BuiltTable.{length-long_bytes, long_bytes-read}
use Rattle.graph_encoder.proofs.Pieces.{length-word_bytes, word_bytes-read}

-- a record's bytes
abbrev pub spelled : List ℕ → ℕ → ℕ → ℕ → List ℕ
spelled tree first second dates = tree ++ (word_bytes first ++ (word_bytes second ++ long_bytes dates))

pub length-spelled : (kind : Kind) (tree : List ℕ) (first second dates : ℕ) → length tree ≡ id_len kind
    → length (spelled tree first second dates) ≡ record_len kind
length-spelled kind tree first second dates h =
    simp length-append (omega (arith, h, length-word_bytes first, length-word_bytes second, length-long_bytes dates))

-- the four parts of a record
parts-spelled : (size : ℕ) (tree : List ℕ) (first second dates : ℕ) → length tree ≡ size →
    (part (spelled tree first second dates) 0 size ≡ tree)
    × (part (spelled tree first second dates) size 4 ≡ word_bytes first)
    × (part (spelled tree first second dates) (size + 4) 4 ≡ word_bytes second)
    × (part (spelled tree first second dates) (size + 8) 8 ≡ long_bytes dates)
parts-spelled size tree first second dates h =
    let one = length-word_bytes first in
    let two = length-word_bytes second in
    let three = length-long_bytes dates in (
      slice_range-middle [] tree (word_bytes first ++ (word_bytes second ++ long_bytes dates)) _ _ refl (omega (arith, h)),
      slice_range-middle tree (word_bytes first) (word_bytes second ++ long_bytes dates) _ _ (omega (arith, h))
          (omega (arith, h, one)),
      ap (λ (bytes : List ℕ). slice_range bytes (size + 4) (size + 4 + 4))
          (sym (append_assoc tree (word_bytes first) (word_bytes second ++ long_bytes dates)))
          ∙ slice_range-middle (tree ++ word_bytes first) (word_bytes second) (long_bytes dates) _ _
          (omega (arith, h, one, length-append tree (word_bytes first)))
          (omega (arith, h, one, two, length-append tree (word_bytes first))),
      ap (λ (bytes : List ℕ). slice_range bytes (size + 8) (size + 8 + 8))
          (sym (append_assoc tree (word_bytes first) (word_bytes second ++ long_bytes dates))
          ∙ sym (append_assoc (tree ++ word_bytes first) (word_bytes second) (long_bytes dates)))
          ∙ slice_range-last ((tree ++ word_bytes first) ++ word_bytes second) (long_bytes dates) _ _
          (simp length-append (omega (arith, h, one, two))) (simp length-append (omega (arith, h, one, two, three))),
    )

-- the record of four parts
record_in : List ℕ → List ℕ → List ℕ → List ℕ → Record
record_in tree first second dates =
    record {
      tree = tree;
      parent1 = from_be_bytes w32 first;
      parent2 = from_be_bytes w32 second;
      generation = from_be_bytes w64 dates / 2 ^ 34;
      time = from_be_bytes w64 dates % 2 ^ 34;
    }

record_of-parts : (kind : Kind) (bytes tree first second dates : List ℕ) → part bytes 0 (id_len kind) ≡ tree
    → part bytes (id_len kind) 4 ≡ first → part bytes (id_len kind + 4) 4 ≡ second → part bytes (id_len kind + 8) 8 ≡ dates
    → record_of kind bytes ≡ record_in tree first second dates
unfolding record_of record_in
record_of-parts kind bytes tree first second dates a b c d = rw (a, b, c, d) refl

record_in-read : (tree : List ℕ) (first second generation time : ℕ) → first < 2 ^ 32 → second < 2 ^ 32 → generation < 2 ^ 30
    → time < 2 ^ 34
    → record_in tree (word_bytes first) (word_bytes second) (long_bytes (generation * 2 ^ 34 + time))
    ≡ record { tree = tree; parent1 = first; parent2 = second; generation = generation; time = time }
unfolding record_in
record_in-read tree first second generation time a b c d =
    rw (
      word_bytes-read first a,
      word_bytes-read second b,
      long_bytes-read (generation * 2 ^ 34 + time) (omega (arith, c, d)),
      shr_high generation 34 time d,
      mod_low generation 34 time d,
    ) refl

-- the record that these bytes spell
pub record_of-spelled : (kind : Kind) (tree : List ℕ) (first second generation time : ℕ) → length tree ≡ id_len kind
    → first < 2 ^ 32 → second < 2 ^ 32 → generation < 2 ^ 30 → time < 2 ^ 34
    → record_of kind (spelled tree first second (generation * 2 ^ 34 + time))
    ≡ record { tree = tree; parent1 = first; parent2 = second; generation = generation; time = time }
record_of-spelled kind tree first second generation time h a b c d =
    let read = parts-spelled (id_len kind) tree first second (generation * 2 ^ 34 + time) h in
    record_of-parts kind _ _ _ _ _ read.0 read.1 read.2 read.3
    ∙ record_in-read tree first second generation time a b c d
