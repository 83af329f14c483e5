-- Bytes that were read as numbers, as pieces and as records, put together again.
use Rattle.std.proofs.Common.{◌≡◌, ℕ, zero, suc, ◌+◌, ◌-◌, ◌*◌, ◌/◌, ◌^◌, ◌<◌, ◌≤◌, List, [], ◌∷◌, ◌++◌, map, length, take, drop}
use Rattle.std.proofs.Common.{get_or, slice_range, All, refl, sym, ap, ◌∙◌, subst, arith}
use Rattle.std.specs.Int.{w32, w64, from_be_bytes}
use Rattle.std.specs.List.{flat_map, range_with_len}
use Rattle.std.proofs.Math.Nat.{div-add-mod, le-div_iff_mul-le, mul-div_cancel_left}
use Rattle.std.proofs.lemmas.List.{append-nil, drop-drop, drop_all, get_or-drop, take-append-drop}
use Rattle.std.proofs.lemmas.Nat.{be_bytes_4, be_bytes_8}
use Rattle.std.proofs.lemmas.Option.{get_or_from_slice_get}
use Rattle.gix_hash_core.specs.Kind.{id_len}
use Rattle.gix_hash_core.specs.declared.kind.Kind.{Kind}
use Rattle.graph_format.specs.Format.{part, pieces, record_len, record_of, words}
use Rattle.graph_format.proofs.PieceLemmas.{length-pieces, length-slice_range, pieces-at}
use Rattle.graph_encoder.specs.Chunks.{word_bytes, long_bytes}
use Rattle.graph_encoder.specs.ExtraEdges.{first_field, second_field}
use Rattle.graph_encoder.specs.Written.{record_bytes, words_bytes}
use Rattle.graph_encoder.specs.declared.plan.PlanCommit.{PlanCommit}
use Rattle.graph_encoder.proofs.Pieces.{All-first, All-others}

-- each is a byte, and so is what stands past the end
abbrev pub AreBytes : List ℕ → Type 0
AreBytes bytes = (i : ℕ) → get_or bytes i 0 < 256

take-bytes : (n : ℕ) (bytes : List ℕ) → AreBytes bytes → AreBytes (take n bytes)
take-bytes zero bytes are i = omega arith
take-bytes (suc n) [] are i = are i
take-bytes (suc n) (x ∷ bytes) are zero = are 0
take-bytes (suc n) (x ∷ bytes) are (suc i) = take-bytes n bytes (λ j. are (suc j)) i

pub part-bytes : (bytes : List ℕ) (a b : ℕ) → AreBytes bytes → AreBytes (slice_range bytes a b)
part-bytes bytes a b are =
    take-bytes (b - a) (drop a bytes) (λ i. omega (arith, get_or-drop a bytes i 0, are (a + i)))

-- a number that was read
word-again : (bytes : List ℕ) → length bytes ≡ 4 → AreBytes bytes → word_bytes (from_be_bytes w32 bytes) ≡ bytes
unfolding word_bytes
word-again bytes size are = be_bytes_4 bytes (from_be_bytes w32 bytes) size are refl

long-again : (bytes : List ℕ) → length bytes ≡ 8 → AreBytes bytes → long_bytes (from_be_bytes w64 bytes) ≡ bytes
unfolding long_bytes
long-again bytes size are = be_bytes_8 bytes (from_be_bytes w64 bytes) size are refl

-- a part of so many bytes, and what follows it
part-and-rest : (bytes : List ℕ) (a n : ℕ) → drop a bytes ≡ part bytes a n ++ drop (a + n) bytes
part-and-rest bytes a n =
    let size : a + n - a ≡ n = omega arith in
    sym (take-append-drop (a + n - a) (drop a bytes))
    ∙ ap (λ (rest : List ℕ). take (a + n - a) (drop a bytes) ++ rest)
    (drop-drop (a + n - a) a bytes ∙ ap (λ (m : ℕ). drop (a + m) bytes) size)

-- the pieces from one on
pieces-from : (size k n : ℕ) (bytes : List ℕ) → length bytes ≡ size * (k + n)
    → flat_map (λ piece. piece) (map (λ i. slice_range bytes (size * i) (size * i + size)) (range_with_len k n))
    ≡ drop (size * k) bytes
pieces-from size k zero bytes long =
    let none : k + zero ≡ k = omega arith in
    sym (drop_all (size * k) bytes (omega (arith, long ∙ ap (λ (m : ℕ). size * m) none)))
pieces-from size k (suc n) bytes long =
    let count : k + suc n ≡ k + 1 + n = omega arith in
    let next : size * k + size ≡ size * (k + 1) = omega arith in
    ap (λ (rest : List ℕ). slice_range bytes (size * k) (size * k + size) ++ rest)
    (pieces-from size (k + 1) n bytes (long ∙ ap (λ (m : ℕ). size * m) count)
    ∙ ap (λ (m : ℕ). drop m bytes) (sym next))
    ∙ sym (part-and-rest bytes (size * k) size)

pub pieces-again : (size n : ℕ) (bytes : List ℕ) → 0 < size → length bytes ≡ size * n
    → flat_map (λ piece. piece) (pieces size bytes) ≡ bytes
unfolding pieces
pieces-again size n bytes some long =
    let count : length bytes / size ≡ n = ap (λ (m : ℕ). m / size) long ∙ mul-div_cancel_left n some in
    let zeroth : size * 0 ≡ 0 = omega arith in
    let all : n ≡ 0 + n = omega arith in
    ap
    (λ (m : ℕ). flat_map (λ (piece : List ℕ). piece)
    (map (λ (i : ℕ). slice_range bytes (size * i) (size * i + size)) (range_with_len 0 m)))
    count
    ∙ pieces-from size 0 n bytes (long ∙ ap (λ (m : ℕ). size * m) all)
    ∙ ap (λ (m : ℕ). drop m bytes) zeroth

-- where a piece ends
piece-within : (size n i : ℕ) → 0 < size → i < n / size → size * i + size ≤ n
piece-within size n i some lt =
    let whole : suc i * size ≤ n = (le-div_iff_mul-le some).0 lt in omega (arith, whole)

module _ (size : ℕ) (bytes : List ℕ) (some : 0 < size) where
  piece-there : (i : ℕ) (d : List ℕ) → i < length (pieces size bytes)
      → get_or (pieces size bytes) i d ≡ slice_range bytes (size * i) (size * i + size)
  piece-there i d lt =
      get_or_from_slice_get (pieces size bytes) i (slice_range bytes (size * i) (size * i + size)) d
      (pieces-at size bytes i (omega (arith, lt, length-pieces size bytes)))

  pub pieces-sized : All (λ piece. length piece ≡ size) (pieces size bytes)
  pieces-sized i d lt =
      ap length (piece-there i d lt)
      ∙ length-slice_range bytes (size * i) (size * i + size)
      (piece-within size (length bytes) i some (omega (arith, lt, length-pieces size bytes)))
      ∙ (let one : size * i + size - size * i ≡ size = omega arith in one)

  pub pieces-bytes : AreBytes bytes → All AreBytes (pieces size bytes)
  pieces-bytes are i d lt =
      subst AreBytes (sym (piece-there i d lt)) (part-bytes bytes (size * i) (size * i + size) are)

-- words that were read
words-from : (ps : List (List ℕ)) → All (λ piece. length piece ≡ 4) ps → All AreBytes ps
    → flat_map word_bytes (map (from_be_bytes w32) ps) ≡ flat_map (λ piece. piece) ps
words-from [] sized are = refl
words-from (p ∷ ps) sized are =
    ap (λ (bytes : List ℕ). bytes ++ flat_map word_bytes (map (from_be_bytes w32) ps))
    (word-again p (All-first (λ piece. length piece ≡ 4) p ps sized) (All-first AreBytes p ps are))
    ∙ ap (λ (rest : List ℕ). p ++ rest)
    (words-from ps (All-others (λ piece. length piece ≡ 4) p ps sized) (All-others AreBytes p ps are))

pub words-again : (bytes : List ℕ) (n : ℕ) → length bytes ≡ 4 * n → AreBytes bytes → words_bytes (words bytes) ≡ bytes
unfolding words words_bytes
words-again bytes n long are =
    words-from (pieces 4 bytes) (pieces-sized 4 bytes (omega arith)) (pieces-bytes 4 bytes (omega arith) are)
    ∙ pieces-again 4 n bytes (omega arith) long

-- a record that was read
module _ (kind : Kind) (piece : List ℕ) (sized : length piece ≡ record_len kind) (are : AreBytes piece) where
  abbrev size : ℕ
  size = id_len kind

  abbrev dates : List ℕ
  dates = part piece (size + 8) 8

  split-record : piece ≡ part piece 0 size ++ (part piece size 4 ++ (part piece (size + 4) 4 ++ dates))
  split-record =
      part-and-rest piece 0 size
      ∙ ap (λ (rest : List ℕ). part piece 0 size ++ rest)
      (ap (λ (n : ℕ). drop n piece) (let n : 0 + id_len kind ≡ id_len kind = omega arith in n)
      ∙ part-and-rest piece size 4
      ∙ ap (λ (rest : List ℕ). part piece size 4 ++ rest)
      (part-and-rest piece (size + 4) 4
      ∙ ap (λ (rest : List ℕ). part piece (size + 4) 4 ++ rest)
      (ap (λ (n : ℕ). drop n piece) (let n : id_len kind + 4 + 4 ≡ id_len kind + 8 = omega arith in n)
      ∙ part-and-rest piece (size + 8) 8
      ∙ ap (λ (rest : List ℕ). dates ++ rest) (drop_all (size + 8 + 8) piece (omega (arith, sized)))
      ∙ append-nil dates)))

  part-sized : (a n : ℕ) → a + n ≤ length piece → length (part piece a n) ≡ n
  part-sized a n le =
      length-slice_range piece a (a + n) le ∙ (let m : a + n - a ≡ n = omega arith in m)

  pub record-again : (index : ℕ) (c : PlanCommit) → (record_of kind piece).tree ≡ c.tree
      → (record_of kind piece).parent1 ≡ first_field c.parents.items
      → (record_of kind piece).parent2 ≡ second_field index c.parents.items
      → (record_of kind piece).generation ≡ c.generation → (record_of kind piece).time ≡ c.time
      → record_bytes index c ≡ piece
  unfolding record_of record_bytes
  record-again index c tree first second generation time =
      let sum : c.generation * 2 ^ 34 + c.time ≡ from_be_bytes w64 (part piece (id_len kind + 8) 8) =
      omega (arith, generation, time, div-add-mod (from_be_bytes w64 (part piece (id_len kind + 8) 8)) (2 ^ 34)) in
      let last : long_bytes (c.generation * 2 ^ 34 + c.time) ≡ dates =
      ap long_bytes sum
      ∙ long-again dates (part-sized (size + 8) 8 (omega (arith, sized))) (part-bytes piece (size + 8) (size + 8 + 8) are) in
      let one : word_bytes (first_field c.parents.items) ≡ part piece size 4 =
      ap word_bytes (sym first)
      ∙ word-again (part piece size 4) (part-sized size 4 (omega (arith, sized))) (part-bytes piece size (size + 4) are) in
      let two : word_bytes (second_field index c.parents.items) ≡ part piece (size + 4) 4 =
      ap word_bytes (sym second)
      ∙ word-again (part piece (size + 4) 4) (part-sized (size + 4) 4 (omega (arith, sized)))
      (part-bytes piece (size + 4) (size + 4 + 4) are) in
      ap
      (λ (bytes : List ℕ).
      bytes
      ++ (word_bytes (first_field c.parents.items)
      ++ (word_bytes (second_field index c.parents.items) ++ long_bytes (c.generation * 2 ^ 34 + c.time))))
      (sym tree)
      ∙ ap
      (λ (bytes : List ℕ).
      part piece 0 size
      ++ (bytes ++ (word_bytes (second_field index c.parents.items) ++ long_bytes (c.generation * 2 ^ 34 + c.time)))) one
      ∙ ap
      (λ (bytes : List ℕ).
      part piece 0 size ++ (part piece size 4 ++ (bytes ++ long_bytes (c.generation * 2 ^ 34 + c.time)))) two
      ∙ ap (λ (bytes : List ℕ). part piece 0 size ++ (part piece size 4 ++ (part piece (size + 4) 4 ++ bytes))) last
      ∙ sym split-record
