-- pieces are all of the bytes but for fewer than a piece has
use Rattle.std.proofs.Common.{◌≡◌, ℕ, zero, suc, ◌+◌, ◌*◌, ◌/◌, ◌<◌, ◌≤◌, List, [], ◌∷◌, ◌++◌, length, take, drop, map}
use Rattle.std.proofs.Common.{slice_range, All, sym, ap, subst, ◌∙◌, arith, add-one, mul-suc, mul-zero, take-append-drop}
use Rattle.std.specs.List.{concat, range_with_len}
use Rattle.std.proofs.lemmas.List.{take-take, append-nil}
use Rattle.std.proofs.lemmas.List.Elements.{All-nil, All-push}
use Rattle.std.proofs.lemmas.List.Folds.{concat-append}
use Rattle.std.proofs.lemmas.List.FromFn.{map-range_with_len_more}
use Rattle.std.proofs.lemmas.Slice.{between_is}
use Rattle.graph_format.specs.Format.{pieces}
use Rattle.graph_format.specs.FormatLaws.{FallIntoPieces}
use Rattle.graph_format.proofs.PieceLemmas.{length-slice_range}
use Rattle.graph_format.proofs.PieceLemmas.{length-pieces}

-- the piece i
abbrev pub piece : ℕ → List ℕ → ℕ → List ℕ
piece size bytes i = slice_range bytes (size * i) (size * i + size)

-- a front of the bytes, and the piece after it
front-more : (bytes : List ℕ) (k n : ℕ) → take k bytes ++ slice_range bytes k (k + n) ≡ take (k + n) bytes
front-more bytes k n =
    ap (λ (xs : List ℕ). take k bytes ++ xs) (between_is bytes k (k + n))
    ∙ ap (λ (xs : List ℕ). xs ++ drop k (take (k + n) bytes)) (sym (take-take k (k + n) bytes (omega arith)))
    ∙ take-append-drop k (take (k + n) bytes)

more : (size : ℕ) (bytes : List ℕ) (n : ℕ) → map (piece size bytes) (range_with_len 0 (suc n))
    ≡ map (piece size bytes) (range_with_len 0 n) ++ piece size bytes n ∷ []
more size bytes n = ap (λ (m : ℕ). map (piece size bytes) (range_with_len 0 m)) (sym (add-one n))
    ∙ map-range_with_len_more (piece size bytes) 0 n n (omega arith)

joined : (size : ℕ) (bytes : List ℕ) (n : ℕ) → concat (map (piece size bytes) (range_with_len 0 n)) ≡ take (size * n) bytes
joined size bytes zero = ap (λ (k : ℕ). take k bytes) (sym (mul-zero size))
joined size bytes (suc n) =
    ap concat (more size bytes n)
    ∙ concat-append (map (piece size bytes) (range_with_len 0 n)) (piece size bytes n ∷ [])
    ∙ ap (λ (xs : List ℕ). xs ++ (piece size bytes n ++ [])) (joined size bytes n)
    ∙ ap (λ (xs : List ℕ). take (size * n) bytes ++ xs) (append-nil (piece size bytes n))
    ∙ front-more bytes (size * n) size
    ∙ ap (λ (k : ℕ). take k bytes) (sym (mul-suc size n))

sized : (size : ℕ) (bytes : List ℕ) (n : ℕ) → size * n ≤ length bytes
    → All (λ part. length part ≡ size) (map (piece size bytes) (range_with_len 0 n))
sized size bytes zero h = All-nil (λ part. length part ≡ size)
sized size bytes (suc n) h =
    let long : size * n + size ≤ length bytes = omega (arith, h, mul-suc size n) in
    let P : List ℕ → Type 0 = λ part. length part ≡ size in
    let all : All P (map (piece size bytes) (range_with_len 0 n) ++ piece size bytes n ∷ []) =
    All-push P _ _ (sized size bytes n (omega (arith, long))) (length-slice_range bytes (size * n) (size * n + size) long
    ∙ omega arith) in
    let Q : List (List ℕ) → Type 0 = λ parts. All P parts in
    subst Q (sym (more size bytes n)) all

pub whole_pieces : (size : ℕ) (bytes : List ℕ) → FallIntoPieces size bytes
unfolding pieces
whole_pieces size bytes positive =
    let count = length-pieces size bytes in
    let fits : size * (length bytes / size) ≤ length bytes = omega (arith, positive) in
    let rest : length bytes < size * (length bytes / size) + size = omega (arith, positive) in
    record {
      each = sized size bytes (length bytes / size) fits;
      joined = joined size bytes (length bytes / size) ∙ ap (λ (n : ℕ). take (size * n) bytes) (sym count);
      left = rw count rest;
    }
