-- ids of one size, which stand one after another
use Rattle.std.proofs.Common.{◌≡◌, ℕ, ◌+◌, ◌*◌, ◌/◌, ◌<◌, ◌≤◌, List, [], ◌∷◌, ◌++◌, length, map, slice_range, ap, sym, arith}
use Rattle.std.proofs.Common.{mul-suc, add-one, zero, suc, IsTrue, true≢false}
use Rattle.std.specs.List.{range_with_len}
use Rattle.std.proofs.lemmas.List.FromFn.{map-range_with_len_more}
use Rattle.gix_hash_core.specs.Kind.{is_id_len}
use Rattle.graph_format.specs.Format.{pieces}
use Rattle.std.proofs.Math.Nat.{mul-div-le, mul-le-mul_left}

-- the piece of a number
abbrev pub piece_at : ℕ → List ℕ → ℕ → List ℕ
piece_at size bytes i = slice_range bytes (size * i) (size * i + size)

-- the first pieces
abbrev pub first_pieces : ℕ → List ℕ → ℕ → List (List ℕ)
first_pieces size bytes n = map (piece_at size bytes) (range_with_len 0 n)

pub piece_more : (size : ℕ) (bytes : List ℕ) (n : ℕ)
    → first_pieces size bytes (n + 1) ≡ first_pieces size bytes n ++ piece_at size bytes n ∷ []
piece_more size bytes n = map-range_with_len_more (piece_at size bytes) 0 n n (omega arith)

pub all_pieces : (size : ℕ) (bytes : List ℕ) (n : ℕ) → n ≡ length bytes / size → first_pieces size bytes n ≡ pieces size bytes
unfolding pieces
all_pieces size bytes n all = ap (first_pieces size bytes) all

-- a piece lies within the bytes
pub piece_within : (size n len : ℕ) → 0 < size → n < len / size → size * n + size ≤ len
piece_within size n len positive below =
    let up : size * (n + 1) ≤ size * (len / size) = mul-le-mul_left size (omega (arith, below)) in
    omega (arith, up, mul-div-le len size, mul-suc size n, add-one n)

-- the size of an id is not 0
pub id_positive : (size : ℕ) → IsTrue (is_id_len size) → 0 < size
id_positive zero is = absurd (true≢false (sym is))
id_positive (suc size) is = omega arith
