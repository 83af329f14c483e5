-- laws of the pieces of a list of bytes, and that those of ids are not empty
use Rattle.std.proofs.Common.{◌≡◌, ℕ, zero, suc, ◌+◌, ◌-◌, ◌*◌, ◌/◌, ◌<◌, ◌≤◌, List, length, take, drop, Some, map, slice_range}
use Rattle.std.proofs.Common.{slice_index, slice_get, sym, ap, ◌∙◌, arith, add-zero, length-take, length-drop}
use Rattle.std.specs.Int.{w32, from_be_bytes}
use Rattle.std.specs.List.{range_with_len}
use Rattle.std.proofs.Math.Nat.{mul-div_cancel_left}
use Rattle.std.proofs.lemmas.List.{take-take, drop-drop, drop-take}
use Rattle.std.proofs.lemmas.Slice.{between_is}
use Rattle.std.proofs.lemmas.Simd.{map-map}
use Rattle.std.proofs.lemmas.List.FromFn.{get_or-map-range_with_len, length-map-range_with_len}
use Rattle.gix_hash_core.specs.declared.kind.Kind.{Kind}
use Rattle.gix_hash_core.specs.declared.kind.Kind.TheVariants.{Sha1, Sha256}
use Rattle.gix_hash_core.specs.Kind.{id_len}
use Rattle.graph_format.specs.Format.{pieces, words}

pub id_len-positive : (kind : Kind) → 0 < id_len kind
id_len-positive Sha1 = omega arith
id_len-positive Sha256 = omega arith

-- how many bytes a part has
pub length-slice_range : (xs : List ℕ) (i j : ℕ) → j ≤ length xs → length (slice_range xs i j) ≡ j - i
length-slice_range xs i j h = omega (arith, length-take (j - i) (drop i xs), length-drop i xs)

-- a part of a part
pub slice_range-slice_range : (xs : List ℕ) (i j k l : ℕ) → i + l ≤ j
    → slice_range (slice_range xs i j) k l ≡ slice_range xs (i + k) (i + l)
slice_range-slice_range xs i j k l h =
    ap (λ (ys : List ℕ). slice_range ys k l) (between_is xs i j)
    ∙ between_is (drop i (take j xs)) k l
    ∙ ap (drop k) (sym (drop-take i l (take j xs)) ∙ ap (drop i) (take-take (i + l) j xs h))
    ∙ drop-drop k i (take (i + l) xs)
    ∙ sym (between_is xs (i + k) (i + l))

-- an element of a list made from a function of the index
pub get-map-range : {X : Type 0} (f : ℕ → X) (a n i : ℕ) → i < n → slice_get (map f (range_with_len a n)) i ≡ Some (f (a + i))
get-map-range f a zero i h = absurd (omega (arith, h))
get-map-range f a (suc n) zero h = ap (λ (k : ℕ). Some (f k)) (sym (add-zero a))
get-map-range f a (suc n) (suc i) h = get-map-range f (a + 1) n i (omega (arith, h)) ∙ ap (λ (k : ℕ). Some (f k)) (omega arith)

pub pieces-at : (size : ℕ) (bytes : List ℕ) (i : ℕ) → i < length bytes / size
    → slice_get (pieces size bytes) i ≡ Some (slice_range bytes (size * i) (size * i + size))
unfolding pieces
pieces-at size bytes i h =
    get-map-range (λ (k : ℕ). slice_range bytes (size * k) (size * k + size)) 0 (length bytes / size) i h
    ∙ ap (λ (k : ℕ). Some (slice_range bytes (size * k) (size * k + size))) (omega arith)

pub length-pieces : (size : ℕ) (bytes : List ℕ) → length (pieces size bytes) ≡ length bytes / size
unfolding pieces
length-pieces size bytes =
    length-map-range_with_len (λ (k : ℕ). slice_range bytes (size * k) (size * k + size)) 0 (length bytes / size)

-- bytes of so many pieces
pub length-pieces_of : (size count : ℕ) (bytes : List ℕ) → 0 < size → length bytes ≡ size * count
    → length (pieces size bytes) ≡ count
length-pieces_of size count bytes positive long =
    length-pieces size bytes ∙ ap (λ (n : ℕ). n / size) long ∙ mul-div_cancel_left count positive

-- a number of a list of numbers of four bytes
pub words-at : (bytes : List ℕ) (i : ℕ) → i < length bytes / 4
    → slice_index (words bytes) i ≡ from_be_bytes w32 (slice_range bytes (4 * i) (4 * i + 4))
unfolding words pieces
words-at bytes i h =
    ap (λ (ns : List ℕ). slice_index ns i)
    (map-map (from_be_bytes w32) (λ (k : ℕ). slice_range bytes (4 * k) (4 * k + 4)) (range_with_len 0 (length bytes / 4)))
    ∙ get_or-map-range_with_len (λ (k : ℕ). from_be_bytes w32 (slice_range bytes (4 * k) (4 * k + 4))) 0 (length bytes / 4) i i 0
    h (omega arith)
