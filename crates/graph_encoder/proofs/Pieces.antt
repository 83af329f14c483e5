-- pieces of one size that are put one after another, and are read again
use Rattle.std.proofs.Common.{◌≡◌, ℕ, zero, suc, ◌+◌, ◌*◌, ◌/◌, ◌^◌, ◌<◌, List, [], ◌∷◌, ◌++◌, length, map, slice_range, All}
use Rattle.std.proofs.Common.{refl, sym, ap, ◌∙◌, arith, append_assoc, length-append}
use Rattle.std.specs.Int.{w32, from_be_bytes}
use Rattle.std.specs.List.{range_with_len, flat_map}
use Rattle.std.proofs.Math.Nat.{mul-div_cancel_left}
use Rattle.std.proofs.lemmas.Simd.{map-map}
use Rattle.std.proofs.lemmas.Nat.{from_be_bytes-to_be_bytes_4}
use Rattle.graph_format.specs.Format.{pieces, words}
use Rattle.graph_encoder.specs.Chunks.{word_bytes}
use Rattle.graph_encoder.specs.Written.{words_bytes}
use Rattle.graph_encoder.proofs.Parts.{slice_range-middle}

-- the first item has the property, and so do the others
pub All-first : {X : Type 0} (P : X → Type 0) (x : X) (xs : List X) → All P (x ∷ xs) → P x
All-first P x xs h = h 0 x (omega arith)

pub All-others : {X : Type 0} (P : X → Type 0) (x : X) (xs : List X) → All P (x ∷ xs) → All P xs
All-others P x xs h = λ k d i. h (suc k) d (omega (arith, i))

pub All-cons : {X : Type 0} (P : X → Type 0) (x : X) (xs : List X) → P x → All P xs → All P (x ∷ xs)
All-cons P x xs h e zero d i = h
All-cons P x xs h e (suc k) d i = e k d (omega (arith, i))

pub All-append : {X : Type 0} (P : X → Type 0) (xs ys : List X) → All P xs → All P ys → All P (xs ++ ys)
All-append P [] ys h e = e
All-append P (x ∷ xs) ys h e = All-cons P x (xs ++ ys) (All-first P x xs h) (All-append P xs ys (All-others P x xs h) e)

-- the spelling of each item has this many bytes
abbrev pub AllSized : {X : Type 0} → ℕ → (X → List ℕ) → List X → Type 0
AllSized size f xs = All (λ x. length (f x) ≡ size) xs

pub length-flat_map-sized : {X : Type 0} (size : ℕ) (f : X → List ℕ) (xs : List X) → AllSized size f xs
    → length (flat_map f xs) ≡ size * length xs
length-flat_map-sized size f [] h = omega arith
length-flat_map-sized size f (x ∷ xs) h =
    let first : length (f x) ≡ size = All-first (λ y. length (f y) ≡ size) x xs h in
    let others : length (flat_map f xs) ≡ size * length xs =
    length-flat_map-sized size f xs (All-others (λ y. length (f y) ≡ size) x xs h) in
    omega (arith, first, others, length-append (f x) (flat_map f xs))

cut : {X : Type 0} (size : ℕ) (f : X → List ℕ) (front : List ℕ) (k : ℕ) (xs : List X) → AllSized size f xs
    → length front ≡ size * k
    → map (λ i. slice_range (front ++ flat_map f xs) (size * i) (size * i + size)) (range_with_len k (length xs)) ≡ map f xs
cut size f front k [] h e = refl
cut size f front k (x ∷ xs) h e =
    let first : length (f x) ≡ size = All-first (λ y. length (f y) ≡ size) x xs h in
    let head : slice_range (front ++ (f x ++ flat_map f xs)) (size * k) (size * k + size) ≡ f x =
    slice_range-middle front (f x) (flat_map f xs) _ _ (sym e) (omega (arith, first, e)) in
    let rest : map (λ i. slice_range ((front ++ f x) ++ flat_map f xs) (size * i) (size * i + size))
    (range_with_len (k + 1) (length xs)) ≡ map f xs =
    cut size f (front ++ f x) (k + 1) xs (All-others (λ y. length (f y) ≡ size) x xs h)
    (omega (arith, first, e, length-append front (f x))) in
    ap (λ (y : List ℕ). y ∷ map (λ i. slice_range (front ++ (f x ++ flat_map f xs)) (size * i) (size * i + size))
    (range_with_len (k + 1) (length xs))) head
    ∙ ap (λ (bytes : List ℕ). f x ∷ map (λ i. slice_range bytes (size * i) (size * i + size))
    (range_with_len (k + 1) (length xs))) (sym (append_assoc front (f x) (flat_map f xs)))
    ∙ ap (λ (ys : List (List ℕ)). f x ∷ ys) rest

pub pieces-flat_map : {X : Type 0} (size : ℕ) (f : X → List ℕ) (xs : List X) → 0 < size → AllSized size f xs
    → pieces size (flat_map f xs) ≡ map f xs
unfolding pieces
pieces-flat_map size f xs h e =
    let count : length (flat_map f xs) / size ≡ length xs = ap (λ (n : ℕ). n / size) (length-flat_map-sized size f xs e)
    ∙ mul-div_cancel_left (length xs) h in
    ap (λ (n : ℕ). map (λ i. slice_range (flat_map f xs) (size * i) (size * i + size)) (range_with_len 0 n)) count
    ∙ cut size f [] 0 xs e (omega arith)

pub length-word_bytes : (n : ℕ) → length (word_bytes n) ≡ 4
unfolding word_bytes
length-word_bytes n = refl

pub word_bytes-read : (n : ℕ) → n < 2 ^ 32 → from_be_bytes w32 (word_bytes n) ≡ n
unfolding word_bytes
word_bytes-read n h = from_be_bytes-to_be_bytes_4 n h

map-read : (ns : List ℕ) → All (λ n. n < 2 ^ 32) ns → map (λ n. from_be_bytes w32 (word_bytes n)) ns ≡ ns
map-read [] h = refl
map-read (n ∷ ns) h =
    ap (λ (m : ℕ). m ∷ map (λ k. from_be_bytes w32 (word_bytes k)) ns) (word_bytes-read n (All-first (λ k. k < 2 ^ 32) n ns h))
    ∙ ap (λ (ms : List ℕ). n ∷ ms) (map-read ns (All-others (λ k. k < 2 ^ 32) n ns h))

pub length-words_bytes : (ns : List ℕ) → length (words_bytes ns) ≡ 4 * length ns
unfolding words_bytes
length-words_bytes ns = length-flat_map-sized 4 word_bytes ns (λ k d h. length-word_bytes _)

pub words-words_bytes : (ns : List ℕ) → All (λ n. n < 2 ^ 32) ns → words (words_bytes ns) ≡ ns
unfolding words words_bytes
words-words_bytes ns h =
    ap (map (from_be_bytes w32)) (pieces-flat_map 4 word_bytes ns (omega arith) (λ k d e. length-word_bytes _))
    ∙ map-map (from_be_bytes w32) word_bytes ns
    ∙ map-read ns h
