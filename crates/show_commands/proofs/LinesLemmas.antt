-- Lines that are written one after another.
use Rattle.std.proofs.Common.{◌≡◌, ℕ, ◌+◌, ◌<◌, List, [], ◌∷◌, ◌++◌, length, take, get_or, Result, Ok, Err, ap}
use Rattle.std.proofs.Common.{sym, subst, ◌∙◌, append_assoc, append-nil, arith}
use Rattle.std.proofs.lemmas.List.{take_more, length-take-le}
use Rattle.std.specs.Prelude.{Option, OnOk}
use Rattle.std.specs.List.{enumerate_from, flat_map}
use Rattle.std.specs.Io.KnownBytes.{Appends}
use Rattle.std.proofs.KnownBytes.{Appends-trans}
use Rattle.graph_commands.proofs.BufferLemmas.{appends_last}

-- three texts that were written, the last perhaps
pub three_texts : {T E : Type 0} (result : Result T E) (a b c d : Option (List ℕ)) (xs ys zs : List ℕ)
    → Appends a b xs → Appends b c ys → OnOk result (Appends c d zs) → OnOk result (Appends a d (xs ++ (ys ++ zs)))
three_texts result a b c d xs ys zs first second last =
    appends_last result a c d (xs ++ ys) zs _ (Appends-trans a b c xs ys first second) last (append_assoc xs ys zs)

-- the text of one more row, which has the next number
numbered-push : {X : Type 0} (text : ℕ × X → List ℕ) (n : ℕ) (xs : List X) (x : X)
    → flat_map text (enumerate_from n xs) ++ text (n + length xs, x) ≡ flat_map text (enumerate_from n (xs ++ x ∷ []))
numbered-push {X = X} text n [] x =
    let same : n + 0 ≡ n = omega arith in
    ap (λ (m : ℕ). text (m, x)) same ∙ sym (append-nil (text (n, x)))
numbered-push {X = X} text n (y ∷ ys) x =
    let same : n + length (y ∷ ys) ≡ (n + 1) + length ys = omega arith in
    append_assoc (text (n, y)) (flat_map text (enumerate_from (n + 1) ys)) (text (n + length (y ∷ ys), x))
    ∙ ap (λ (m : ℕ). text (n, y) ++ (flat_map text (enumerate_from (n + 1) ys) ++ text (m, x))) same
    ∙ ap (λ (rest : List ℕ). text (n, y) ++ rest) (numbered-push text (n + 1) ys x)

-- the texts of some rows and of one more were written
numbered_texts : {X : Type 0} (text : ℕ × X → List ℕ) (xs : List X) (x : X) (a b c : Option (List ℕ))
    → Appends a b (flat_map text (enumerate_from 0 xs)) → Appends b c (text (length xs, x))
    → Appends a c (flat_map text (enumerate_from 0 (xs ++ x ∷ [])))
numbered_texts text xs x a b c before added =
    let same : 0 + length xs ≡ length xs = omega arith in
    let more : flat_map text (enumerate_from 0 xs) ++ text (length xs, x) ≡ flat_map text (enumerate_from 0 (xs ++ x ∷ [])) =
    ap (λ (n : ℕ). flat_map text (enumerate_from 0 xs) ++ text (n, x)) (sym same) ∙ numbered-push text 0 xs x in
    rw (← more) (Appends-trans a b c _ _ before added)

-- the front of a list up to a place and the element there
pub one_more : {X : Type 0} (layers shown : List X) (n : ℕ) (x : X) → shown ≡ layers → n < length shown → x ≡ get_or shown n x
    → take (n + 1) layers ≡ take n layers ++ x ∷ []
one_more {X = X} layers shown n x same within is =
    subst (λ (l : List X). take (n + 1) l ≡ take n l ++ x ∷ []) same
    (take_more shown n x within ∙ ap (λ (y : X). take n shown ++ y ∷ []) (sym is))

-- the texts of the rows up to a place, and of the one there, were written
pub next_text : {X : Type 0} (text : ℕ × X → List ℕ) (layers shown : List X) (n : ℕ) (x : X) (a b c : Option (List ℕ))
    → shown ≡ layers → n < length shown → x ≡ get_or shown n x
    → Appends a b (flat_map text (enumerate_from 0 (take n layers))) → Appends b c (text (n, x))
    → Appends a c (flat_map text (enumerate_from 0 (take (n + 1) layers)))
next_text text layers shown n x a b c same within is before added =
    let count : length (take n layers) ≡ n = length-take-le n layers (omega (arith, ap length same)) in
    let put = subst (λ (m : ℕ). Appends b c (text (m, x))) (sym count) added in
    rw (one_more layers shown n x same within is) (numbered_texts text (take n layers) x a b c before put)

-- a text that was written, in other words
pub same_text : {T E : Type 0} (result : Result T E) (a b : Option (List ℕ)) (xs ys : List ℕ)
    → OnOk result (Appends a b xs) → xs ≡ ys → OnOk result (Appends a b ys)
same_text (Ok value) a b xs ys written same = subst (Appends a b) same written
same_text (Err error) a b xs ys written same = tt

-- three counts with words between them, and the end of their line
pub line_of_counts : (a p b q c end : List ℕ) → (a ++ (p ++ (b ++ (q ++ c)))) ++ end ≡ a ++ (p ++ (b ++ (q ++ (c ++ end))))
line_of_counts a p b q c end = simp append_assoc
