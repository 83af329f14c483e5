-- What a buffer shows of its bytes.
use Rattle.std.proofs.Common.{◌≡◌, ℕ, ◌+◌, ◌-◌, ◌≤◌, List, ◌++◌, length, take, drop, sym, ap, ◌∙◌, arith}
use Rattle.std.proofs.Common.{append_assoc, Option, Some, None}
use Rattle.std.specs.Io.{StartsWith}
use Rattle.std.specs.Io.KnownBytes.{Consumes, Keeps, prepend_known}
use Rattle.std.proofs.Math.Seq.{take-append-add, take-append-le, take-append_seam}
use Rattle.std.proofs.lemmas.List.{drop-append-le, drop-drop, drop-take, length-append, length-take-le, length-drop}
use borrow.Rule.Slice.PartMut.{post_of}

-- bytes less at the front
pub consumed : (xs : List ℕ) (start end count : ℕ) → count ≤ end - start
    → take (end - (start + count)) (drop (start + count) xs) ≡ drop count (take (end - start) (drop start xs))
consumed xs start end count fits =
    let left = end - start - count in
    let less : end - (start + count) ≡ left = omega arith in
    let all : count + left ≡ end - start = omega arith in
    ap (λ n. take n (drop (start + count) xs)) less ∙ ap (take left) (sym (drop-drop count start xs))
    ∙ sym (drop-take count left (drop start xs)) ∙ ap (λ n. drop count (take n (drop start xs))) all

-- bytes that were read behind
pub grown : (xs bytes post : List ℕ) (start end count : ℕ) → start ≤ end → end ≤ length xs → count ≤ length bytes
    → take (end + count - start) (drop start (take end xs ++ (bytes ++ post)))
    ≡ take (end - start) (drop start xs) ++ take count bytes
grown xs bytes post start end count order within fits =
    let front = take end xs in
    let view = take (end - start) (drop start xs) in
    let front_len : length front ≡ end = length-take-le end xs within in
    let view_len : length view ≡ end - start =
    length-take-le (end - start) (drop start xs) (omega (arith, length-drop start xs, within)) in
    let view_is : drop start front ≡ view =
    ap (λ n. drop start (take n xs)) (omega arith) ∙ drop-take start (end - start) xs in
    let cut : drop start (front ++ (bytes ++ post)) ≡ view ++ (bytes ++ post) =
    drop-append-le start front (bytes ++ post) (omega (arith, front_len, order)) ∙ ap (λ l. l ++ (bytes ++ post)) view_is in
    let size : end + count - start ≡ length view + count = omega (arith, view_len, order) in
    ap (take (end + count - start)) cut ∙ ap (λ n. take n (view ++ (bytes ++ post))) size
    ∙ take-append-add view (bytes ++ post) count ∙ ap (λ l. view ++ l) (take-append-le count bytes post fits)

pub kept : (a b : Option (List ℕ)) (old new bytes : List ℕ) → Consumes a b bytes → new ≡ old ++ bytes
    → Keeps (prepend_known old a) (prepend_known new b)
kept None b old new bytes read e = tt
kept (Some xs) None old new bytes read e = absurd read
kept (Some xs) (Some ys) old new bytes read e =
    ap (λ l. l ++ ys) e ∙ append_assoc old bytes ys ∙ ap (λ l. old ++ l) (sym read)

pub starts : (old new bytes : List ℕ) → new ≡ old ++ bytes → StartsWith new old
starts old new bytes e = ap (take (length old)) e ∙ take-append_seam old bytes

-- bytes that were put to the front
pub moved : (xs : List ℕ) (start end : ℕ) → start ≤ end → end ≤ length xs
    → take (end - start) (take (end - start) (drop start xs) ++ drop (end - start) xs) ≡ take (end - start) (drop start xs)
moved xs start end order within =
    let view = take (end - start) (drop start xs) in
    let len : length view ≡ end - start =
    length-take-le (end - start) (drop start xs) (omega (arith, length-drop start xs, within)) in
    ap (λ n. take n (view ++ drop (end - start) xs)) (sym len) ∙ take-append_seam view (drop (end - start) xs)

-- a part that was filled is as long as before
pub as_long : (xs bytes : List ℕ) (end : ℕ) → end ≤ length xs → length bytes ≡ length xs - end
    → length (take end xs ++ (bytes ++ post_of end (length xs - end) xs)) ≡ length xs
as_long xs bytes end within filled =
    omega (
      arith,
      length-append (take end xs) (bytes ++ post_of end (length xs - end) xs),
      length-append bytes (post_of end (length xs - end) xs),
      length-take-le end xs within,
      length-drop (length xs - end) (drop end xs),
      length-drop end xs,
      filled,
    )
