-- laws of ids that ascend, and of counts by their first byte
use Rattle.std.proofs.Common.{◌≡◌, ℕ, zero, suc, ◌+◌, ◌<◌, ◌≤◌, Bool, true, false, cond, List, [], ◌∷◌, Some, get_or, slice_get}
use Rattle.std.proofs.Common.{slice_index, leb, count_by, refl, sym, ap, subst, ◌∙◌, arith}
use Rattle.std.specs.Ordering.{nat_cmp, ordering_then, MatchOrdering}
use Rattle.std.specs.Cmp.{ranks}
use Rattle.std.specs.Cmp.Lexicographic.{slice_cmp}
use Rattle.std.specs.declared.cmp.Ordering.{Ordering}
use Rattle.std.specs.declared.cmp.Ordering.TheVariants.{Less, Equal, Greater}
use Rattle.std.proofs.lemmas.Bool.{lt-leb, le-leb}
use Rattle.std.proofs.lemmas.Cmp.{nat_list_cmp_total, tied_itself}
use Rattle.std.proofs.lemmas.List.Sums.{sum_by-cons}
use Rattle.std.proofs.lemmas.Option.{slice_get_within, get_or_from_slice_get, same_Some}
use Rattle.graph_format.specs.Order.{AreAscending}

-- the order of ids
abbrev pub id_cmp : List ℕ → List ℕ → Ordering
id_cmp = slice_cmp nat_cmp

-- of two ids that ascend the earlier one is less
pub ascending-less : (ids : List (List ℕ)) (i j : ℕ) (id later : List ℕ) → AreAscending ids → slice_get ids i ≡ Some id
    → slice_get ids j ≡ Some later → i < j → id_cmp id later ≡ Less
ascending-less ids i j id later ascend at_i at_j h =
    let first : get_or ids i [] ≡ id = get_or_from_slice_get ids i id [] at_i in
    let second : get_or ids j [] ≡ later = get_or_from_slice_get ids j later [] at_j in
    let P : List ℕ → Type 0 = λ a. id_cmp a later ≡ Less in
    let Q : List ℕ → Type 0 = λ b. id_cmp (get_or ids i []) b ≡ Less in
    subst P first (subst Q second (ascend i j [] h (slice_get_within ids j later at_j)))

-- no id is less than itself
pub not-less_itself : (id : List ℕ) → id_cmp id id ≡ Less → ⊥
not-less_itself id h = let e : Equal ≡ Less = sym (tied_itself nat_list_cmp_total id) ∙ h in cc

byte-from_rank : (x y : ℕ) (r s : Ordering) → MatchOrdering r (x < y) (x ≡ y) (y < x) → ordering_then r s ≡ Less → x ≤ y
byte-from_rank x y Less s rank h = omega (arith, rank)
byte-from_rank x y Equal s rank h = omega (arith, rank)
byte-from_rank x y Greater s rank h = cc

-- the first byte of a lesser id is no greater
pub first_byte-less : (id later : List ℕ) → id_cmp id later ≡ Less → slice_index id 0 ≤ slice_index later 0
first_byte-less [] later h = omega arith
first_byte-less (x ∷ xs) [] h = cc
first_byte-less (x ∷ xs) (y ∷ ys) h = byte-from_rank x y (nat_cmp x y) (id_cmp xs ys) (ranks x y) h

-- the first byte of an id is at most this one
abbrev pub begins_up_to : ℕ → List ℕ → Bool
begins_up_to byte id = leb (slice_index id 0) byte

-- 1 for an id that does
abbrev one_if : Bool → ℕ
one_if b = cond b 1 0

one_if-at : (b c : Bool) → b ≡ c → one_if b ≡ one_if c
one_if-at b c e = ap one_if e

-- how many do, of a list with one more in front
count-cons : (byte : ℕ) (id : List ℕ) (ids : List (List ℕ))
    → count_by (begins_up_to byte) (id ∷ ids) ≡ one_if (begins_up_to byte id) + count_by (begins_up_to byte) ids
count-cons byte id ids = sum_by-cons (λ x. one_if (begins_up_to byte x)) id ids

ascending-tail : (id : List ℕ) (ids : List (List ℕ)) → AreAscending (id ∷ ids) → AreAscending ids
ascending-tail id ids ascend = λ i j d h k. ascend (suc i) (suc j) d (omega arith) (omega arith)

-- a greater first byte comes before greater ones alone
count-none : (byte : ℕ) (id : List ℕ) (ids : List (List ℕ)) → AreAscending (id ∷ ids) → byte < slice_index id 0
    → count_by (begins_up_to byte) ids ≡ 0
count-none byte id [] ascend h = refl
count-none byte id (next ∷ ids) ascend h =
    let above : byte < slice_index next 0 = omega (arith, first_byte-less id next (ascend 0 1 [] (omega arith) (omega arith))) in
    let no : one_if (begins_up_to byte next) ≡ 0 = one_if-at (begins_up_to byte next) false (lt-no above) in
    omega (arith, count-cons byte next ids, no, count-none byte next ids (ascending-tail id (next ∷ ids) ascend) above)
  where
    lt-no : {a b : ℕ} → b < a → leb a b ≡ false
    lt-no {a} {b} k = lt-leb a b k

-- ids that begin with the byte or a lesser one stand before those that do not: one that does is among the first so many
pub counted-before : (byte : ℕ) (ids : List (List ℕ)) (i : ℕ) (id : List ℕ) → AreAscending ids → slice_get ids i ≡ Some id
    → slice_index id 0 ≤ byte → i < count_by (begins_up_to byte) ids
counted-before byte [] i id ascend here h = cc
counted-before byte (x ∷ xs) zero id ascend here h =
    let first : x ≡ id = same_Some x id here in
    let small : slice_index x 0 ≤ byte = omega (arith, ap (λ (k : List ℕ). slice_index k 0) first) in
    omega (arith, count-cons byte x xs, one_if-at (begins_up_to byte x) true (le-leb _ _ small))
counted-before byte (x ∷ xs) (suc i) id ascend here h =
    let less : id_cmp x id ≡ Less = ascending-less (x ∷ xs) 0 (suc i) x id ascend refl here (omega arith) in
    let small : slice_index x 0 ≤ byte = omega (arith, first_byte-less x id less) in
    omega (
      arith,
      count-cons byte x xs,
      one_if-at (begins_up_to byte x) true (le-leb _ _ small),
      counted-before byte xs i id (ascending-tail x xs ascend) here h,
    )

-- and one that does not is past them
pub counted-after : (byte : ℕ) (ids : List (List ℕ)) (i : ℕ) (id : List ℕ) → AreAscending ids → slice_get ids i ≡ Some id
    → byte < slice_index id 0 → count_by (begins_up_to byte) ids ≤ i
counted-after byte [] i id ascend here h = cc
counted-after byte (x ∷ xs) zero id ascend here h =
    let first : x ≡ id = same_Some x id here in
    let large : byte < slice_index x 0 = omega (arith, ap (λ (k : List ℕ). slice_index k 0) first) in
    omega (
      arith,
      count-cons byte x xs,
      one_if-at (begins_up_to byte x) false (lt-leb _ _ large),
      count-none byte x xs ascend large,
    )
counted-after byte (x ∷ xs) (suc i) id ascend here h =
    let one : one_if (begins_up_to byte x) ≤ 1 = at-most-one (begins_up_to byte x) in
    omega (arith, count-cons byte x xs, one, counted-after byte xs i id (ascending-tail x xs ascend) here h)
  where
    at-most-one : (b : Bool) → one_if b ≤ 1
    at-most-one true = omega arith
    at-most-one false = omega arith
