-- laws of the counts of first bytes
use Rattle.std.proofs.Common.{◌≡◌, ℕ, ◌+◌, ◌<◌, ◌≤◌, List, [], ◌∷◌, length, take, get_or, set, slice_index, slice_get, nat_le}
use Rattle.std.proofs.Common.{nat_lt, Bool, cond, Some, None, refl, sym, ap, ◌∙◌, arith, get_or-set_same, get_or-set_other}
use Rattle.std.proofs.Common.{⊎_elim}
use Rattle.std.specs.Prelude.{◌==◌, count_by, not}
use Rattle.std.specs.Bool.{then_some}
use Rattle.std.proofs.lemmas.Bool.{eq-eqb, ne_eqb, cases_eq}
use Rattle.std.proofs.lemmas.Bool.Decides.{nat_tests}
use Rattle.std.proofs.lemmas.List.{length-take}
use Rattle.std.proofs.lemmas.List.Sums.{count_by-le-length, count_by_more_yes, count_by_more_no, sum_by_from}
use Rattle.std.proofs.lemmas.Option.{slice_get_within, get_or_from_slice_get}
use Rattle.graph_format.specs.Layer.{Layer}
use Rattle.graph_format.specs.Faults.{wrong_fan}
use Rattle.graph_format.specs.declared.fault.LayerFault.TheVariants.{Fan}

-- how many ids have a first byte, one below it, and one of at most it
abbrev pub ids_with : ℕ → List (List ℕ) → ℕ
ids_with byte ids = count_by (λ id. slice_index id 0 == byte) ids

abbrev pub ids_below : ℕ → List (List ℕ) → ℕ
ids_below byte ids = count_by (λ id. nat_lt (slice_index id 0) byte) ids

abbrev pub ids_up_to : ℕ → List (List ℕ) → ℕ
ids_up_to byte ids = count_by (λ id. nat_le (slice_index id 0) byte) ids

-- one more id is counted
pub counted-more : (counts : List ℕ) (ids : List (List ℕ)) (i first byte : ℕ) (id : List ℕ) → slice_get ids i ≡ Some id
    → first ≡ slice_index id 0 → first < length counts → slice_index counts byte ≡ ids_with byte (take i ids)
    → slice_index (set counts first (get_or counts first 0 + 1)) byte ≡ ids_with byte (take (i + 1) ids)
counted-more counts ids i first byte id h e f k =
    let within : i < length ids = slice_get_within ids i id h in
    let here : slice_index (get_or ids i []) 0 ≡ first =
    ap (λ (x : List ℕ). slice_index x 0) (get_or_from_slice_get ids i id [] h) ∙ sym e in
    ⊎_elim
    (λ (same : byte ≡ first).
    ap (λ (n : ℕ). get_or (set counts first (get_or counts first 0 + 1)) n 0) same
    ∙ get_or-set_same counts first (get_or counts first 0 + 1) 0 f
    ∙ ap (λ (n : ℕ). get_or counts n 0 + 1) (sym same)
    ∙ ap (λ (n : ℕ). n + 1) k
    ∙ sym (count_by_more_yes (λ (x : List ℕ). slice_index x 0 == byte) ids i [] within (eq-eqb _ byte (here ∙ sym same))))
    (λ (other : byte ≡ first → ⊥).
    get_or-set_other counts first byte (get_or counts first 0 + 1) 0 other
    ∙ k
    ∙ sym (count_by_more_no (λ (x : List ℕ). slice_index x 0 == byte) ids i [] within (ne_eqb _ byte (λ same.
    other (sym same ∙ here)))))
    (cases_eq byte first)

-- the first item counts, and the others
count_by-cons : {X : Type 0} (p : X → Bool) (x : X) (xs : List X) → count_by p (x ∷ xs) ≡ cond (p x) 1 0 + count_by p xs
count_by-cons p x xs = sum_by_from (λ y. cond (p y) 1 0) (0 + cond (p x) 1 0) xs ∙ ap (λ (n : ℕ). n + count_by p xs) (omega arith)

one-up_to : (n b : ℕ) → ◌≡◌ {A = ℕ} (cond (nat_le n b) 1 0) (cond (nat_lt n b) 1 0 + cond (n == b) 1 0)
one-up_to n b = grind (arith, nat_tests)

one-below : (n b : ℕ) → ◌≡◌ {A = ℕ} (cond (nat_lt n (b + 1)) 1 0) (cond (nat_le n b) 1 0)
one-below n b = grind (arith, nat_tests)

-- the ids with a first byte of at most this are those with a lesser one and those with this one
pub ids_up_to-is : (b : ℕ) (ids : List (List ℕ)) → ids_up_to b ids ≡ ids_below b ids + ids_with b ids
ids_up_to-is b [] = refl
ids_up_to-is b (id ∷ ids) =
    omega (
      arith,
      one-up_to (slice_index id 0) b,
      ids_up_to-is b ids,
      count_by-cons (λ x. nat_le (slice_index x 0) b) id ids,
      count_by-cons (λ x. nat_lt (slice_index x 0) b) id ids,
      count_by-cons (λ x. slice_index x 0 == b) id ids,
    )

pub ids_below-next : (b : ℕ) (ids : List (List ℕ)) → ids_below (b + 1) ids ≡ ids_up_to b ids
ids_below-next b [] = refl
ids_below-next b (id ∷ ids) =
    omega (
      arith,
      one-below (slice_index id 0) b,
      ids_below-next b ids,
      count_by-cons (λ x. nat_lt (slice_index x 0) (b + 1)) id ids,
      count_by-cons (λ x. nat_le (slice_index x 0) b) id ids,
    )

one-none : (n : ℕ) → ◌≡◌ {A = ℕ} (cond (nat_lt n 0) 1 0) 0
one-none n = grind (arith, nat_tests)

pub ids_below-zero : (ids : List (List ℕ)) → ids_below 0 ids ≡ 0
ids_below-zero [] = refl
ids_below-zero (id ∷ ids) =
    omega (arith, one-none (slice_index id 0), ids_below-zero ids, count_by-cons (λ x. nat_lt (slice_index x 0) 0) id ids)

-- no more ids than there are
pub ids_up_to-small : (b : ℕ) (ids : List (List ℕ)) → ids_up_to b ids ≤ length ids
ids_up_to-small b ids = count_by-le-length (λ (id : List ℕ). nat_le (slice_index id 0) b) ids

pub ids_with-small : (b i : ℕ) (ids : List (List ℕ)) → ids_with b (take i ids) ≤ i
ids_with-small b i ids =
    omega (arith, count_by-le-length (λ (id : List ℕ). slice_index id 0 == b) (take i ids), length-take i ids)

-- the next sum of the counts
pub sum-is : (ids : List (List ℕ)) (sum count byte : ℕ) → sum ≡ ids_below byte ids → count ≡ ids_with byte ids
    → sum + count ≡ ids_up_to byte ids
sum-is ids sum count byte h e = omega (arith, h, e, ids_up_to-is byte ids)

-- the fan at a byte, against the sum there
pub wrong-at : (layer : Layer) (byte number sum : ℕ) → number ≡ slice_index layer.fan byte → sum ≡ ids_up_to byte layer.ids
    → (number ≡ sum → ⊥) → wrong_fan layer byte ≡ Some (Fan byte)
wrong-at layer byte number sum h e apart =
    ap (λ (b : Bool). then_some (not b) (Fan byte)) (ne_eqb (slice_index layer.fan byte) (ids_up_to byte layer.ids) (λ same.
    apart (h ∙ same ∙ sym e)))

pub right-at : (layer : Layer) (byte number sum : ℕ) → number ≡ slice_index layer.fan byte → sum ≡ ids_up_to byte layer.ids
    → number ≡ sum → wrong_fan layer byte ≡ None
right-at layer byte number sum h e same =
    ap (λ (b : Bool). then_some (not b) (Fan byte))
    (eq-eqb (slice_index layer.fan byte) (ids_up_to byte layer.ids) (sym h ∙ same ∙ e))
