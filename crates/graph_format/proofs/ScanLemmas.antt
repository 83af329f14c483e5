-- laws of plain scans
use Rattle.std.proofs.Common.{◌≡◌, ℕ, ◌<◌, ◌≤◌, Bool, true, false, List, [], length, Option, Some, None, cond, get_or, ltb}
use Rattle.std.proofs.Common.{slice_get, position, bytes_eq, refl, sym, ap, ◌∙◌, arith}
use Rattle.std.specs.List.{position_or_len}
use Rattle.std.proofs.lemmas.Bool.{lt-ltb, le-ltb, ltb-false}
use Rattle.std.proofs.lemmas.List.Sums.{position_or_len_is, fails_before_first}
use Rattle.std.proofs.lemmas.List.Quantifiers.{position-Some}
use Rattle.std.proofs.lemmas.Option.{slice_get_within, get_or_from_slice_get, slice_get-get_or}
use Rattle.std.proofs.lemmas.Slice.Eq.{bytes_eq-Decides}
use Rattle.graph_format.specs.Lookup.{scan}
use Rattle.graph_format.specs.LookupLaw.{IsFirst}

false-from : (b : Bool) → (b ≡ true → ⊥) → b ≡ false
false-from true h = absurd (h refl)
false-from false h = refl

-- a position that does not hold the id does not pass the test
passed-over : (ids : List (List ℕ)) (id : List ℕ) (i : ℕ) → i < length ids → (slice_get ids i ≡ Some id → ⊥)
    → bytes_eq id (get_or ids i []) ≡ false
passed-over ids id i h not_here =
    false-from _ (λ e.
    not_here (slice_get-get_or ids i [] h ∙ ap (λ (x : List ℕ). Some x) (sym ((bytes_eq-Decides id (get_or ids i [])).0 e))))

-- the first position that holds the id
pub scan-found : (ids : List (List ℕ)) (id : List ℕ) (pos : ℕ) → slice_get ids pos ≡ Some id
    → ((i : ℕ) → i < pos → slice_get ids i ≡ Some id → ⊥) → scan ids id ≡ Some pos
unfolding scan
scan-found ids id pos here before =
    let within : pos < length ids = slice_get_within ids pos id here in
    let first : position_or_len (bytes_eq id) ids ≡ pos =
    position_or_len_is (bytes_eq id) ids pos [] (omega arith)
    (λ k h. passed-over ids id k (omega arith) (before k h))
    (λ _. (bytes_eq-Decides id (get_or ids pos [])).1 (sym (get_or_from_slice_get ids pos id [] here))) in
    ap (λ (n : ℕ). cond (ltb n (length ids)) (Some n) None) first
    ∙ ap (λ (b : Bool). cond b (Some pos) None) (lt-ltb pos (length ids) within)

-- no position holds the id
pub scan-none : (ids : List (List ℕ)) (id : List ℕ) → ((i : ℕ) → slice_get ids i ≡ Some id → ⊥) → scan ids id ≡ None
unfolding scan
scan-none ids id nowhere =
    let all = length ids in
    let first : position_or_len (bytes_eq id) ids ≡ all =
    position_or_len_is (bytes_eq id) ids all [] (omega arith)
    (λ k h. passed-over ids id k h (nowhere k))
    (λ h. absurd (omega arith)) in
    ap (λ (n : ℕ). cond (ltb n all) (Some n) None) first
    ∙ ap (λ (b : Bool). cond b (Some all) None) (le-ltb all all (omega arith))

-- what a scan answers
first-by : (ids : List (List ℕ)) (id : List ℕ) (answer : Option ℕ) → position (bytes_eq id) ids ≡ answer → IsFirst ids id answer
first-by ids id None e = λ i here.
    let within : i < length ids = slice_get_within ids i id here in
    let past : length ids ≤ position_or_len (bytes_eq id) ids = ltb-false _ _ (none-from_cond _ _ e) in
    let same : bytes_eq id (get_or ids i []) ≡ true =
    (bytes_eq-Decides id (get_or ids i [])).1 (sym (get_or_from_slice_get ids i id [] here)) in
    let differs : bytes_eq id (get_or ids i []) ≡ false = fails_before_first (bytes_eq id) ids i [] (omega arith) in
    let clash : true ≡ false = sym same ∙ differs in cc
  where
    none-from_cond : (b : Bool) (n : ℕ) → cond b (Some n) None ≡ None → b ≡ false
    none-from_cond true n h = cc
    none-from_cond false n h = refl
first-by ids id (Some pos) e =
    let is = position-Some (bytes_eq id) ids pos [] e in (
      slice_get-get_or ids pos [] is.0 ∙ ap (λ (x : List ℕ). Some x) (sym ((bytes_eq-Decides id (get_or ids pos [])).0 is.1)),
      λ i before here.
          let same : bytes_eq id (get_or ids i []) ≡ true =
          (bytes_eq-Decides id (get_or ids i [])).1 (sym (get_or_from_slice_get ids i id [] here)) in
          let clash : true ≡ false = sym same ∙ is.2 i before in cc,
    )

pub scan-first : (ids : List (List ℕ)) (id : List ℕ) → IsFirst ids id (scan ids id)
unfolding scan
scan-first ids id = first-by ids id (position (bytes_eq id) ids) refl

pub ruleset scan_laws = (scan-first)
