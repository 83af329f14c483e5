-- laws of the conditions that refuse a table of chunks
use Rattle.std.proofs.Common.{add-sub_cancel, ◌≡◌, ◌≢◌, ℕ, ◌+◌, ◌-◌, ◌<◌, ◌≤◌, Bool, true, false, ◌&&◌, List, bytes_eq, get_or}
use Rattle.std.proofs.Common.{None, refl, ◌∙◌, ⊎_elim, arith, zero-add}
use Rattle.std.specs.Prelude.{length, nat_lt}
use Rattle.std.specs.Bool.{then_some}
use Rattle.std.specs.List.{range_with_len}
use Rattle.std.proofs.lemmas.Bool.{not-false, not_from_true, false_from_ne_true, both_ways, ltb-false, le-ltb, lt-ltb, cases_eq}
use Rattle.std.proofs.lemmas.List.Folds.{list_any_at, list_any_none}
use Rattle.std.proofs.lemmas.List.Elements.{All-from_get_or}
use Rattle.std.proofs.lemmas.List.FromFn.{length-range_with_len, get_or-range_with_len}
use Rattle.std.proofs.lemmas.Slice.Eq.{bytes_eq-Decides}
use Rattle.gix_chunk_core.specs.Entry.{entry_at, end_id}
use Rattle.gix_chunk_core.specs.Fault.{has_earlier, passes, falls, offset_fault, entry_fault, end_fault}
use Rattle.gix_chunk_core.specs.declared.error.ChunkError.TheVariants.{EarlyEnd, Duplicate, OutOfFile}
use Rattle.gix_chunk_core.proofs.FirstFaultLemmas.{option_or-none, option_or-none_left, option_or-none_right, then_some-none}
use Rattle.gix_chunk_core.proofs.FirstFaultLemmas.{then_some-false}

pub same-bytes : (xs ys : List ℕ) → bytes_eq xs ys ≡ true → xs ≡ ys
same-bytes xs ys h = (bytes_eq-Decides xs ys).0 h

pub other-bytes : (xs ys : List ℕ) → xs ≢ ys → bytes_eq xs ys ≡ false
other-bytes xs ys apart = false_from_ne_true _ (λ same. apart (same-bytes xs ys same))

pub apart-bytes : (xs ys : List ℕ) → bytes_eq xs ys ≡ false → xs ≢ ys
apart-bytes xs ys h same = both_ways _ h ((bytes_eq-Decides xs ys).1 same)

-- entry j has the id of entry i
abbrev same_id : List ℕ → ℕ → ℕ → ℕ → Bool
same_id bytes at i j = bytes_eq (entry_at bytes at j).id (entry_at bytes at i).id

-- an entry before entry i has the same id
pub has_earlier-at : (bytes : List ℕ) (at i j : ℕ) → j < i → (entry_at bytes at j).id ≡ (entry_at bytes at i).id
    → has_earlier bytes at i ≡ true
unfolding has_earlier
has_earlier-at bytes at i j k same =
    let within : j < length (range_with_len 0 i) = rw (length-range_with_len 0 i) k in
    let is : get_or (range_with_len 0 i) j j ≡ j = get_or-range_with_len 0 i j j k ∙ zero-add j in
    list_any_at (same_id bytes at i) (range_with_len 0 i) j j within (rw is ((bytes_eq-Decides _ _).1 same))

-- no entry before entry i has the same id
pub has_earlier-none : (bytes : List ℕ) (at i : ℕ) → ((j : ℕ) → j < i → (entry_at bytes at j).id ≢ (entry_at bytes at i).id)
    → has_earlier bytes at i ≡ false
unfolding has_earlier
has_earlier-none bytes at i apart =
    list_any_none (same_id bytes at i) (range_with_len 0 i)
    (All-from_get_or (λ j. same_id bytes at i j ≡ false) (range_with_len 0 i) 0 (λ j within.
    let k : j < i = rw (length-range_with_len 0 i) at within in
    let is : get_or (range_with_len 0 i) j 0 ≡ j = get_or-range_with_len 0 i j 0 k ∙ zero-add j in
    rw is (other-bytes _ _ (apart j k))))

pub distinct-from : (bytes : List ℕ) (at i j : ℕ) → i < j → has_earlier bytes at j ≡ false
    → (entry_at bytes at i).id ≢ (entry_at bytes at j).id
distinct-from bytes at i j k h same = both_ways _ h (has_earlier-at bytes at j i k same)

-- an offset that does not fall
pub rises-from : (bytes : List ℕ) (at i : ℕ) → falls bytes at (i + 1) ≡ false
    → (entry_at bytes at i).offset ≤ (entry_at bytes at (i + 1)).offset
rises-from bytes at i h = ltb-false _ _ (rw (lt-ltb 0 (i + 1) (omega arith), add-sub_cancel i 1) at h)

both-false : (b : Bool) → (b && false) ≡ false
both-false true = refl
both-false false = refl

pub falls-false : (bytes : List ℕ) (at i : ℕ) → (0 < i → (entry_at bytes at (i - 1)).offset ≤ (entry_at bytes at i).offset)
    → falls bytes at i ≡ false
falls-false bytes at i h = ⊎_elim
    (λ (first : i ≡ 0). rw first refl)
    (λ (later : i ≡ 0 → ⊥). rw (le-ltb _ _ (h (omega (arith, later)))) (both-false (nat_lt 0 i)))
    (cases_eq i 0)

-- What an entry is that has no fault of its place.
pub record IsPlaced (bytes : List ℕ) (at i : ℕ) : Type 0 where
  pub in_file : passes bytes at i ≡ false
  pub rises : falls bytes at i ≡ false

-- What a chunk's entry is that has no fault.
pub record IsRight (bytes : List ℕ) (at i : ℕ) : Type 0 where
  pub named : bytes_eq (entry_at bytes at i).id end_id ≡ false
  pub first : has_earlier bytes at i ≡ false
  pub placed : IsPlaced bytes at i

offset_fault-none : (bytes : List ℕ) (at i : ℕ) → offset_fault bytes at i ≡ None → IsPlaced bytes at i
unfolding offset_fault
offset_fault-none bytes at i h = record {
  in_file = then_some-none _ _ (option_or-none_left _ _ h);
  rises = then_some-none _ _ (option_or-none_right (then_some (passes bytes at i) (OutOfFile i)) _ h);
}

pub entry_fault-none : (bytes : List ℕ) (at i : ℕ) → entry_fault bytes at i ≡ None → IsRight bytes at i
unfolding entry_fault
entry_fault-none bytes at i h =
    let rest1 = option_or-none_right (then_some (bytes_eq (entry_at bytes at i).id end_id) (EarlyEnd i)) _ h in
    let rest2 = option_or-none_right (then_some (has_earlier bytes at i) (Duplicate (entry_at bytes at i).id)) _ rest1 in
    record {
      named = then_some-none _ _ (option_or-none_left _ _ h);
      first = then_some-none _ _ (option_or-none_left _ _ rest1);
      placed = offset_fault-none bytes at i rest2;
    }

pub end_fault-none : (bytes : List ℕ) (at i : ℕ) → end_fault bytes at i ≡ None → IsPlaced bytes at i
    × ((entry_at bytes at i).id ≡ end_id)
unfolding end_fault
end_fault-none bytes at i h = (
  offset_fault-none bytes at i (option_or-none_left _ _ h),
  same-bytes _ _ (not-false _ (then_some-none _ _ (option_or-none_right (offset_fault bytes at i) _ h))),
)

offset_fault-free : (bytes : List ℕ) (at i : ℕ) → IsPlaced bytes at i → offset_fault bytes at i ≡ None
unfolding offset_fault
offset_fault-free bytes at i placed = option_or-none _ _ (then_some-false _ _ placed.in_file) (then_some-false _ _ placed.rises)

pub entry_fault-free : (bytes : List ℕ) (at i : ℕ) → IsRight bytes at i → entry_fault bytes at i ≡ None
unfolding entry_fault
entry_fault-free bytes at i right =
    option_or-none _ _ (then_some-false _ _ right.named)
    (option_or-none _ _ (then_some-false _ _ right.first) (offset_fault-free bytes at i right.placed))

pub end_fault-free : (bytes : List ℕ) (at i : ℕ) → IsPlaced bytes at i → (entry_at bytes at i).id ≡ end_id
    → end_fault bytes at i ≡ None
unfolding end_fault
end_fault-free bytes at i placed ended =
    option_or-none _ _ (offset_fault-free bytes at i placed)
    (then_some-false _ _ (not_from_true _ ((bytes_eq-Decides _ _).1 ended)))
