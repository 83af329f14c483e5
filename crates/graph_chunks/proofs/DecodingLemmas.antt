-- dates that are decoded one after another
use Rattle.std.proofs.Common.{◌≡◌, ◌==◌, ℕ, ◌+◌, ◌*◌, ◌%◌, ◌<◌, not, Bool, List, [], ◌∷◌, ◌++◌, map, length, Some, None, ap}
use Rattle.std.proofs.Common.{sym, ◌∙◌, append_assoc, zero-add}
use Rattle.std.specs.Bool.{then_some}
use Rattle.std.specs.List.{range_with_len}
use Rattle.std.specs.Option.{option_or}
use Rattle.std.proofs.lemmas.Bool.{eq-eqb}
use Rattle.std.proofs.lemmas.List.{append-nil}
use Rattle.std.proofs.lemmas.List.FromFn.{map-range_with_len_more}
use Rattle.gix_chunk_core.specs.FirstFault.{first_below}
use Rattle.gix_chunk_core.proofs.FirstFaultLemmas.{first_below-none, first_below-none_more, first_below-found}
use Rattle.graph_format.specs.OptionalChunks.{date_of, stored_dates}
use Rattle.graph_chunks.specs.StoredDates.{date_fault, dates_refusal}
use Rattle.graph_chunks.specs.declared.dates.layer.LayerDatesError.{LayerDatesError}
use Rattle.graph_chunks.specs.declared.dates.layer.LayerDatesError.TheVariants.{DataSize, OverflowSize}

-- the dates of the first n commits
unfoldable pub first_dates : List ℕ → List ℕ → List ℕ → ℕ → List ℕ
first_dates offsets overflow times n = map (date_of offsets overflow times) (range_with_len 0 n)

pub dates-none : (offsets overflow times : List ℕ) (old : List ℕ) → old ≡ old ++ first_dates offsets overflow times 0
unfolding first_dates
dates-none offsets overflow times old = sym (append-nil old)

pub dates-more : (offsets overflow times : List ℕ) (old now : List ℕ) (p : ℕ)
    → now ≡ old ++ first_dates offsets overflow times p
    → now ++ date_of offsets overflow times p ∷ [] ≡ old ++ first_dates offsets overflow times (p + 1)
unfolding first_dates
dates-more offsets overflow times old now p same =
    let date = date_of offsets overflow times p in
    ap (λ (ds : List ℕ). ds ++ date ∷ []) same
    ∙ append_assoc old (map (date_of offsets overflow times) (range_with_len 0 p)) (date ∷ [])
    ∙ ap (λ (ds : List ℕ). old ++ ds) (sym (map-range_with_len_more (date_of offsets overflow times) 0 p p (zero-add p)))

pub dates-all : (offsets overflow times : List ℕ) (old now : List ℕ) (n : ℕ) → now ≡ old ++ first_dates offsets overflow times n
    → n ≡ length times → now ≡ old ++ stored_dates offsets overflow times
unfolding first_dates stored_dates
dates-all offsets overflow times old now n same all =
    same ∙ ap (λ (m : ℕ). old ++ map (date_of offsets overflow times) (range_with_len 0 m)) all

pub date-fine : (offsets overflow times : List ℕ) (p : ℕ) → first_below (date_fault offsets overflow times) p ≡ None
    → date_fault offsets overflow times p ≡ None → first_below (date_fault offsets overflow times) (p + 1) ≡ None
date-fine offsets overflow times p none here = first_below-none_more (date_fault offsets overflow times) p none here

pub date-first : (offsets overflow times : List ℕ) → first_below (date_fault offsets overflow times) 0 ≡ None
date-first offsets overflow times = first_below-none (date_fault offsets overflow times)

-- chunks of right sizes are refused for their dates
sized : (offsets overflow times : List ℕ) → length offsets ≡ 4 * length times → length overflow % 8 ≡ 0
    → dates_refusal offsets overflow times ≡ first_below (date_fault offsets overflow times) (length times)
unfolding dates_refusal
sized offsets overflow times size whole =
    ap (λ (b : Bool). option_or (then_some (not b) DataSize) (option_or (then_some (not (length overflow % 8 == 0)) OverflowSize)
    (first_below (date_fault offsets overflow times) (length times)))) (eq-eqb _ _ size)
    ∙ ap (λ (b : Bool). option_or (then_some (not b) OverflowSize)
    (first_below (date_fault offsets overflow times) (length times))) (eq-eqb _ _ whole)

pub refused : (offsets overflow times : List ℕ) (p : ℕ) (fault : LayerDatesError) → length offsets ≡ 4 * length times
    → length overflow % 8 ≡ 0 → first_below (date_fault offsets overflow times) p ≡ None
    → date_fault offsets overflow times p ≡ Some fault → p < length times
    → dates_refusal offsets overflow times ≡ Some fault
refused offsets overflow times p fault size whole none here below =
    sized offsets overflow times size whole
    ∙ first_below-found (date_fault offsets overflow times) p (length times) fault none here below

pub not_refused : (offsets overflow times : List ℕ) (n : ℕ) → length offsets ≡ 4 * length times → length overflow % 8 ≡ 0
    → first_below (date_fault offsets overflow times) n ≡ None → n ≡ length times → dates_refusal offsets overflow times ≡ None
not_refused offsets overflow times n size whole none all =
    sized offsets overflow times size whole ∙ ap (first_below (date_fault offsets overflow times)) (sym all) ∙ none

pub ruleset decoding_laws = (dates-none, dates-more, date-fine, date-first, not_refused)
