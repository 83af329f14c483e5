-- Filters in the order of a layer: how many bytes they have.
use Rattle.std.proofs.Common.{◌≡◌, ℕ, zero, suc, ◌+◌, ◌^◌, ◌<◌, ◌≤◌, List, map, length, drop, slice_get, get_or}
use Rattle.std.proofs.Common.{Some, refl, sym, ap, ◌∙◌, ⊎_elim, arith}
use Rattle.std.specs.List.{sum_by, range_with_len}
use Rattle.std.proofs.lemmas.Bool.{cases_lt}
use Rattle.std.proofs.lemmas.List.FromFn.{sum_by-map-range_with_len_more}
use Rattle.std.proofs.lemmas.List.Sums.{sum_by-drop_more}
use Rattle.std.proofs.lemmas.Option.{slice_get-get_or, same_Some}
use Rattle.graph_format.proofs.PieceLemmas.{length-slice_range}
use Rattle.graph_levels.specs.ListEnds.{start_in}
use Rattle.graph_levels.proofs.ListLemmas.{start_after}
use Rattle.graph_writer.specs.NewFilters.{filter_count, byte_count, new_filter}
use Rattle.graph_writer.specs.SortedPlaces.{IsMixed}
use Rattle.graph_writer.specs.declared.filters.NewFilters.{NewFilters}
use Rattle.graph_writer.proofs.filter_lists.SumSteps.{sum-all}

-- how many bytes the filter of a number has
abbrev pub size_of : NewFilters → ℕ → ℕ
size_of filters i = length (new_filter filters i)

-- by where it begins and ends
size-at : (filters : NewFilters) (i : ℕ) → i < filter_count filters
    → start_in filters.parts.ends.items i + size_of filters i ≡ start_in filters.parts.ends.items (suc i)
unfolding new_filter
size-at filters i lt =
    let ends : List ℕ = filters.parts.ends.items in
    let rising = filters.whole.rising i lt in
    omega (
      arith,
      length-slice_range filters.parts.bytes.items (start_in ends i) (get_or ends i 0) (filters.whole.within i lt),
      start_after ends i,
      rising,
    )

first-start : (ends : List ℕ) → start_in ends 0 ≡ 0
unfolding start_in
first-start ends = refl

-- so many filters end where the next one begins
first-sizes : (filters : NewFilters) (n : ℕ) → n ≤ filter_count filters
    → sum_by (λ x. x) (map (size_of filters) (range_with_len 0 n)) ≡ start_in filters.parts.ends.items n
first-sizes filters zero le = sym (first-start filters.parts.ends.items)
first-sizes filters (suc n) le =
    let one_more : suc n ≡ n + 1 = omega arith in
    let last : sum_by (λ x. x) (map (size_of filters) (range_with_len 0 (suc n)))
    ≡ sum_by (λ x. x) (map (size_of filters) (range_with_len 0 (n + 1))) =
    ap (λ (m : ℕ). sum_by (λ x. x) (map (size_of filters) (range_with_len 0 m))) one_more in
    omega (
      arith,
      last,
      sum_by-map-range_with_len_more (λ x. x) (size_of filters) 0 n n (omega arith),
      first-sizes filters n (omega (arith, le)),
      size-at filters n (omega (arith, le)),
    )

closed-at : (filters : NewFilters) → start_in filters.parts.ends.items (filter_count filters) ≡ byte_count filters
closed-at filters = filters.whole.closed

-- in any order they have as many bytes
pub sizes-mixed : (filters : NewFilters) (order : List ℕ) → IsMixed (filter_count filters) order
    → sum_by (size_of filters) order ≡ byte_count filters
sizes-mixed filters order mixed =
    sum-all (size_of filters) (filter_count filters) order mixed.as_many mixed.all
    ∙ first-sizes filters (filter_count filters) (omega arith)
    ∙ closed-at filters

-- those that are left have no fewer than the next one
pub size-next : (filters : NewFilters) (order : List ℕ) (n : ℕ) → n < length order
    → size_of filters (get_or order n 0) + sum_by (size_of filters) (drop (n + 1) order)
    ≡ sum_by (size_of filters) (drop n order)
size-next filters order n lt = sym (sum_by-drop_more (size_of filters) order n 0 lt)

-- there are few bytes
pub few-bytes : (filters : NewFilters) → byte_count filters < 2 ^ 32
few-bytes filters = filters.few

-- one filter more
pub more-filters : (filters old new : NewFilters) (order filter : List ℕ) (n : ℕ) → n < length order → filter_count old ≡ n
    → ((i : ℕ) → i < filter_count old → new_filter new i ≡ new_filter old i) → new_filter new (filter_count old) ≡ filter
    → ((p i : ℕ) → p < n → slice_get order p ≡ Some i → new_filter old p ≡ new_filter filters i)
    → filter ≡ new_filter filters (get_or order n 0)
    → (p i : ℕ) → p < n + 1 → slice_get order p ≡ Some i → new_filter new p ≡ new_filter filters i
more-filters filters old new order filter n lt counted kept added before is p i le at =
    ⊎_elim
    (λ (less : p < n). kept p (omega (arith, less, counted)) ∙ before p i less at)
    (λ (not_less : n ≤ p).
    let last : p ≡ filter_count old = omega (arith, le, not_less, counted) in
    let here : slice_get order n ≡ Some (get_or order n 0) = slice_get-get_or order n 0 lt in
    let number : get_or order n 0 ≡ i =
    same_Some (get_or order n 0) i
    (sym here ∙ ap (slice_get order) (let same : n ≡ p = omega (arith, last, counted) in same) ∙ at) in
    ap (new_filter new) last ∙ added ∙ is ∙ ap (new_filter filters) number)
    (cases_lt p n)
