-- Filters that stand one after another, as lists.
use Rattle.std.proofs.Common.{◌≡◌, ℕ, zero, suc, ◌+◌, ◌-◌, ◌<◌, ◌≤◌, List, [], ◌∷◌, ◌++◌, map, length, take, drop, get_or}
use Rattle.std.proofs.Common.{slice_range, refl, sym, ap, ◌∙◌, arith}
use Rattle.std.specs.List.{flat_map}
use Rattle.std.proofs.lemmas.List.{drop-drop, drop_all, take-append-drop}
use Rattle.graph_format.proofs.PieceLemmas.{length-slice_range}
use Rattle.graph_levels.specs.ListEnds.{start_in}
use Rattle.graph_writer.specs.LayerPlans.{ends_from}
use Rattle.graph_writer.specs.NewFilters.{filter_count, new_filter}
use Rattle.graph_writer.specs.declared.filters.NewFilters.{NewFilters}

-- where a list begins, if the first one begins at an offset
abbrev start_from : ℕ → List ℕ → ℕ → ℕ
start_from offset ends zero = offset
start_from offset ends (suc i) = get_or ends i 0

start-next : (offset end : ℕ) (ends : List ℕ) (i : ℕ) → start_from offset (end ∷ ends) (suc i) ≡ start_from end ends i
start-next offset end ends zero = refl
start-next offset end ends (suc i) = refl

start-is : (ends : List ℕ) (i : ℕ) → start_from 0 ends i ≡ start_in ends i
unfolding start_in
start-is ends zero = refl
start-is ends (suc i) = refl

-- a part, and what follows it
part-and-rest : (bytes : List ℕ) (a b : ℕ) → a ≤ b → drop a bytes ≡ slice_range bytes a b ++ drop b bytes
part-and-rest bytes a b le =
    let sum : a + (b - a) ≡ b = omega (arith, le) in
    sym (take-append-drop (b - a) (drop a bytes))
    ∙ ap (λ (rest : List ℕ). take (b - a) (drop a bytes) ++ rest)
    (drop-drop (b - a) a bytes ∙ ap (λ (n : ℕ). drop n bytes) sum)

all-after : (bytes : List ℕ) (offset : ℕ) (ends : List ℕ) (lists : List (List ℕ)) → length ends ≡ length lists
    → ((i : ℕ) → i < length ends → start_from offset ends i ≤ get_or ends i 0)
    → ((i : ℕ) → i < length ends → get_or ends i 0 ≤ length bytes) → start_from offset ends (length ends) ≡ length bytes
    → ((i : ℕ) → i < length ends → slice_range bytes (start_from offset ends i) (get_or ends i 0) ≡ get_or lists i [])
    → (ends ≡ ends_from offset lists) × (drop offset bytes ≡ flat_map (λ list. list) lists)
all-after bytes offset [] [] size rising within closed each =
    (refl, drop_all offset bytes (omega (arith, closed)))
all-after bytes offset [] (list ∷ lists) size rising within closed each = absurd (omega (arith, size))
all-after bytes offset (end ∷ ends) [] size rising within closed each = absurd (omega (arith, size))
all-after bytes offset (end ∷ ends) (list ∷ lists) size rising within closed each =
    let first : slice_range bytes offset end ≡ list = each 0 (omega arith) in
    let up : offset ≤ end = rising 0 (omega arith) in
    let low : end ≤ length bytes = within 0 (omega arith) in
    let long : length list ≡ end - offset = ap length (sym first) ∙ length-slice_range bytes offset end low in
    let next : end ≡ offset + length list = omega (arith, long, up) in
    let rest =
    all-after bytes end ends lists (omega (arith, size))
    (λ i lt. omega (arith, start-next offset end ends i, rising (suc i) (omega (arith, lt))))
    (λ i lt. within (suc i) (omega (arith, lt)))
    (sym (start-next offset end ends (length ends)) ∙ closed)
    (λ i lt.
    ap (λ (a : ℕ). slice_range bytes a (get_or ends i 0)) (sym (start-next offset end ends i))
    ∙ each (suc i) (omega (arith, lt))) in (
      ap (λ (es : List ℕ). end ∷ es) rest.0 ∙ ap (λ (e : ℕ). e ∷ ends_from e lists) next,
      part-and-rest bytes offset end up
          ∙ ap (λ (front : List ℕ). front ++ drop end bytes) first
          ∙ ap (λ (back : List ℕ). list ++ back) rest.1,
    )

-- lists that are made of other things
pub flat-lists : {X : Type 0} (f : X → List ℕ) (xs : List X) → flat_map (λ list. list) (map f xs) ≡ flat_map f xs
flat-lists f [] = refl
flat-lists f (x ∷ xs) = ap (λ (rest : List ℕ). f x ++ rest) (flat-lists f xs)

-- filters as lists, if these are the lists
pub filters-are : (filters : NewFilters) (lists : List (List ℕ)) → filter_count filters ≡ length lists
    → ((i : ℕ) → i < filter_count filters → new_filter filters i ≡ get_or lists i [])
    → (filters.parts.ends.items ≡ ends_from 0 lists) × (filters.parts.bytes.items ≡ flat_map (λ list. list) lists)
unfolding new_filter
filters-are filters lists size each =
    let ends : List ℕ = filters.parts.ends.items in
    let bytes : List ℕ = filters.parts.bytes.items in
    all-after bytes 0 ends lists size
    (λ i lt. omega (arith, start-is ends i, filters.whole.rising i lt))
    (λ i lt. filters.whole.within i lt)
    (start-is ends (length ends) ∙ filters.whole.closed)
    (λ i lt. ap (λ (a : ℕ). slice_range bytes a (get_or ends i 0)) (start-is ends i) ∙ each i lt)
