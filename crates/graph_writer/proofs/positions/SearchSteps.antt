-- A search for an id among those of commits, in their order.
use Rattle.std.proofs.Common.{◌≡◌, ℕ, ◌<◌, ◌≤◌, List, [], Option, Some, None, false, length, slice_get, option_map, get_or}
use Rattle.std.proofs.Common.{◌+◌, refl, sym, ap, ◌∙◌, ⊎_elim, arith}
use Rattle.std.specs.Prelude.{is_none}
use Rattle.std.specs.Ordering.{nat_cmp, ordering_reverse, is_eq}
use Rattle.std.specs.Cmp.Lexicographic.{slice_cmp}
use Rattle.std.specs.declared.cmp.Ordering.TheVariants.{Less, Equal, Greater}
use Rattle.std.proofs.lemmas.Bool.{cases_lt}
use Rattle.std.proofs.lemmas.Cmp.{nat_list_cmp_total}
use Rattle.std.proofs.lemmas.List.{length-map}
use Rattle.std.proofs.lemmas.Map.Text.{is_eq-slice_cmp}
use Rattle.std.proofs.lemmas.Option.{slice_get_within, slice_get-get_or, get_or_from_slice_get, slice_get-map, same_Some}
use Rattle.std.proofs.lemmas.Slice.Eq.{bytes_eq-Decides}
use Rattle.gix_commitgraph.proofs.lookup.ElementLemmas.{some-place, all-at}
use Rattle.graph_format.specs.Lookup.{scan}
use Rattle.graph_format.proofs.ScanLemmas.{scan-none}
use Rattle.graph_writer.specs.NewCommits.{new_ids}
use Rattle.graph_writer.specs.NewLayers.{ids_in_order}
use Rattle.graph_writer.specs.SortedPlaces.{IsOrder}
use Rattle.graph_writer.specs.declared.commit.NewCommit.{NewCommit}
use Rattle.graph_writer.proofs.positions.MixedSteps.{place-of, not-less_itself}
use Rattle.graph_writer.proofs.positions.NewIdSteps.{scan-misses}

-- All ids before a place are less than this one.
abbrev pub AreLessTo : List (List ℕ) → List ℕ → ℕ → Type 0
AreLessTo ids id n = (j : ℕ) (other : List ℕ) → j < n → slice_get ids j ≡ Some other → slice_cmp nat_cmp other id ≡ Less

-- All from a place on are greater.
abbrev pub AreGreaterFrom : List (List ℕ) → List ℕ → ℕ → Type 0
AreGreaterFrom ids id n = (j : ℕ) (other : List ℕ) → n ≤ j → slice_get ids j ≡ Some other → slice_cmp nat_cmp id other ≡ Less

pub same-id : (a b : List ℕ) → slice_cmp nat_cmp a b ≡ Equal → a ≡ b
same-id a b same = (bytes_eq-Decides a b).0 (sym (is_eq-slice_cmp a b) ∙ ap is_eq same)

module _ (commits : List NewCommit) (order : List ℕ) (is : IsOrder commits order) where
  rises : (i j : ℕ) (a b : List ℕ) → i < j → slice_get (ids_in_order commits order) i ≡ Some a
      → slice_get (ids_in_order commits order) j ≡ Some b → slice_cmp nat_cmp a b ≡ Less
  rises i j a b lt first second =
      let ids = ids_in_order commits order in
      ap (λ (x : List ℕ). slice_cmp nat_cmp x b) (sym (get_or_from_slice_get ids i a [] first))
      ∙ ap (slice_cmp nat_cmp (get_or ids i [])) (sym (get_or_from_slice_get ids j b [] second))
      ∙ is.ascending i j [] lt (slice_get_within ids j b second)

  pub less-to : (id here : List ℕ) (m : ℕ) → slice_get (ids_in_order commits order) m ≡ Some here
      → slice_cmp nat_cmp here id ≡ Less → AreLessTo (ids_in_order commits order) id (m + 1)
  less-to id here m at less j other lt at_j =
      ⊎_elim
      (λ (before : j < m). nat_list_cmp_total.trans other here id (rises j m other here before at_j at) less)
      (λ (not_before : m ≤ j).
      let number : m ≡ j = omega arith in
      let same : here ≡ other =
      same_Some here other (sym at ∙ ap (slice_get (ids_in_order commits order)) number ∙ at_j) in
      ap (λ (x : List ℕ). slice_cmp nat_cmp x id) (sym same) ∙ less)
      (cases_lt j m)

  pub greater-from : (id here : List ℕ) (m : ℕ) → slice_get (ids_in_order commits order) m ≡ Some here
      → slice_cmp nat_cmp here id ≡ Greater → AreGreaterFrom (ids_in_order commits order) id m
  greater-from id here m at greater j other le at_j =
      let less : slice_cmp nat_cmp id here ≡ Less = nat_list_cmp_total.antisymm id here ∙ ap ordering_reverse greater in
      ⊎_elim
      (λ (after : m < j). nat_list_cmp_total.trans id here other less (rises m j here other after at at_j))
      (λ (not_after : j ≤ m).
      let number : m ≡ j = omega arith in
      let same : here ≡ other =
      same_Some here other (sym at ∙ ap (slice_get (ids_in_order commits order)) number ∙ at_j) in
      ap (slice_cmp nat_cmp id) (sym same) ∙ less)
      (cases_lt m j)

  -- where the two meet, no commit has the id
  pub none-between : (id : List ℕ) (low high : ℕ) → high ≤ low → AreLessTo (ids_in_order commits order) id low
      → AreGreaterFrom (ids_in_order commits order) id high → scan (new_ids commits) id ≡ None
  none-between id low high meet before after =
      scan-none (new_ids commits) id
      (λ i here.
      let p = place-of commits order is i id here in
      ⊎_elim
      (λ (lower : p.0 < low). not-less_itself id (before p.0 id lower p.2))
      (λ (upper : low ≤ p.0). not-less_itself id (after p.0 id (omega (arith, meet, upper)) p.2))
      (cases_lt p.0 low))

  -- an id that stands in the order is that of a commit
  pub number-at : (p : ℕ) (id : List ℕ) → slice_get (ids_in_order commits order) p ≡ Some id
      → (i : ℕ) × (slice_get (new_ids commits) i ≡ Some id)
  number-at p id at =
      let within : p < length order =
      omega (
        arith,
        slice_get_within (ids_in_order commits order) p id at,
        length-map order (λ n. get_or (new_ids commits) n []),
      ) in
      let number = some-place order p within in
      let inside : number.0 < length (new_ids commits) =
      omega (
        arith,
        all-at (λ i. i < length commits) order p number.0 is.mixed.each number.1,
        length-map commits (λ (c : NewCommit). c.id),
      ) in (
        number.0,
        slice_get-get_or (new_ids commits) number.0 [] inside
            ∙ sym (slice_get-map (λ n. get_or (new_ids commits) n []) order p
            ∙ ap (option_map (λ n. get_or (new_ids commits) n [])) number.1)
            ∙ at,
      )

  -- so it is found
  pub known-at : (p : ℕ) (id : List ℕ) → slice_get (ids_in_order commits order) p ≡ Some id
      → is_none (scan (new_ids commits) id) ≡ false
  known-at p id at = by-cases (scan (new_ids commits) id) refl
    where
      number : (i : ℕ) × (slice_get (new_ids commits) i ≡ Some id)
      number = number-at p id at

      by-cases : (answer : Option ℕ) → scan (new_ids commits) id ≡ answer → is_none (scan (new_ids commits) id) ≡ false
      by-cases None none = absurd (scan-misses (new_ids commits) id number.0 none number.1)
      by-cases (Some i) some = ap is_none some

-- and its place is one of the order
pub place-within : (commits : List NewCommit) (order : List ℕ) (p : ℕ) (id : List ℕ) → IsOrder commits order
    → slice_get (ids_in_order commits order) p ≡ Some id → p < length commits
place-within commits order p id is at =
    omega (
      arith,
      slice_get_within (ids_in_order commits order) p id at,
      length-map order (λ n. get_or (new_ids commits) n []),
      is.mixed.as_many,
    )
