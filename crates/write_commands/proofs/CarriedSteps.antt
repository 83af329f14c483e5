-- The layer of the commits of a graph, with their filters, has the filters of the graph.
use Rattle.std.proofs.Common.{◌≡◌, ◌≢◌, ℕ, ◌+◌, ◌-◌, ◌<◌, ◌≤◌, ◌^◌, List, Option, Some, None, length, drop}
use Rattle.std.proofs.Common.{◌↔◌, IsTrue, Bool, true, false, slice_get, get_or, sym, ap, subst, ◌∙◌, arith, ⊎_elim}
use Rattle.std.specs.Prelude.{IfSome, IfNone, IfOk, All, Result, Ok, Err}
use Rattle.std.specs.List.{sum_by}
use Rattle.std.proofs.lemmas.Bool.{cases_lt}
use Rattle.std.proofs.lemmas.List.Sums.{sum_by-drop_more}
use Rattle.std.proofs.lemmas.Option.{slice_get_within, slice_get-get_or, get_or_from_slice_get, same_Some}
use Rattle.graph_chunks.specs.GraphFilters.{graph_filters, graph_filters_refusal}
use Rattle.graph_format.specs.Layer.{Layer}
use Rattle.gix_commitgraph.specs.Graph.{graph_ids, total}
use Rattle.gix_commitgraph.proofs.layers.GraphLemmas.{counted}
use Rattle.gix_commitgraph.proofs.lookup.ElementLemmas.{some-place}
use Rattle.graph_encoder.specs.StoredNumbers.{stored_filter_numbers}
use Rattle.graph_writer.specs.NewFilters.{filter_count, byte_count, new_filter, HasFiltersOf}
use Rattle.graph_writer.specs.declared.commit.NewCommit.{NewCommit}
use Rattle.graph_writer.specs.declared.filters.NewFilters.{NewFilters}
use Rattle.write_commands.specs.CarriedFilters.{AreCarried, CarriesFilters, HoldFilters}
use Rattle.write_commands.specs.GraphCommits.{AreCommitsOf}

pub carried : (layers : List Layer) (commits : List NewCommit) (filters : Option NewFilters) (layer : Layer)
    → AreCommitsOf layers commits → AreCarried layers filters → HasFiltersOf commits filters layer
    → CarriesFilters layers layer
carried layers commits None layer are held has = record {
  each = λ can. absurd (held can);
  numbers = λ can. absurd (held can);
  none = λ cannot. has;
}
carried layers commits (Some filters) layer are held has = record {
  each = λ can p id filter at kept.
      let inside = slice_get_within (graph_ids layers) p id at in
      let place = some-place commits p (omega (arith, inside, are.as_many, (counted layers).ids)) in
      let is = are.each p place.0 place.1 in
      let found = has.each p place.0 place.1 in
      let same : place.0.id ≡ id = same_Some place.0.id id (sym is.id ∙ at) in (
        found.0,
        found.1 ∙ ap (λ (i : List ℕ). Some i) same,
        found.2 ∙ held.1.each p filter kept,
      );
  numbers = λ can top at. has.numbers ∙ sym (held.1.numbers top at);
  none = λ cannot. absurd (cannot held.0);
}

-- those that are left have as many bytes as one of them and the others
pub size-next : (all : List (List ℕ)) (n : ℕ) (filter : List ℕ) → slice_get all n ≡ Some filter
    → length filter + sum_by length (drop (n + 1) all) ≡ sum_by length (drop n all)
size-next all n filter at =
    let lt : n < length all = slice_get_within all n filter at in
    let is : get_or all n filter ≡ filter =
    same_Some (get_or all n filter) filter (sym (slice_get-get_or all n filter lt) ∙ at) in
    omega (arith, ap length is, sum_by-drop_more length all n filter lt)

-- one filter more
pub more-filters : (all : List (List ℕ)) (old new : NewFilters) (filter : List ℕ) (n : ℕ) → slice_get all n ≡ Some filter
    → filter_count old ≡ n → ((i : ℕ) → i < filter_count old → new_filter new i ≡ new_filter old i)
    → new_filter new (filter_count old) ≡ filter
    → ((p : ℕ) (f : List ℕ) → p < n → slice_get all p ≡ Some f → new_filter old p ≡ f) → (p : ℕ) (f : List ℕ) → p < n + 1
    → slice_get all p ≡ Some f → new_filter new p ≡ f
more-filters all old new filter n here counted kept added before p f le at =
    ⊎_elim
    (λ (less : p < n). kept p (omega (arith, less, counted)) ∙ before p f less at)
    (λ (not_less : n ≤ p).
    let last : p ≡ filter_count old = omega (arith, le, not_less, counted) in
    let same : n ≡ p = omega (arith, last, counted) in
    ap (new_filter new) last ∙ added ∙ same_Some filter f (sym here ∙ ap (slice_get all) same ∙ at))
    (cases_lt p n)

-- as many filters as commits
pub as-many : (layers : List Layer) (commits : List NewCommit) (filters : Option NewFilters) → AreCommitsOf layers commits
    → AreCarried layers filters → IfSome filters (λ f. filter_count f ≡ length commits)
as-many layers commits None are held = tt
as-many layers commits (Some filters) are held = held.1.as_many ∙ sym are.as_many

-- the layer that is read is the highest one
pub top-is : (layers lent : List Layer) (found top : Layer) → lent ≡ layers → found ≡ get_or lent (length lent - 1) found
    → slice_get layers (length layers - 1) ≡ Some top → found ≡ top
top-is layers lent found top same is at =
    is
    ∙ ap (λ (ls : List Layer). get_or ls (length ls - 1) found) same
    ∙ get_or_from_slice_get layers (length layers - 1) top found at

-- where there is no room for one filter more, there is none for all of them
pub no-room : (all : List (List ℕ)) (gathered : NewFilters) (filter : List ℕ) (n : ℕ) (b : Bool)
    → slice_get all n ≡ Some filter → (IsTrue b ↔ (byte_count gathered + length filter < 2 ^ 32)) → b ≡ false
    → byte_count gathered + sum_by length (drop n all) ≡ sum_by length all → 2 ^ 32 ≤ sum_by length all
no-room all gathered filter n b at told is_false whole =
    ⊎_elim
    (λ (less : byte_count gathered + length filter < 2 ^ 32).
    let room : b ≡ true = told.1 less in
    absurd (cc))
    (λ (many : 2 ^ 32 ≤ byte_count gathered + length filter). omega (arith, many, whole, size-next all n filter at))
    (cases_lt (byte_count gathered + length filter) (2 ^ 32))

-- what is carried, by what was gathered
carry : (layers : List Layer) (all : List (List ℕ)) (found : Option NewFilters) → 0 < total layers
    → All (λ layer. stored_filter_numbers layer ≢ None) layers → graph_filters_refusal layers ≡ None → all ≡ graph_filters layers
    → IfSome found (HoldFilters layers all) → IfSome found (λ _. sum_by length all < 2 ^ 32)
    → IfNone found (2 ^ 32 ≤ sum_by length all) → AreCarried layers found
carry layers all None some each right same held room none =
    λ can. absurd (omega (arith, can.room, none, ap (sum_by length) same))
carry layers all (Some filters) some each right same held room none = (
  record { commits = some; each = each; right = right; room = omega (arith, room, ap (sum_by length) same) },
  subst (λ (xs : List (List ℕ)). HoldFilters layers xs filters) same held,
)

pub carry-ok : {E : Type 0} (layers : List Layer) (all : List (List ℕ)) (found : Result (Option NewFilters) E) → 0 < total layers
    → All (λ layer. stored_filter_numbers layer ≢ None) layers → graph_filters_refusal layers ≡ None → all ≡ graph_filters layers
    → IfOk found (λ o. IfSome o (HoldFilters layers all)) → IfOk found (λ o. IfSome o (λ _. sum_by length all < 2 ^ 32))
    → IfOk found (λ o. IfNone o (2 ^ 32 ≤ sum_by length all)) → IfOk found (AreCarried layers)
carry-ok layers all (Ok found) some each right same held room none =
    carry layers all found some each right same held room none
carry-ok layers all (Err e) some each right same held room none = tt
