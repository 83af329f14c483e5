-- The plan for commits is the one for them in another order.
use Rattle.std.proofs.Common.{◌≡◌, ℕ, zero, suc, ◌<◌, ◌≤◌, List, [], ◌∷◌, map, length, IsSomeAnd, slice_get, take}
use Rattle.std.proofs.Common.{Option, Some, None, option_map, refl, sym, ap, ◌∙◌, ⊎_elim, arith}
use Rattle.std.specs.Prelude.{MatchOption}
use Rattle.std.specs.List.{flat_map, range_with_len, zip}
use Rattle.std.specs.List.Sorted.{IsPermutation}
use Rattle.std.specs.Option.{option_map_or}
use Rattle.std.proofs.lemmas.Bool.{and_parts, cases_lt, eqb-true}
use Rattle.std.proofs.lemmas.List.{length-map, same_lists}
use Rattle.std.proofs.lemmas.List.Sorted.{IsPermutation-sym}
use Rattle.std.proofs.lemmas.Option.{slice_get_within, slice_get-map, get_or_from_slice_get, same_Some, none-some}
use Rattle.gix_hash_core.specs.Kind.{id_len}
use Rattle.gix_hash_core.specs.declared.kind.Kind.{Kind}
use Rattle.gix_hash_core.specs.declared.kind.Kind.TheVariants.{Sha1, Sha256}
use Rattle.gix_chunk_core.proofs.FirstFaultLemmas.{first_below-none_at, otherwise-none}
use Rattle.graph_format.specs.Layer.{Layer}
use Rattle.graph_format.specs.Lookup.{scan}
use Rattle.graph_format.proofs.PieceLemmas.{get-map-range}
use Rattle.graph_format.proofs.ScanLemmas.{scan-found}
use Rattle.gix_commitgraph.proofs.lookup.ElementLemmas.{some-place}
use Rattle.graph_encoder.specs.Written.{ids_of}
use Rattle.graph_encoder.specs.declared.filters.PlanFilters.{PlanFilters}
use Rattle.graph_encoder.specs.declared.plan.FilePlan.{FilePlan}
use Rattle.graph_encoder.specs.declared.plan.PlanCommit.{PlanCommit}
use Rattle.graph_writer.specs.LayerPlans.{IsPlanFor, PlansCommit, PlansFilters, filter_for, graph_ids_with, ends_from}
use Rattle.graph_writer.specs.NewCommits.{new_ids}
use Rattle.graph_writer.specs.NewFilters.{new_filter, filter_numbers}
use Rattle.graph_writer.specs.Reordered.{with_filters, AreReordered}
use Rattle.graph_writer.specs.WrittenFiles.{IsPlannedFile}
use Rattle.graph_writer.specs.WritingRefusal.{AreAccepted}
use Rattle.graph_writer.specs.WriteRefusal.{new_layer_refusal, kind_to_write, kind_of_id, twice_at}
use Rattle.graph_writer.specs.declared.commit.NewCommit.{NewCommit}
use Rattle.graph_writer.specs.declared.filters.NewFilters.{NewFilters}
use Rattle.graph_writer.proofs.layers.AcceptedSteps.{accepted}
use Rattle.graph_writer.proofs.levels.DateSteps.{zip-at}
use Rattle.graph_writer.proofs.filter_lists.FilterLists.{flat-lists}
use Rattle.graph_writer.proofs.positions.NewIdSteps.{id-at, scan-holds, scan-misses, twice-from}
use Rattle.graph_writer.proofs.positions.NumberSteps.{get-take}
use Rattle.graph_writer.proofs.positions.PlaceSteps.{moved}
use Rattle.graph_writer.proofs.plans.PlanForSteps.{and-some}
use Rattle.graph_writer.proofs.layers.RefusalSteps.{own_fault, twice_fault}
use Rattle.graph_writer.proofs.plans.UniqueSteps.{one-file}
use Rattle.graph_writer.proofs.layers.WrittenSteps.{some-and}

-- what stands in each of two lists, where it stands in both together
unzip-at : {X Y : Type 0} (xs : List X) (ys : List Y) (i : ℕ) (x : X) (y : Y) → slice_get (zip xs ys) i ≡ Some (x, y)
    → (slice_get xs i ≡ Some x) × (slice_get ys i ≡ Some y)
unzip-at [] ys i x y here = absurd (none-some _ here)
unzip-at (a ∷ xs) [] i x y here = absurd (none-some _ here)
unzip-at {X} {Y} (a ∷ xs) (b ∷ ys) zero x y here =
    let both : (a, b) ≡ (x, y) = same_Some (a, b) (x, y) here in
    (ap (λ (pair : X × Y). Some pair.0) both, ap (λ (pair : X × Y). Some pair.1) both)
unzip-at (a ∷ xs) (b ∷ ys) (suc i) x y here = unzip-at xs ys i x y here

-- the filter that is handed in with a commit
abbrev filter_at : Option NewFilters → ℕ → Option (List ℕ)
filter_at filters i = option_map (λ (f : NewFilters). new_filter f i) filters

filters-at : (commits : List NewCommit) (filters : Option NewFilters) (i : ℕ) → i < length commits
    → slice_get (map (filter_at filters) (range_with_len 0 (length commits))) i ≡ Some (filter_at filters i)
filters-at commits filters i lt =
    get-map-range (filter_at filters) 0 (length commits) i (omega (arith, lt))
    ∙ ap (λ (n : ℕ). Some (filter_at filters n)) (omega arith)

-- the commits that are handed in stand in the other order, each with its filter
same-place : (commits others : List NewCommit) (filters other_filters : Option NewFilters)
    → IsPermutation (with_filters commits filters) (with_filters others other_filters) → (i : ℕ) (commit : NewCommit)
    → slice_get commits i ≡ Some commit
    → (q : ℕ) × (slice_get others q ≡ Some commit) × (filter_at filters i ≡ filter_at other_filters q)
same-place commits others filters other_filters moves i commit here =
    let lt = slice_get_within commits i commit here in
    let found =
    moved (with_filters commits filters) (with_filters others other_filters) i (commit, filter_at filters i) moves
    (zip-at commits (map (filter_at filters) (range_with_len 0 (length commits))) i commit (filter_at filters i) here
    (filters-at commits filters i lt)) in
    let parts =
    unzip-at others (map (filter_at other_filters) (range_with_len 0 (length others))) found.0 commit (filter_at filters i)
    found.1 in (
      found.0,
      parts.0,
      same_Some (filter_at filters i) (filter_at other_filters found.0)
          (sym parts.1 ∙ filters-at others other_filters found.0 (slice_get_within others found.0 commit parts.0)),
    )

-- the kind of an id by its length
kind-by-length : (kind : Kind) (id : List ℕ) → length id ≡ id_len kind → kind_of_id id ≡ kind
kind-by-length Sha1 id is = rw is refl
kind-by-length Sha256 id is = rw is refl

module _ (layers : List Layer) (commits : List NewCommit) (none : new_layer_refusal layers commits ≡ None) where
  none-twice : twice_fault layers commits ≡ None
  unfolding new_layer_refusal
  none-twice =
      let twice = (otherwise-none (own_fault layers commits) _ none).1 in
      (otherwise-none (twice_fault layers commits) _ twice).0

  not-earlier : (i j : ℕ) (id : List ℕ) → j < i → slice_get (new_ids commits) i ≡ Some id
      → slice_get (new_ids commits) j ≡ Some id → ⊥
  not-earlier i j id lt here earlier =
      by-cases (scan (take i (new_ids commits)) id) refl
    where
      within : i < length commits
      within = omega (arith, slice_get_within (new_ids commits) i id here, length-map commits (λ (c : NewCommit). c.id))

      by-cases : (answer : Option ℕ) → scan (take i (new_ids commits)) id ≡ answer → ⊥
      by-cases None is = scan-misses (take i (new_ids commits)) id j is (get-take (new_ids commits) i j lt ∙ earlier)
      by-cases (Some k) is =
          none-some _
          (sym (first_below-none_at (twice_at commits) i (length commits) none-twice within)
          ∙ twice-from commits i id (Some k) here is)

  -- no two commits have one id
  one-number : (i j : ℕ) (id : List ℕ) → slice_get (new_ids commits) i ≡ Some id → slice_get (new_ids commits) j ≡ Some id
      → i ≡ j
  one-number i j id here there =
      ⊎_elim
      (λ (less : i < j). absurd (not-earlier j i id less there here))
      (λ (not_less : j ≤ i).
      ⊎_elim
      (λ (more : j < i). absurd (not-earlier i j id more here there))
      (λ (not_more : i ≤ j). omega (arith, not_less, not_more))
      (cases_lt j i))
      (cases_lt i j)

  same-kind : (others : List NewCommit) (filters other_filters : Option NewFilters)
      → IsPermutation (with_filters commits filters) (with_filters others other_filters)
      → kind_to_write layers commits ≡ kind_to_write layers others
  same-kind others filters other_filters moves =
      by-layers layers commits others none
      (λ i c here. let found = same-place commits others filters other_filters moves i c here in (found.0, found.1))
      (λ i c here.
      let found =
      same-place others commits other_filters filters (IsPermutation-sym _ _ moves) i c here in (found.0, found.1))
    where
      by-layers : (ls : List Layer) (cs ds : List NewCommit) → new_layer_refusal ls cs ≡ None
          → ((i : ℕ) (c : NewCommit) → slice_get cs i ≡ Some c → (q : ℕ) × (slice_get ds q ≡ Some c))
          → ((i : ℕ) (c : NewCommit) → slice_get ds i ≡ Some c → (q : ℕ) × (slice_get cs q ≡ Some c))
          → kind_to_write ls cs ≡ kind_to_write ls ds
      by-layers (layer ∷ ls) cs ds right there back = refl
      by-layers [] [] [] right there back = refl
      by-layers [] [] (d ∷ ds) right there back =
          absurd (omega (arith, slice_get_within [] (back 0 d refl).0 d (back 0 d refl).1))
      by-layers [] (c ∷ cs) [] right there back =
          absurd (omega (arith, slice_get_within [] (there 0 c refl).0 c (there 0 c refl).1))
      by-layers [] (c ∷ cs) (d ∷ ds) right there back =
          let found = back 0 d refl in
          let own = accepted [] (c ∷ cs) right found.0 d found.1 in
          let kinds = (and_parts _ _ (and_parts _ _ own.kinds).0).0 in
          let long : length d.id ≡ id_len (kind_of_id c.id) = eqb-true (length d.id) (id_len (kind_of_id c.id)) kinds in
          sym (kind-by-length (kind_of_id c.id) d.id long)

  module _ (others : List NewCommit) (plan : FilePlan) where
    same-filter : (f g : NewFilters)
        → IsPermutation (with_filters commits (Some f)) (with_filters others (Some g)) → (i : ℕ) (commit : NewCommit)
        → slice_get commits i ≡ Some commit → filter_for commits f commit.id ≡ filter_for others g commit.id
    same-filter f g moves i commit here =
        ap (λ (o : Option ℕ). option_map_or (new_filter f) o [])
        (scan-found (new_ids commits) commit.id i at (λ j before earlier. not-earlier i j commit.id before at earlier))
        ∙ by-cases (scan (new_ids others) commit.id) refl
      where
        at : slice_get (new_ids commits) i ≡ Some commit.id
        at = id-at commits i commit here

        by-cases : (answer : Option ℕ) → scan (new_ids others) commit.id ≡ answer
            → new_filter f i ≡ filter_for others g commit.id
        by-cases None is =
            let found = same-place commits others (Some f) (Some g) moves i commit here in
            absurd (scan-misses (new_ids others) commit.id found.0 is (id-at others found.0 commit found.1))
        by-cases (Some q) is =
            let held = scan-holds (new_ids others) commit.id q is in
            let other =
            some-place others q
            (omega (
              arith,
              slice_get_within (new_ids others) q commit.id held,
              length-map others (λ (c : NewCommit). c.id),
            )) in
            let id : other.0.id ≡ commit.id =
            same_Some other.0.id commit.id (sym (id-at others q other.0 other.1) ∙ held) in
            let back = same-place others commits (Some g) (Some f) (IsPermutation-sym _ _ moves) q other.0 other.1 in
            let number : back.0 ≡ i =
            one-number back.0 i commit.id
            (id-at commits back.0 other.0 back.1 ∙ ap (λ (x : List ℕ). Some x) id) at in
            ap (new_filter f) (sym number)
            ∙ sym (same_Some (new_filter g q) (new_filter f back.0) back.2)
            ∙ sym (ap (λ (o : Option ℕ). option_map_or (new_filter g) o []) is)

    module _ (only : (p : ℕ) (planned : PlanCommit) → slice_get plan.commits.items p ≡ Some planned
        → (i : ℕ) × IsSomeAnd (slice_get commits i) (λ commit. PlansCommit (graph_ids_with layers plan) commit planned)) where
      same-lists : (f g : NewFilters) → IsPermutation (with_filters commits (Some f)) (with_filters others (Some g))
          → map (filter_for commits f) (ids_of plan.commits.items) ≡ map (filter_for others g) (ids_of plan.commits.items)
      same-lists f g moves =
          let ids : List (List ℕ) = ids_of plan.commits.items in
          let one : List ℕ → List ℕ = filter_for commits f in
          let other : List ℕ → List ℕ = filter_for others g in
          same_lists (map one ids) (map other ids) (length-map ids one ∙ sym (length-map ids other))
          (λ p d lt.
          let c =
          some-place plan.commits.items p
          (omega (arith, lt, length-map ids one, length-map plan.commits.items (λ (x : PlanCommit). x.id))) in
          let handed = only p c.0 c.1 in
          let commit = some-and _ _ handed.1 in
          let id : slice_get ids p ≡ Some commit.0.id =
          slice_get-map (λ (x : PlanCommit). x.id) plan.commits.items p
          ∙ ap (option_map (λ (x : PlanCommit). x.id)) c.1
          ∙ ap (λ (x : List ℕ). Some x) commit.2.id in
          get_or_from_slice_get (map one ids) p (one commit.0.id) d (slice_get-map one ids p ∙ ap (option_map one) id)
          ∙ same-filter f g moves handed.0 commit.0 commit.1
          ∙ sym
          (get_or_from_slice_get (map other ids) p (other commit.0.id) d
          (slice_get-map other ids p ∙ ap (option_map other) id)))

      same-plans : (f g : NewFilters) (planned : PlanFilters) → filter_numbers f ≡ filter_numbers g
          → IsPermutation (with_filters commits (Some f)) (with_filters others (Some g))
          → PlansFilters commits f (ids_of plan.commits.items) planned
          → PlansFilters others g (ids_of plan.commits.items) planned
      same-plans f g planned numbers moves is =
          let ids : List (List ℕ) = ids_of plan.commits.items in
          let lists = same-lists f g moves in
          record {
            numbers = is.numbers ∙ numbers;
            ends = is.ends ∙ ap (ends_from 0) lists;
            bytes =
                is.bytes
                ∙ sym (flat-lists (filter_for commits f) ids)
                ∙ ap (flat_map (λ (list : List ℕ). list)) lists
                ∙ flat-lists (filter_for others g) ids;
          }

      same-filters : (filters other_filters : Option NewFilters)
          → IsPermutation (with_filters commits filters) (with_filters others other_filters)
          → option_map filter_numbers filters ≡ option_map filter_numbers other_filters
          → MatchOption filters (plan.filters ≡ None)
          (λ handed. IsSomeAnd plan.filters (PlansFilters commits handed (ids_of plan.commits.items)))
          → MatchOption other_filters (plan.filters ≡ None)
          (λ handed. IsSomeAnd plan.filters (PlansFilters others handed (ids_of plan.commits.items)))
      same-filters None None moves numbers is = is
      same-filters None (Some g) moves numbers is = absurd (none-some _ numbers)
      same-filters (Some f) None moves numbers is = absurd (none-some _ (sym numbers))
      same-filters (Some f) (Some g) moves numbers is =
          let found = some-and _ _ is in
          and-some plan.filters (PlansFilters others g (ids_of plan.commits.items)) found.0 found.1
          (same-plans f g found.0 (same_Some (filter_numbers f) (filter_numbers g) numbers) moves found.2)

  pub reordered : (filters : Option NewFilters) (others : List NewCommit) (other_filters : Option NewFilters)
      → AreReordered commits filters others other_filters → (plan : FilePlan) → IsPlanFor layers commits filters plan
      → IsPlanFor layers others other_filters plan
  reordered filters others other_filters are plan is = record {
    kind = is.kind ∙ same-kind others filters other_filters are.moved;
    bases = is.bases;
    ascending = is.ascending;
    all = λ q commit here.
        let found =
        same-place others commits other_filters filters (IsPermutation-sym _ _ are.moved) q commit here in
        is.all found.0 commit found.1;
    only = λ p planned here.
        let handed = is.only p planned here in
        let commit = some-and _ _ handed.1 in
        let found = same-place commits others filters other_filters are.moved handed.0 commit.0 commit.1 in (
          found.0,
          and-some (slice_get others found.0) (λ (c : NewCommit). PlansCommit (graph_ids_with layers plan) c planned) commit.0
              found.1 commit.2,
        );
    generations = is.generations;
    dates = is.dates;
    filters = same-filters others plan is.only filters other_filters are.moved are.numbers is.filters;
  }

-- so they have one file
pub same-file-reordered : (layers : List Layer) (commits others : List NewCommit) (filters other_filters : Option NewFilters)
    (bytes other_bytes : List ℕ) → AreAccepted layers commits → AreReordered commits filters others other_filters
    → IsPlannedFile layers commits filters bytes → IsPlannedFile layers others other_filters other_bytes → bytes ≡ other_bytes
same-file-reordered layers commits others filters other_filters bytes other_bytes right are (plan, is, made) also =
    one-file layers others other_filters bytes other_bytes
    (plan, reordered layers commits right.new filters others other_filters are plan is, made) also
