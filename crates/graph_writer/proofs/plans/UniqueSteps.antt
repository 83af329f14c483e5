-- Two plans for the same commits say the same.
use Rattle.std.proofs.Common.{◌≡◌, ℕ, zero, suc, ◌+◌, ◌<◌, List, [], ◌∷◌, ◌++◌, map, length, All, IsSomeAnd, slice_get}
use Rattle.std.proofs.Common.{get_or, Option, Some, None, option_map, refl, sym, ap, ◌∙◌, subst, arith}
use Rattle.std.specs.Prelude.{MatchOption}
use Rattle.std.specs.List.{flat_map, zip}
use Rattle.std.specs.Option.{option_map_or}
use Rattle.std.specs.Ordering.{nat_cmp}
use Rattle.std.specs.Cmp.Lexicographic.{slice_cmp}
use Rattle.std.specs.declared.cmp.Ordering.TheVariants.{Less}
use Rattle.std.proofs.lemmas.Cmp.{nat_list_cmp_total}
use Rattle.std.proofs.lemmas.List.{get_or_default, length-map, same_lists}
use Rattle.std.proofs.lemmas.Option.{slice_get_within, slice_get-map, slice_get-get_or, get_or_from_slice_get, same_Some}
use Rattle.graph_format.specs.Layer.{Layer}
use Rattle.graph_format.specs.Lookup.{scan}
use Rattle.graph_format.specs.OptionalChunks.{HasDates}
use Rattle.graph_format.specs.Order.{AreAscending}
use Rattle.graph_format.specs.StoredHistory.{history_of}
use Rattle.graph_layer.proofs.AscendingIdLemmas.{ascending-less}
use Rattle.graph_walks.specs.Dates.{number_at, AreRight}
use Rattle.graph_walks.specs.History.{Node, generation_at}
use Rattle.graph_walks.proofs.DateLemmas.{one_list}
use Rattle.gix_commitgraph.specs.Graph.{graph_ids}
use Rattle.gix_commitgraph.proofs.lookup.ElementLemmas.{some-place}
use Rattle.graph_chunks.specs.GraphStoredDates.{times_of, dates_of}
use Rattle.graph_encoder.specs.DateOffsets.{offsets_of}
use Rattle.graph_encoder.specs.SamePlans.{said_commit, SaidFilters, said_filters, SayTheSame}
use Rattle.graph_encoder.specs.Written.{ids_of}
use Rattle.graph_encoder.proofs.SamePlans.{same-file}
use Rattle.graph_encoder.specs.declared.filters.PlanFilters.{PlanFilters}
use Rattle.graph_encoder.specs.declared.plan.FilePlan.{FilePlan}
use Rattle.graph_encoder.specs.declared.plan.PlanCommit.{PlanCommit}
use Rattle.graph_writer.specs.LayerPlans.{IsPlanFor, PlansFilters, AreRightOffsets, filter_for, ends_from}
use Rattle.graph_writer.specs.LayerPlans.{history_with, times_with, dates_with, planned_times}
use Rattle.graph_writer.specs.WrittenFiles.{IsPlannedFile}
use Rattle.graph_writer.specs.declared.commit.NewCommit.{NewCommit}
use Rattle.graph_writer.specs.declared.filters.NewFilters.{NewFilters}
use Rattle.graph_writer.proofs.positions.DistinctSteps.{ascending-once}
use Rattle.graph_writer.proofs.levels.DateSteps.{zip-at}
use Rattle.graph_writer.proofs.positions.KnownSteps.{get-back}
use Rattle.graph_writer.proofs.positions.MixedSteps.{not-less_itself}
use Rattle.graph_writer.proofs.levels.SameHistories.{parents_in, same-generations}
use Rattle.graph_writer.proofs.layers.WrittenSteps.{some-and}

-- each id of the first list stands in the second
abbrev StandIn : List (List ℕ) → List (List ℕ) → Type 0
StandIn xs ys = (p : ℕ) (id : List ℕ) → slice_get xs p ≡ Some id → (q : ℕ) × (slice_get ys q ≡ Some id)

ascending-rest : (x : List ℕ) (xs : List (List ℕ)) → AreAscending (x ∷ xs) → AreAscending xs
ascending-rest x xs ascending i j d lt within = ascending (suc i) (suc j) d (omega (arith, lt)) (omega (arith, within))

-- what stands behind the first of ascending ids is greater
behind : (x : List ℕ) (xs : List (List ℕ)) (p : ℕ) (id : List ℕ) → AreAscending (x ∷ xs) → slice_get xs p ≡ Some id
    → slice_cmp nat_cmp x id ≡ Less
behind x xs p id ascending here = ascending-less (x ∷ xs) 0 (suc p) x id ascending refl here (omega arith)

-- ids that ascend and begin with one id stand in each other behind it too
stand-behind : (x : List ℕ) (xs ys : List (List ℕ)) → AreAscending (x ∷ xs) → StandIn (x ∷ xs) (x ∷ ys) → StandIn xs ys
stand-behind x xs ys ascending stand p id here =
    by-cases (stand (suc p) id here).0 (stand (suc p) id here).1
  where
    by-cases : (q : ℕ) → slice_get (x ∷ ys) q ≡ Some id → (q : ℕ) × (slice_get ys q ≡ Some id)
    by-cases zero at =
        let same : x ≡ id = same_Some x id at in
        absurd (not-less_itself x (ap (slice_cmp nat_cmp x) same ∙ behind x xs p id ascending here))
    by-cases (suc q) at = (q, at)

-- the first of them is the same
same-first : (x y : List ℕ) (xs ys : List (List ℕ)) → AreAscending (x ∷ xs) → AreAscending (y ∷ ys)
    → (p q : ℕ) → slice_get (y ∷ ys) p ≡ Some x → slice_get (x ∷ xs) q ≡ Some y → x ≡ y
same-first x y xs ys up also zero q here there = sym (same_Some y x here)
same-first x y xs ys up also (suc p) zero here there = same_Some x y there
same-first x y xs ys up also (suc p) (suc q) here there =
    absurd
    (not-less_itself x (nat_list_cmp_total.trans x y x (behind x xs q y up there) (behind y ys p x also here)))

pub same-ascending : (xs ys : List (List ℕ)) → AreAscending xs → AreAscending ys → StandIn xs ys → StandIn ys xs → xs ≡ ys
same-ascending [] [] up also there back = refl
same-ascending [] (y ∷ ys) up also there back =
    absurd (omega (arith, slice_get_within [] (back 0 y refl).0 y (back 0 y refl).1))
same-ascending (x ∷ xs) [] up also there back =
    absurd (omega (arith, slice_get_within [] (there 0 x refl).0 x (there 0 x refl).1))
same-ascending (x ∷ xs) (y ∷ ys) up also there back =
    let first : x ≡ y =
    same-first x y xs ys up also (there 0 x refl).0 (back 0 y refl).0 (there 0 x refl).1 (back 0 y refl).1 in
    let there_x : StandIn (x ∷ xs) (x ∷ ys) = subst (λ (z : List ℕ). StandIn (x ∷ xs) (z ∷ ys)) (sym first) there in
    let back_x : StandIn (x ∷ ys) (x ∷ xs) = subst (λ (z : List ℕ). StandIn (z ∷ ys) (x ∷ xs)) (sym first) back in
    let also_x : AreAscending (x ∷ ys) = subst (λ (z : List ℕ). AreAscending (z ∷ ys)) (sym first) also in
    ap (λ (rest : List (List ℕ)). x ∷ rest)
    (same-ascending xs ys (ascending-rest x xs up) (ascending-rest y ys also) (stand-behind x xs ys up there_x)
    (stand-behind x ys xs also_x back_x))
    ∙ ap (λ (z : List ℕ). z ∷ ys) first

-- positions by what they are as found ones
same-found : (xs ys : List ℕ) → map (λ (p : ℕ). Some p) xs ≡ map (λ (p : ℕ). Some p) ys → xs ≡ ys
same-found [] [] same = refl
same-found [] (y ∷ ys) same = cc
same-found (x ∷ xs) [] same = cc
same-found (x ∷ xs) (y ∷ ys) same =
    let first : x ≡ y = cc in
    let rest : map (λ (p : ℕ). Some p) xs ≡ map (λ (p : ℕ). Some p) ys = cc in
    ap (λ (zs : List ℕ). x ∷ zs) (same-found xs ys rest) ∙ ap (λ (z : ℕ). z ∷ ys) first

-- The plans say the same of a commit, its generation number aside.
record SayAlike (a b : PlanCommit) : Type 0 where
  id : a.id ≡ b.id
  tree : a.tree ≡ b.tree
  parents : a.parents.items ≡ b.parents.items
  time : a.time ≡ b.time

module _ (layers : List Layer) (commits : List NewCommit) (filters : Option NewFilters) (a b : FilePlan)
    (is_a : IsPlanFor layers commits filters a) (is_b : IsPlanFor layers commits filters b) where
  id-of : (plan : FilePlan) (p : ℕ) (c : PlanCommit) → slice_get plan.commits.items p ≡ Some c
      → slice_get (ids_of plan.commits.items) p ≡ Some c.id
  id-of plan p c here =
      slice_get-map (λ (x : PlanCommit). x.id) plan.commits.items p ∙ ap (option_map (λ (x : PlanCommit). x.id)) here

  -- a planned commit of one plan is one of the other, by a commit that was handed in
  stand : (one other : FilePlan) → IsPlanFor layers commits filters one → IsPlanFor layers commits filters other
      → StandIn (ids_of one.commits.items) (ids_of other.commits.items)
  stand one other is_one is_other p id here =
      let c =
      some-place one.commits.items p
      (omega (
        arith,
        slice_get_within (ids_of one.commits.items) p id here,
        length-map one.commits.items (λ (x : PlanCommit). x.id),
      )) in
      let handed = is_one.only p c.0 c.1 in
      let commit = some-and _ _ handed.1 in
      let place = is_other.all handed.0 commit.0 commit.1 in
      let found = some-and _ _ place.1 in
      let same : c.0.id ≡ id = same_Some c.0.id id (sym (id-of one p c.0 c.1) ∙ here) in (
        place.0,
        id-of other place.0 found.0 found.1
            ∙ ap (λ (x : List ℕ). Some x) (found.2.id ∙ sym commit.2.id ∙ same),
      )

  same-ids : ids_of a.commits.items ≡ ids_of b.commits.items
  same-ids =
      same-ascending (ids_of a.commits.items) (ids_of b.commits.items) is_a.ascending is_b.ascending (stand a b is_a is_b)
      (stand b a is_b is_a)

  same-size : length a.commits.items ≡ length b.commits.items
  same-size =
      sym (length-map a.commits.items (λ (x : PlanCommit). x.id))
      ∙ ap length same-ids
      ∙ length-map b.commits.items (λ (x : PlanCommit). x.id)

  alike : (p : ℕ) (c : PlanCommit) → slice_get a.commits.items p ≡ Some c
      → (d : PlanCommit) × (slice_get b.commits.items p ≡ Some d) × SayAlike c d
  alike p c here =
      let handed = is_a.only p c here in
      let commit = some-and _ _ handed.1 in
      let place = is_b.all handed.0 commit.0 commit.1 in
      let found = some-and _ _ place.1 in
      let d = found.0 in
      let id : c.id ≡ d.id = commit.2.id ∙ sym found.2.id in
      let at_p : slice_get (ids_of b.commits.items) p ≡ Some c.id =
      ap (λ (ids : List (List ℕ)). slice_get ids p) (sym same-ids) ∙ id-of a p c here in
      let at_q : slice_get (ids_of b.commits.items) place.0 ≡ Some c.id =
      id-of b place.0 d found.1 ∙ ap (λ (x : List ℕ). Some x) (sym id) in
      let same : place.0 ≡ p = ascending-once (ids_of b.commits.items) is_b.ascending place.0 p c.id at_q at_p in (
        d,
        ap (slice_get b.commits.items) (sym same) ∙ found.1,
        record {
          id = id;
          tree = commit.2.tree ∙ sym found.2.tree;
          parents =
              same-found c.parents.items d.parents.items
              (commit.2.parents
              ∙ ap (λ (ids : List (List ℕ)). map (scan (graph_ids layers ++ ids)) commit.0.parents.items) same-ids
              ∙ sym found.2.parents);
          time = commit.2.time ∙ sym found.2.time;
        },
      )

  -- what the commits of the plans say is the same, if it is so of two that say alike
  same-said : {X : Type 0} (f : PlanCommit → X)
      → ((p : ℕ) (c d : PlanCommit) → slice_get a.commits.items p ≡ Some c → slice_get b.commits.items p ≡ Some d
      → SayAlike c d → f c ≡ f d) → map f a.commits.items ≡ map f b.commits.items
  same-said f same =
      same_lists (map f a.commits.items) (map f b.commits.items)
      (length-map a.commits.items f ∙ same-size ∙ sym (length-map b.commits.items f))
      (λ p x lt.
      let c = some-place a.commits.items p (omega (arith, lt, length-map a.commits.items f)) in
      let d = alike p c.0 c.1 in
      get_or_from_slice_get (map f a.commits.items) p (f d.0) x
      (slice_get-map f a.commits.items p
      ∙ ap (option_map f) c.1
      ∙ ap (λ y. Some y) (same p c.0 d.0 c.1 d.1 d.2))
      ∙ sym
      (get_or_from_slice_get (map f b.commits.items) p (f d.0) x
      (slice_get-map f b.commits.items p ∙ ap (option_map f) d.1)))

  abbrev node_of : PlanCommit → Node
  node_of c = record { generation = c.generation; parents = c.parents.items }

  map-append-parents : (h : List Node) (cs : List PlanCommit)
      → parents_in (h ++ map node_of cs) ≡ parents_in h ++ map (λ c. c.parents.items) cs
  map-append-parents [] [] = refl
  map-append-parents [] (c ∷ cs) = ap (λ (lists : List (List ℕ)). c.parents.items ∷ lists) (map-append-parents [] cs)
  map-append-parents (node ∷ h) cs = ap (λ (lists : List (List ℕ)). node.parents ∷ lists) (map-append-parents h cs)

  same-parents : parents_in (history_with layers a) ≡ parents_in (history_with layers b)
  same-parents =
      map-append-parents (history_of layers) a.commits.items
      ∙ ap (λ (lists : List (List ℕ)). parents_in (history_of layers) ++ lists)
      (same-said (λ (c : PlanCommit). c.parents.items) (λ p c d here there is. is.parents))
      ∙ sym (map-append-parents (history_of layers) b.commits.items)

  generation-there : (plan : FilePlan) (p : ℕ) (c : PlanCommit) → slice_get plan.commits.items p ≡ Some c
      → (length (history_of layers) + p < length (history_with layers plan))
      × (generation_at (history_with layers plan) (length (history_of layers) + p) ≡ c.generation)
  generation-there plan p c here =
      let at : slice_get (history_with layers plan) (length (history_of layers) + p) ≡ Some (node_of c) =
      get-back (history_of layers) (map node_of plan.commits.items) p
      ∙ slice_get-map node_of plan.commits.items p
      ∙ ap (option_map node_of) here in (
        slice_get_within (history_with layers plan) (length (history_of layers) + p) (node_of c) at,
        ap (λ (o : Option Node). option_map_or (λ (node : Node). node.generation) o 0) at,
      )

  same-generation : (p : ℕ) (c d : PlanCommit) → slice_get a.commits.items p ≡ Some c
      → slice_get b.commits.items p ≡ Some d → c.generation ≡ d.generation
  same-generation p c d here there =
      let one = generation-there a p c here in
      sym one.1
      ∙ same-generations (history_with layers a) (history_with layers b) same-parents is_a.generations is_b.generations
      (length (history_of layers) + p) one.0
      ∙ (generation-there b p d there).1

  same-commits : map said_commit a.commits.items ≡ map said_commit b.commits.items
  same-commits = same-said said_commit (λ p c d here there is.
      let id : c.id ≡ d.id = is.id in
      let tree : c.tree ≡ d.tree = is.tree in
      let parents : c.parents.items ≡ d.parents.items = is.parents in
      let time : c.time ≡ d.time = is.time in
      let generation : c.generation ≡ d.generation = same-generation p c d here there in
      rw (id, tree, parents, time, generation) refl)

  same-history : history_with layers a ≡ history_with layers b
  same-history =
      ap (λ (nodes : List Node). history_of layers ++ nodes)
      (same-said node_of (λ p c d here there is.
      let parents : c.parents.items ≡ d.parents.items = is.parents in
      let generation : c.generation ≡ d.generation = same-generation p c d here there in
      rw (parents, generation) refl))

  same-times : planned_times a ≡ planned_times b
  same-times = same-said (λ (c : PlanCommit). c.time) (λ p c d here there is. is.time)

  -- the date of a planned commit, by its time and its offset
  date-there : (times offsets : List ℕ) (i : ℕ) → i < length times → length offsets ≡ length times
      → number_at (dates_of layers ++ map (λ (pair : ℕ × ℕ). pair.0 + pair.1) (zip times offsets)) (length (dates_of layers) + i)
      ≡ get_or times i 0 + get_or offsets i 0
  date-there times offsets i lt size =
      get_or_from_slice_get _ (length (dates_of layers) + i) (get_or times i 0 + get_or offsets i 0) 0
      (get-back (dates_of layers) (map (λ (pair : ℕ × ℕ). pair.0 + pair.1) (zip times offsets)) i
      ∙ slice_get-map (λ (pair : ℕ × ℕ). pair.0 + pair.1) (zip times offsets) i
      ∙ ap (option_map (λ (pair : ℕ × ℕ). pair.0 + pair.1))
      (zip-at times offsets i _ _ (slice_get-get_or times i 0 lt)
      (slice_get-get_or offsets i 0 (omega (arith, lt, size)))))

  same-dates : (one other : Option (List ℕ))
      → MatchOption one (¬ All HasDates layers) (λ offsets. All HasDates layers × AreRightOffsets layers a offsets)
      → MatchOption other (¬ All HasDates layers) (λ offsets. All HasDates layers × AreRightOffsets layers b offsets)
      → one ≡ other
  same-dates None None missing also = refl
  same-dates None (Some offsets) missing there = absurd (missing there.0)
  same-dates (Some offsets) None there missing = absurd (missing there.0)
  same-dates (Some one) (Some other) here there =
      let size : length one ≡ length other = omega (arith, here.1.as_many, there.1.as_many, same-size) in
      let times_one : length (planned_times a) ≡ length one =
      length-map a.commits.items (λ (c : PlanCommit). c.time) ∙ sym here.1.as_many in
      let right : AreRight (history_with layers a) (times_with layers a) (dates_of layers
      ++ map (λ (pair : ℕ × ℕ). pair.0 + pair.1) (zip (planned_times a) other)) =
      subst (λ (h : List Node). AreRight h (times_with layers a) (dates_of layers
      ++ map (λ (pair : ℕ × ℕ). pair.0 + pair.1) (zip (planned_times a) other))) (sym same-history)
      (subst (λ (ts : List ℕ). AreRight (history_with layers b) (times_of layers ++ ts) (dates_of layers
      ++ map (λ (pair : ℕ × ℕ). pair.0 + pair.1) (zip ts other))) (sym same-times) there.1.right) in
      ap (λ (offsets : List ℕ). Some offsets)
      (same_lists one other size
      (λ i d lt.
      let within : i < length (planned_times a) = omega (arith, lt, times_one) in
      let same =
      one_list (history_with layers a) (times_with layers a) (dates_with layers a one) _ (length (dates_of layers) + i)
      here.1.right right in
      let sum_one = date-there (planned_times a) one i within (sym times_one) in
      let sum_other = date-there (planned_times a) other i within (omega (arith, times_one, size)) in
      let equal : get_or one i 0 ≡ get_or other i 0 = omega (arith, same, sum_one, sum_other) in
      get_or_default one i d 0 lt ∙ equal ∙ get_or_default other i 0 d (omega (arith, lt, size))))

  same-filters-of : (handed : NewFilters) (f g : PlanFilters) → PlansFilters commits handed (ids_of a.commits.items) f
      → PlansFilters commits handed (ids_of b.commits.items) g → said_filters f ≡ said_filters g
  same-filters-of handed f g is_f is_g =
      let each : List ℕ → List ℕ = filter_for commits handed in
      let numbers : f.numbers ≡ g.numbers = is_f.numbers ∙ sym is_g.numbers in
      let ends : f.ends.items ≡ g.ends.items =
      is_f.ends ∙ ap (λ (ids : List (List ℕ)). ends_from 0 (map each ids)) same-ids ∙ sym is_g.ends in
      let bytes : f.bytes.items ≡ g.bytes.items = is_f.bytes ∙ ap (flat_map each) same-ids ∙ sym is_g.bytes in
      rw (numbers, ends, bytes) refl

  same-filters : (handed : Option NewFilters) (one other : Option PlanFilters)
      → MatchOption handed (one ≡ None) (λ h. IsSomeAnd one (PlansFilters commits h (ids_of a.commits.items)))
      → MatchOption handed (other ≡ None) (λ h. IsSomeAnd other (PlansFilters commits h (ids_of b.commits.items)))
      → option_map said_filters one ≡ option_map said_filters other
  same-filters None one other here there = ap (option_map said_filters) (here ∙ sym there)
  same-filters (Some handed) None other here there = absurd here
  same-filters (Some handed) (Some f) None here there = absurd there
  same-filters (Some handed) (Some f) (Some g) here there =
      ap (λ (s : SaidFilters). Some s) (same-filters-of handed f g here there)

  pub say-the-same : SayTheSame a b
  say-the-same = record {
    kind = is_a.kind ∙ sym is_b.kind;
    bases = is_a.bases ∙ sym is_b.bases;
    commits = same-commits;
    dates = same-dates (offsets_of a) (offsets_of b) is_a.dates is_b.dates;
    filters = same-filters filters a.filters b.filters is_a.filters is_b.filters;
  }

-- so they have one file
pub one-file : (layers : List Layer) (commits : List NewCommit) (filters : Option NewFilters) (bytes others : List ℕ)
    → IsPlannedFile layers commits filters bytes → IsPlannedFile layers commits filters others → bytes ≡ others
one-file layers commits filters bytes others (plan, is, made) (other, also, likewise) =
    made ∙ same-file plan other (say-the-same layers commits filters plan other is also) ∙ sym likewise
