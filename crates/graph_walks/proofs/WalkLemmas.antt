-- Generation numbers and walks: what each commit and its parents say, and what whole walks say.
use Rattle.std.proofs.Common.{◌≡◌, Option, ℕ, suc, zero, ◌+◌, ◌-◌, ◌<◌, ◌≤◌, min, List, [], ◌∷◌, map, length, slice_get, Some}
use Rattle.std.proofs.Common.{None, Contains, if◌then◌else◌, refl, sym, ap, ◌∙◌, subst, ⊎_elim, arith}
use Rattle.std.proofs.lemmas.Option.{slice_get_past, slice_get_within, slice_get-get_or, get_or_from_slice_get}
use Rattle.std.proofs.lemmas.Bool.{cases_lt, lt-ltb, le-ltb}
use Rattle.std.specs.Option.{option_map_or}
use Rattle.graph_walks.specs.declared.TheConstants.{GENERATION_NUMBER_MAX}
use Rattle.graph_walks.specs.History.{Node, IsParent, generation_at, parents_at, generations}
use Rattle.graph_walks.specs.Walks.{HasWalk, CountWalks, Reaches, IsProperAncestor, IsLongestWalk, MatchesLongestWalk}
use Rattle.graph_walks.specs.Counts.{greatest}
use Rattle.graph_walks.specs.Generations.{expected_generation, AreLocal}
use Rattle.graph_walks.specs.Generations.{longest_path}
use Rattle.graph_walks.proofs.WalkPathLemmas.{Path, has_walk_from_path, path_from_has_walk, path_from_between, begins_within}
use Rattle.graph_walks.proofs.WalkPathLemmas.{front_of_path}
use Rattle.graph_walks.proofs.GreatestLemmas.{greatest_bounds, greatest_reached}

-- what stands past the end has generation 0, so a commit with another one is in the history
within_from_generation : (h : List Node) (p : ℕ) → 1 ≤ generation_at h p → p < length h
within_from_generation h p pos =
    ⊎_elim
    (λ (lt : p < length h). lt)
    (λ (le : length h ≤ p).
    let none : generation_at h p ≡ 0 = ap (λ o. option_map_or (λ (c : Node). c.generation) o 0) (slice_get_past h p le) in
    absurd (omega arith))
    (cases_lt p (length h))

parent_bound : (h : List Node) (p q : ℕ) → Contains (parents_at h p) q
    → generation_at h q ≤ greatest (map (generation_at h) (parents_at h p))
parent_bound h p q (k, lt, at) =
    greatest_bounds (generation_at h) (parents_at h p) k q (slice_get-get_or (parents_at h p) k q lt ∙ ap (λ x. Some x) at)

-- a parent counts one less, up to the cap
pub parent_step : (h : List Node) → AreLocal h → (p q : ℕ) → IsParent h p q
    → min GENERATION_NUMBER_MAX (generation_at h q + 1) ≤ generation_at h p
unfolding expected_generation
parent_step h local p q parent =
    let same : generation_at h p ≡ expected_generation h p = local p parent.0 in
    let bound = parent_bound h p q parent.2 in
    omega arith

-- a commit with a generation above n has a parent with one of n or more
parent_with : (h : List Node) → AreLocal h → (p n : ℕ) → p < length h → 1 ≤ n → n < generation_at h p → (q : ℕ) × IsParent h p q
    × (n ≤ generation_at h q)
unfolding expected_generation
parent_with h local p n within pos lt =
    let same : generation_at h p ≡ expected_generation h p = local p within in
    let found = greatest_reached (generation_at h) (parents_at h p) (omega arith) in
    let q = found.1 in
    let high : n ≤ generation_at h q = omega (arith, found.3) in (
      q,
      (
        within,
        within_from_generation h q (omega arith),
        (
          found.0,
          slice_get_within (parents_at h p) found.0 q found.2,
          get_or_from_slice_get (parents_at h p) found.0 q q found.2,
        ),
      ),
      high,
    )

-- Where the numbers are local.

at_most_cap : (h : List Node) → AreLocal h → (p : ℕ) → p < length h → generation_at h p ≤ GENERATION_NUMBER_MAX
unfolding expected_generation
at_most_cap h local p within = let same : generation_at h p ≡ expected_generation h p = local p within in omega arith

-- a walk is no longer than the generation of its first commit says
walk_is_counted : (h : List Node) → AreLocal h → (p q : ℕ) (rest : List ℕ) → Path h p q rest → length rest < GENERATION_NUMBER_MAX
    → length rest < generation_at h p
unfolding expected_generation
walk_is_counted h local p q [] w below = let same : generation_at h p ≡ expected_generation h p = local p w.1 in omega arith
walk_is_counted h local p q (y ∷ rest) w below =
    let longer : length rest < generation_at h y = walk_is_counted h local y q rest w.1 (omega arith) in
    let step = parent_step h local p y w.0 in
    omega arith

-- there is a walk as long as the generation of its first commit says
counted_walk : (h : List Node) → AreLocal h → (n p : ℕ) → p < length h → n < generation_at h p → (q : ℕ) × (rest : List ℕ)
    × Path h p q rest × (length rest ≡ n)
counted_walk h local zero p within lt = (p, [], (refl, within), refl)
counted_walk h local (suc n) p within lt =
    let parent = parent_with h local p (suc n) within (omega arith) lt in
    let more = counted_walk h local n parent.0 parent.1.1 parent.2 in
    (more.0, parent.0 ∷ more.1, (parent.1, more.2), ap suc more.3)

walk_of : (h : List Node) → AreLocal h → (n p : ℕ) → p < length h → 1 ≤ n → n ≤ generation_at h p → HasWalk h p n
walk_of h local zero p within pos le = absurd (omega arith)
walk_of h local (suc n) p within pos le =
    let path = counted_walk h local n p within le in
    subst (λ (m : ℕ). HasWalk h p (suc m)) path.3 (has_walk_from_path h p path.0 path.1 path.2)

pub counts_from_local : (h : List Node) → AreLocal h → CountWalks h
counts_from_local h local p within = record {
  capped = at_most_cap h local p within;
  counts = λ n pos below. (
    (λ walk.
        let path = path_from_has_walk h p n walk in
        let counted : length path.1 < generation_at h p =
        walk_is_counted h local p path.0 path.1 path.2 (omega (arith, path.3)) in
        omega (arith, path.3)),
    (λ le. walk_of h local n p within pos le),
  );
}

-- Where the numbers count walks.

-- a walk of at most as many commits as the cap is counted
short_is_counted : (h : List Node) → CountWalks h → (p q : ℕ) (rest : List ℕ) → Path h p q rest
    → length rest < GENERATION_NUMBER_MAX → length rest < generation_at h p
short_is_counted h counts p q rest w below =
    let within : p < length h = begins_within h p q rest w in
    let counted =
    ((counts p within).counts (suc (length rest)) (omega arith) (omega arith)).0 (has_walk_from_path h p q rest w) in
    omega arith

path_of : (h : List Node) → CountWalks h → (p n : ℕ) → p < length h → 1 ≤ n → n ≤ generation_at h p → (q : ℕ) × (rest : List ℕ)
    × Path h p q rest × (suc (length rest) ≡ n)
path_of h counts p n within pos le =
    let capped = (counts p within).capped in
    path_from_has_walk h p n (((counts p within).counts n pos (omega arith)).1 le)

-- the first parent on a walk counts the rest of it
longest_is_expected : (h : List Node) → CountWalks h → (p q : ℕ) (rest : List ℕ) → Path h p q rest
    → length rest < GENERATION_NUMBER_MAX → suc (length rest) ≤ expected_generation h p
unfolding expected_generation
longest_is_expected h counts p q [] w below = omega arith
longest_is_expected h counts p q (y ∷ rest) w below =
    let counted : length rest < generation_at h y = short_is_counted h counts y q rest w.1 (omega arith) in
    let bound = parent_bound h p y w.0.2 in
    omega arith

-- a parent that counts n is on a walk of one more
longer_walk : (h : List Node) → CountWalks h → (p q n : ℕ) → IsParent h p q → 1 ≤ n → n ≤ generation_at h q
    → n < GENERATION_NUMBER_MAX → suc n ≤ generation_at h p
longer_walk h counts p q n parent pos le below =
    let path = path_of h counts q n parent.1 pos le in
    let counted : length (q ∷ path.1) < generation_at h p =
    short_is_counted h counts p path.0 (q ∷ path.1) (parent, path.2) (omega (arith, path.3)) in
    omega (arith, path.3)

at_least_expected : (h : List Node) → CountWalks h → (p : ℕ) → p < length h → expected_generation h p ≤ generation_at h p
unfolding expected_generation
at_least_expected h counts p within =
    let one : 0 < generation_at h p = short_is_counted h counts p p [] (refl, within) (omega arith) in
    ⊎_elim
    (λ (pos : 0 < greatest (map (generation_at h) (parents_at h p))).
    let found = greatest_reached (generation_at h) (parents_at h p) pos in
    let q = found.1 in
    let same : generation_at h q ≡ greatest (map (generation_at h) (parents_at h p)) = found.3 in
    let inside : q < length h = within_from_generation h q (omega arith) in
    let parent : IsParent h p q = (
      within,
      inside,
      (
        found.0,
        slice_get_within (parents_at h p) found.0 q found.2,
        get_or_from_slice_get (parents_at h p) found.0 q q found.2,
      ),
    ) in
    let n : ℕ = min (GENERATION_NUMBER_MAX - 1) (generation_at h q) in
    let longer : suc n ≤ generation_at h p = longer_walk h counts p q n parent (omega arith) (omega arith) (omega arith) in
    omega arith)
    (λ (none : greatest (map (generation_at h) (parents_at h p)) ≤ 0). omega arith)
    (cases_lt 0 (greatest (map (generation_at h) (parents_at h p))))

at_most_expected : (h : List Node) → CountWalks h → (p : ℕ) → p < length h → generation_at h p ≤ expected_generation h p
at_most_expected h counts p within =
    let capped : generation_at h p ≤ GENERATION_NUMBER_MAX = (counts p within).capped in
    ⊎_elim
    (λ (pos : 0 < generation_at h p).
    let path = path_of h counts p (generation_at h p) within pos (omega arith) in
    let expected = longest_is_expected h counts p path.0 path.1 path.2 (omega (arith, path.3)) in
    omega (arith, path.3))
    (λ (none : generation_at h p ≤ 0). omega arith)
    (cases_lt 0 (generation_at h p))

pub local_from_counts : (h : List Node) → CountWalks h → AreLocal h
local_from_counts h counts p within =
    let low = at_least_expected h counts p within in
    let high = at_most_expected h counts p within in
    omega arith

-- Along a walk.

never_rises : (h : List Node) → AreLocal h → (p q : ℕ) (rest : List ℕ) → Path h p q rest → generation_at h q ≤ generation_at h p
never_rises h local p q [] w = let same : generation_at h p ≡ generation_at h q = ap (generation_at h) w.0 in omega arith
never_rises h local p q (y ∷ rest) w =
    let below : generation_at h q ≤ generation_at h y = never_rises h local y q rest w.1 in
    let step = parent_step h local p y w.0 in
    let capped = at_most_cap h local y w.0.1 in
    omega arith

pub reached_is_no_higher : (h : List Node) (p q : ℕ) → CountWalks h → Reaches h p q → generation_at h q ≤ generation_at h p
reached_is_no_higher h p q counts reaches =
    let path = path_from_between h p q reaches.0 reaches.1 in
    never_rises h (local_from_counts h counts) p q path.0 path.2

falls : (h : List Node) → AreLocal h → (p q : ℕ) (rest : List ℕ) → Path h p q rest → 1 ≤ length rest
    → generation_at h q < GENERATION_NUMBER_MAX → generation_at h q < generation_at h p
falls h local p q [] w pos low = absurd (omega arith)
falls h local p q (y ∷ rest) w pos low =
    let below : generation_at h q ≤ generation_at h y = never_rises h local y q rest w.1 in
    let step = parent_step h local p y w.0 in
    omega arith

pub falls_above : (h : List Node) (p q : ℕ) → CountWalks h → IsProperAncestor h p q → generation_at h q < GENERATION_NUMBER_MAX
    → generation_at h q < generation_at h p
falls_above h p q counts above low =
    let path = path_from_between h p q above.0 above.1 in
    let two : 2 ≤ length (p ∷ path.0) = subst (λ (walk : List ℕ). 2 ≤ length walk) path.1 above.2 in
    falls h (local_from_counts h counts) p q path.0 path.2 (omega arith) low

pub cycle_at_cap : (h : List Node) (p : ℕ) → CountWalks h → IsProperAncestor h p p → generation_at h p ≡ GENERATION_NUMBER_MAX
cycle_at_cap h p counts above =
    let path = path_from_between h p p above.0 above.1 in
    let capped : generation_at h p ≤ GENERATION_NUMBER_MAX = (counts p (begins_within h p p path.0 path.2)).capped in
    ⊎_elim
    (λ (low : generation_at h p < GENERATION_NUMBER_MAX). let lower = falls_above h p p counts above low in absurd (omega arith))
    (λ (high : GENERATION_NUMBER_MAX ≤ generation_at h p). omega arith)
    (cases_lt (generation_at h p) GENERATION_NUMBER_MAX)

-- The longest walk.

generation_is : (h : List Node) (p : ℕ) (c : Node) → slice_get h p ≡ Some c → generation_at h p ≡ c.generation
generation_is h p c at = ap (λ o. option_map_or (λ (x : Node). x.generation) o 0) at

generation_bound : (h : List Node) (p : ℕ) → generation_at h p ≤ greatest (generations h)
generation_bound h p = by_cases (slice_get h p) refl where
  by_cases : (o : Option Node) → slice_get h p ≡ o → generation_at h p ≤ greatest (generations h)
  by_cases None at = let none : generation_at h p ≡ 0 = ap (λ o. option_map_or (λ (x : Node). x.generation) o 0) at in omega arith
  by_cases (Some c) at =
      let same : generation_at h p ≡ c.generation = generation_is h p c at in
      let bound : c.generation ≤ greatest (generations h) = greatest_bounds (λ (x : Node). x.generation) h p c at in
      omega arith

-- no walk is longer than the greatest generation, where that is below the cap
all_counted : (h : List Node) → CountWalks h → ((p : ℕ) → p < length h → generation_at h p < GENERATION_NUMBER_MAX)
    → (p q : ℕ) (rest : List ℕ) → Path h p q rest → length rest < generation_at h p
all_counted h counts low p q rest w =
    ⊎_elim
    (λ (short : length rest < GENERATION_NUMBER_MAX). short_is_counted h counts p q rest w short)
    (λ (long : GENERATION_NUMBER_MAX ≤ length rest).
    let below : generation_at h p < GENERATION_NUMBER_MAX = low p (begins_within h p q rest w) in
    let front = front_of_path h (generation_at h p) p q rest (omega arith) w in
    let same : length front.1 ≡ generation_at h p = front.3 in
    let counted : length front.1 < generation_at h p = short_is_counted h counts p front.0 front.1 front.2 (omega arith) in
    absurd (omega arith))
    (cases_lt (length rest) GENERATION_NUMBER_MAX)

greatest_walk : (h : List Node) → CountWalks h → 0 < length h → (p : ℕ) × HasWalk h p (greatest (generations h) - 1 + 1)
greatest_walk h counts some =
    let one : 0 < generation_at h 0 = short_is_counted h counts 0 0 [] (refl, some) (omega arith) in
    let bound : generation_at h 0 ≤ greatest (generations h) = generation_bound h 0 in
    let found = greatest_reached (λ (c : Node). c.generation) h (omega arith) in
    let same : generation_at h found.0 ≡ found.1.generation = generation_is h found.0 found.1 found.2 in
    let walk : HasWalk h found.0 (generation_at h found.0) =
    ((counts found.0 (slice_get_within h found.0 found.1 found.2)).counts (generation_at h found.0) (omega (arith, found.3))
    (counts found.0 (slice_get_within h found.0 found.1 found.2)).capped).1 (omega arith) in
    let count : generation_at h found.0 ≡ greatest (generations h) - 1 + 1 = omega (arith, found.3) in
    (found.0, subst (λ (n : ℕ). HasWalk h found.0 n) count walk)

pub longest_from_greatest : (h : List Node) → CountWalks h → ((p : ℕ) → p < length h → generation_at h p < GENERATION_NUMBER_MAX)
    → IsLongestWalk h (greatest (generations h) - 1)
longest_from_greatest h counts low = record {
  reached = greatest_walk h counts;
  none = λ empty. no_commits h empty;
  longest = λ p m walk.
      let path = path_from_has_walk h p (m + 1) walk in
      let counted : length path.1 < generation_at h p = all_counted h counts low p path.0 path.1 path.2 in
      let bound = generation_bound h p in
      omega (arith, path.3);
} where
  no_commits : (cs : List Node) → length cs ≡ 0 → greatest (generations cs) - 1 ≡ 0
  no_commits [] empty = refl
  no_commits (c ∷ cs) empty = absurd (omega arith)

-- what the generation numbers tell of the longest walk
pub longest_is_told : (h : List Node) → CountWalks h → MatchesLongestWalk h (longest_path (generations h))
longest_is_told h counts =
    let most = greatest (generations h) in
    ⊎_elim
    (λ (low : most < GENERATION_NUMBER_MAX).
    let some : longest_path (generations h) ≡ Some (most - 1) =
    ap (λ b. if b then Some (most - 1) else None) (lt-ltb most GENERATION_NUMBER_MAX low) in
    let below : (p : ℕ) → generation_at h p < GENERATION_NUMBER_MAX = λ p. omega (arith, generation_bound h p) in
    subst (MatchesLongestWalk h) (sym some) (
      λ capped.
          omega (arith, below capped.0, capped.2),
      longest_from_greatest h counts (λ p within. below p),
    ))
    (λ (high : GENERATION_NUMBER_MAX ≤ most).
    let none : longest_path (generations h) ≡ None =
    ap (λ b. if b then Some (most - 1) else None) (le-ltb most GENERATION_NUMBER_MAX high) in
    let found = greatest_reached (λ (c : Node). c.generation) h (omega arith) in
    let within : found.0 < length h = slice_get_within h found.0 found.1 found.2 in
    let same : generation_at h found.0 ≡ found.1.generation = generation_is h found.0 found.1 found.2 in
    let capped : generation_at h found.0 ≤ GENERATION_NUMBER_MAX = (counts found.0 within).capped in
    subst (MatchesLongestWalk h) (sym none) (found.0, within, omega (arith, found.3)))
    (cases_lt most GENERATION_NUMBER_MAX)
