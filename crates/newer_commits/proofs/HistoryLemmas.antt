-- The history of a base and of newer commits on top of it.
use Rattle.std.proofs.Common.{◌≡◌, ◌↔◌, ℕ, suc, zero, ◌+◌, ◌-◌, ◌<◌, ◌≤◌, max, min, List, [], ◌∷◌, ◌++◌, length, map}
use Rattle.std.proofs.Common.{filter}
use Rattle.std.proofs.Common.{Bool, true, false, nat_lt, slice_get, Contains, Option, Some, None, option_map}
use Rattle.std.proofs.Common.{refl, sym, ap, ◌∙◌, subst, ⊎_elim, arith}
use Rattle.std.specs.Option.{option_map_or}
use Rattle.std.proofs.lemmas.Bool.{cases_lt, cases_Bool, cond-true, cond-false, lt-ltb, le-ltb, ltb-true}
use Rattle.std.proofs.lemmas.List.{length-append, length-map, append_assoc}
use Rattle.std.proofs.lemmas.Option.{slice_get_past, slice_get-map}
use Rattle.graph_walks.specs.declared.TheConstants.{GENERATION_NUMBER_MAX}
use Rattle.graph_walks.specs.Counts.{greatest}
use Rattle.graph_walks.specs.Generations.{expected_generation, AreLocal}
use Rattle.graph_walks.specs.History.{Node, IsParent, parents_at, generation_at}
use Rattle.graph_walks.specs.Walks.{CountWalks, IsWalkBetween}
use Rattle.graph_walks.proofs.GreatestLemmas.{greatest-cons}
use Rattle.graph_walks.proofs.WalkLemmas.{counts_from_local, local_from_counts}
use Rattle.graph_walks.proofs.WalkPathLemmas.{Path, between_from_path, path_from_between}
use Rattle.commit_search.proofs.EdgeListLemmas.{head_contained, tail_contained, contained_cases}
use Rattle.newer_commits.specs.JoinedHistory.{node_within, joined_history, AreNumberedOnTop}
use Rattle.newer_commits.proofs.KeptLemmas.{get_pushed}

-- what passes a test

pub contained_from_filter : (test : ℕ → Bool) (xs : List ℕ) (q : ℕ) → Contains (filter test xs) q
    → Contains xs q × (test q ≡ true)
contained_from_filter test [] q (k, lt, at) = absurd (omega (arith, lt))
contained_from_filter test (x ∷ xs) q contained =
    ⊎_elim
    (λ (passes : test x ≡ true).
    ⊎_elim
    (λ (same : x ≡ q). (subst (λ (y : ℕ). Contains (x ∷ xs) y) same (head_contained x xs), ap test (sym same) ∙ passes))
    (λ (later : Contains (filter test xs) q).
    let rest = contained_from_filter test xs q later in (tail_contained x q xs rest.0, rest.1))
    (contained_cases x q (filter test xs)
    (subst (λ (ys : List ℕ). Contains ys q) (cond-true (test x) (x ∷ filter test xs) (filter test xs) passes) contained)))
    (λ (fails : test x ≡ false).
    let rest = contained_from_filter test xs q
    (subst (λ (ys : List ℕ). Contains ys q) (cond-false (test x) (x ∷ filter test xs) (filter test xs) fails) contained) in
    (tail_contained x q xs rest.0, rest.1))
    (cases_Bool (test x))

pub contained_in_filter : (test : ℕ → Bool) (xs : List ℕ) (q : ℕ) → Contains xs q → test q ≡ true → Contains (filter test xs) q
contained_in_filter test [] q contained passes = absurd (omega (arith, contained.1))
contained_in_filter test (x ∷ xs) q contained passes =
    ⊎_elim
    (λ (same : x ≡ q).
    let here : test x ≡ true = ap test same ∙ passes in
    subst (λ (ys : List ℕ). Contains ys q) (sym (cond-true (test x) (x ∷ filter test xs) (filter test xs) here))
    (subst (λ (y : ℕ). Contains (x ∷ filter test xs) y) same (head_contained x (filter test xs))))
    (λ (later : Contains xs q).
    let rest = contained_in_filter test xs q later passes in
    ⊎_elim
    (λ (here : test x ≡ true).
    subst (λ (ys : List ℕ). Contains ys q) (sym (cond-true (test x) (x ∷ filter test xs) (filter test xs) here))
    (tail_contained x q (filter test xs) rest))
    (λ (fails : test x ≡ false).
    subst (λ (ys : List ℕ). Contains ys q) (sym (cond-false (test x) (x ∷ filter test xs) (filter test xs) fails)) rest)
    (cases_Bool (test x)))
    (contained_cases x q xs contained)

-- places of two lists, one after the other

pub get_left : {X : Type 0} (xs ys : List X) (i : ℕ) → i < length xs → slice_get (xs ++ ys) i ≡ slice_get xs i
get_left [] ys i lt = absurd (omega (arith, lt))
get_left (x ∷ xs) ys zero lt = refl
get_left (x ∷ xs) ys (suc i) lt = get_left xs ys i (omega (arith, lt))

pub get_right : {X : Type 0} (xs ys : List X) (i : ℕ) → length xs ≤ i → slice_get (xs ++ ys) i ≡ slice_get ys (i - length xs)
get_right [] ys i le = ap (slice_get ys) (less_none i)
  where
    less_none : (n : ℕ) → n ≡ n - 0
    less_none n = omega arith
get_right (x ∷ xs) ys zero le = absurd (omega (arith, le))
get_right (x ∷ xs) ys (suc i) le =
    get_right xs ys i (omega (arith, le)) ∙ ap (slice_get ys) (less_one i (length xs))
  where
    less_one : (m n : ℕ) → m - n ≡ suc m - suc n
    less_one m n = omega arith

module _ (base newer : List Node) where
  abbrev cut : List Node
  cut = map (node_within (length base)) base

  pub joined_length : length (joined_history base newer) ≡ length base + length newer
  joined_length = length-append cut newer ∙ ap (λ (n : ℕ). n + length newer) (length-map base (node_within (length base)))

  module _ (p : ℕ) (below : p < length base) where
    node_below : slice_get (joined_history base newer) p ≡ option_map (node_within (length base)) (slice_get base p)
    node_below =
        get_left cut newer p (omega (arith, below, length-map base (node_within (length base))))
        ∙ slice_get-map (node_within (length base)) base p

    generation_of : (o : Option Node) → option_map_or (λ (n : Node). n.generation) (option_map (node_within (length base)) o) 0
        ≡ option_map_or (λ (n : Node). n.generation) o 0
    generation_of None = refl
    generation_of (Some n) = refl

    pub generation_below : generation_at (joined_history base newer) p ≡ generation_at base p
    generation_below = ap (λ o. option_map_or (λ (n : Node). n.generation) o 0) node_below ∙ generation_of (slice_get base p)

    parents_of : (o : Option Node) → option_map_or (λ (n : Node). n.parents) (option_map (node_within (length base)) o) []
        ≡ filter (λ q. nat_lt q (length base)) (option_map_or (λ (n : Node). n.parents) o [])
    parents_of None = refl
    parents_of (Some n) = refl

    pub parents_below : parents_at (joined_history base newer) p ≡ filter (λ q. nat_lt q (length base)) (parents_at base p)
    parents_below = ap (λ o. option_map_or (λ (n : Node). n.parents) o []) node_below ∙ parents_of (slice_get base p)

    pub parent_below : (q : ℕ) → IsParent (joined_history base newer) p q → IsParent base p q
    parent_below q parent =
        let found = contained_from_filter (λ x. nat_lt x (length base)) (parents_at base p) q
        (subst (λ (ps : List ℕ). Contains ps q) parents_below parent.2) in
        (below, ltb-true q (length base) found.1, found.0)

    pub parent_joined : (q : ℕ) → IsParent base p q → IsParent (joined_history base newer) p q
    parent_joined q parent = (
      omega (arith, below, joined_length),
      omega (arith, parent.1, joined_length),
      subst (λ (ps : List ℕ). Contains ps q) (sym parents_below)
          (contained_in_filter (λ x. nat_lt x (length base)) (parents_at base p) q parent.2
          (lt-ltb q (length base) parent.1)),
    )

  module _ (p : ℕ) (above : length base ≤ p) where
    node_above : slice_get (joined_history base newer) p ≡ slice_get newer (p - length base)
    node_above =
        get_right cut newer p (omega (arith, above, length-map base (node_within (length base))))
        ∙ ap (λ (n : ℕ). slice_get newer (p - n)) (length-map base (node_within (length base)))

    pub generation_above : generation_at (joined_history base newer) p ≡ generation_at newer (p - length base)
    generation_above = ap (λ o. option_map_or (λ (n : Node). n.generation) o 0) node_above

    pub parents_above : parents_at (joined_history base newer) p ≡ parents_at newer (p - length base)
    parents_above = ap (λ o. option_map_or (λ (n : Node). n.parents) o []) node_above

  -- walks from commits of the base

  pub path_below : (p q : ℕ) (rest : List ℕ) → p < length base → Path (joined_history base newer) p q rest → Path base p q rest
  path_below p q [] below path = (path.0, below)
  path_below p q (y ∷ rest) below path =
      let step = parent_below p below y path.0 in
      (step, path_below y q rest step.1 path.1)

  pub path_joined : (p q : ℕ) (rest : List ℕ) → Path base p q rest → Path (joined_history base newer) p q rest
  path_joined p q [] path = (path.0, omega (arith, path.1, joined_length))
  path_joined p q (y ∷ rest) path = (parent_joined p path.0.0 y path.0, path_joined y q rest path.1)

  pub walk_below : (p q : ℕ) (walk : List ℕ) → p < length base
      → IsWalkBetween (joined_history base newer) p q walk ↔ IsWalkBetween base p q walk
  walk_below p q walk below = (
    (λ between.
        let path = path_from_between (joined_history base newer) p q walk between in
        subst (IsWalkBetween base p q) (sym path.1) (between_from_path base p q path.0 (path_below p q path.0 below path.2))),
    (λ between.
        let path = path_from_between base p q walk between in
        subst (IsWalkBetween (joined_history base newer) p q) (sym path.1)
        (between_from_path (joined_history base newer) p q path.0 (path_joined p q path.0 path.2))),
  )

  ends_within : (p q : ℕ) (rest : List ℕ) → Path base p q rest → q < length base
  ends_within p q [] path = omega (arith, path.0, path.1)
  ends_within p q (y ∷ rest) path = ends_within y q rest path.1

  -- a walk that ends above the base begins there
  pub path_above : (p q : ℕ) (rest : List ℕ) → length base ≤ q → Path (joined_history base newer) p q rest → length base ≤ p
  path_above p q rest above path =
      ⊎_elim
      (λ (below : p < length base).
      absurd (omega (arith, above, ends_within p q rest (path_below p q rest below path))))
      (λ (le : length base ≤ p). le)
      (cases_lt p (length base))

  -- generation numbers

  none_past : (q : ℕ) → length base ≤ q → generation_at base q ≡ 0
  none_past q past = ap (λ o. option_map_or (λ (n : Node). n.generation) o 0) (slice_get_past base q past)

  greatest_below : (ps : List ℕ)
      → greatest (map (generation_at (joined_history base newer)) (filter (λ q. nat_lt q (length base)) ps))
      ≡ greatest (map (generation_at base) ps)
  greatest_below [] = refl
  greatest_below (q ∷ ps) =
      ⊎_elim
      (λ (below : q < length base).
      ap (λ (xs : List ℕ). greatest (map (generation_at (joined_history base newer)) xs))
      (cond-true (nat_lt q (length base)) (q ∷ filter (λ x. nat_lt x (length base)) ps) (filter (λ x. nat_lt x (length base)) ps)
      (lt-ltb q (length base) below))
      ∙ greatest-cons (generation_at (joined_history base newer) q)
      (map (generation_at (joined_history base newer)) (filter (λ x. nat_lt x (length base)) ps))
      ∙ ap (λ (m : ℕ). max (generation_at (joined_history base newer) q) m) (greatest_below ps)
      ∙ ap (λ (m : ℕ). max m (greatest (map (generation_at base) ps))) (generation_below q below)
      ∙ sym (greatest-cons (generation_at base q) (map (generation_at base) ps)))
      (λ (past : length base ≤ q).
      ap (λ (xs : List ℕ). greatest (map (generation_at (joined_history base newer)) xs))
      (cond-false (nat_lt q (length base)) (q ∷ filter (λ x. nat_lt x (length base)) ps) (filter (λ x. nat_lt x (length base)) ps)
      (le-ltb q (length base) past))
      ∙ greatest_below ps
      ∙ omega (arith, greatest-cons (generation_at base q) (map (generation_at base) ps), none_past q past))
      (cases_lt q (length base))

  expected_below : (p : ℕ) → p < length base
      → expected_generation (joined_history base newer) p ≡ expected_generation base p
  unfolding expected_generation
  expected_below p below =
      ap (λ (ps : List ℕ). min GENERATION_NUMBER_MAX (1 + greatest (map (generation_at (joined_history base newer)) ps)))
      (parents_below p below)
      ∙ ap (λ (m : ℕ). min GENERATION_NUMBER_MAX (1 + m)) (greatest_below (parents_at base p))

  joined_local : AreLocal base → AreNumberedOnTop base newer → AreLocal (joined_history base newer)
  joined_local local numbered p within =
      ⊎_elim
      (λ (below : p < length base). generation_below p below ∙ local p below ∙ sym (expected_below p below))
      (λ (above : length base ≤ p). numbered p above (omega (arith, within, joined_length)))
      (cases_lt p (length base))

  pub joined_counts : CountWalks base → AreNumberedOnTop base newer → CountWalks (joined_history base newer)
  joined_counts counts numbered =
      counts_from_local (joined_history base newer) (joined_local (local_from_counts base counts) numbered)

-- one more commit on top

pub map_agrees : (f g : ℕ → ℕ) (ps : List ℕ) → ((q : ℕ) → Contains ps q → f q ≡ g q) → map f ps ≡ map g ps
map_agrees f g [] same = refl
map_agrees f g (q ∷ ps) same =
    ap (λ (m : ℕ). m ∷ map f ps) (same q (head_contained q ps))
    ∙ ap (λ (ms : List ℕ). g q ∷ ms) (map_agrees f g ps (λ x contained. same x (tail_contained q x ps contained)))

module _ (base newer : List Node) (generation : ℕ) (parents : List ℕ) where
  one : List Node
  one = record { generation = generation; parents = parents } ∷ []

  longer : joined_history base (newer ++ one) ≡ joined_history base newer ++ one
  unfolding one
  longer = sym (append_assoc (map (node_within (length base)) base) newer one)

  module _ (q : ℕ) (within : q < length base + length newer) where
    node_kept : slice_get (joined_history base (newer ++ one)) q ≡ slice_get (joined_history base newer) q
    node_kept =
        ap (λ (hs : List Node). slice_get hs q) longer
        ∙ get_left (joined_history base newer) one q (omega (arith, within, joined_length base newer))

    generation_kept : generation_at (joined_history base (newer ++ one)) q ≡ generation_at (joined_history base newer) q
    generation_kept = ap (λ o. option_map_or (λ (n : Node). n.generation) o 0) node_kept

    parents_kept : parents_at (joined_history base (newer ++ one)) q ≡ parents_at (joined_history base newer) q
    parents_kept = ap (λ o. option_map_or (λ (n : Node). n.parents) o []) node_kept

  expects : (ps : List ℕ) → ((q : ℕ) → Contains ps q → q < length base + length newer)
      → min GENERATION_NUMBER_MAX (1 + greatest (map (generation_at (joined_history base (newer ++ one))) ps))
      ≡ min GENERATION_NUMBER_MAX (1 + greatest (map (generation_at (joined_history base newer)) ps))
  expects ps within =
      ap (λ (ms : List ℕ). min GENERATION_NUMBER_MAX (1 + greatest ms))
      (map_agrees (generation_at (joined_history base (newer ++ one))) (generation_at (joined_history base newer)) ps
      (λ q contained. generation_kept q (within q contained)))

  node_last : slice_get (joined_history base (newer ++ one)) (length base + length newer)
      ≡ Some (record { generation = generation; parents = parents })
  unfolding one
  node_last =
      ap (λ (hs : List Node). slice_get hs (length base + length newer)) longer
      ∙ ap (λ (n : ℕ). slice_get (joined_history base newer ++ one) n) (sym (joined_length base newer))
      ∙ get_pushed (joined_history base newer) (record { generation = generation; parents = parents })

  pub numbered_pushed : AreNumberedOnTop base newer
      → ((i q : ℕ) → Contains (parents_at newer i) q → q < length base + i)
      → ((q : ℕ) → Contains parents q → q < length base + length newer)
      → generation ≡ min GENERATION_NUMBER_MAX (1 + greatest (map (generation_at (joined_history base newer)) parents))
      → AreNumberedOnTop base (newer ++ record { generation = generation; parents = parents } ∷ [])
  unfolding expected_generation one
  numbered_pushed numbered order before number p above within =
      ⊎_elim
      (λ (old : p < length base + length newer).
      generation_kept p old
      ∙ numbered p above old
      ∙ sym (expects (parents_at (joined_history base newer) p) (λ q contained.
      omega (
        arith,
        old,
        order (p - length base) q
            (subst (λ (ps : List ℕ). Contains ps q) (parents_above base newer p above) contained),
      )))
      ∙ ap (λ (ps : List ℕ). min GENERATION_NUMBER_MAX
      (1 + greatest (map (generation_at (joined_history base (newer ++ one))) ps))) (sym (parents_kept p old)))
      (λ (last : length base + length newer ≤ p).
      let here : p ≡ length base + length newer = omega (arith, last, within, length-append newer one) in
      let node : slice_get (joined_history base (newer ++ one)) p ≡ Some (record { generation = generation; parents = parents }) =
      ap (λ (x : ℕ). slice_get (joined_history base (newer ++ one)) x) here ∙ node_last in
      ap (λ o. option_map_or (λ (n : Node). n.generation) o 0) node
      ∙ number
      ∙ sym (expects parents before)
      ∙ ap (λ (ps : List ℕ). min GENERATION_NUMBER_MAX
      (1 + greatest (map (generation_at (joined_history base (newer ++ one))) ps)))
      (sym (ap (λ o. option_map_or (λ (n : Node). n.parents) o []) node)))
      (cases_lt p (length base + length newer))
