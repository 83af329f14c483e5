-- Corrected dates and walks: what each commit and its parents say, and what whole walks say.
use Rattle.std.proofs.Common.{◌≡◌, ℕ, suc, zero, ◌+◌, ◌-◌, ◌<◌, ◌≤◌, max, eqb, true, false, List, [], ◌∷◌, map, length, Some}
use Rattle.std.proofs.Common.{refl, sym, ap, ◌∙◌, subst, ⊎_elim, arith}
use Rattle.std.specs.List.{AllByRecursion, IsDistinct, list_any}
use Rattle.std.proofs.lemmas.Option.{slice_get_within, slice_get-get_or, get_or_from_slice_get}
use Rattle.std.proofs.lemmas.Bool.{cases_lt, cases_Bool, eqb-true, ne_eqb}
use Rattle.std.proofs.lemmas.Map.Steps.{length-le_from_distinct_below}
use Rattle.graph_walks.specs.Counts.{greatest}
use Rattle.graph_walks.specs.History.{Node, IsParent, parents_at}
use Rattle.graph_walks.specs.Walks.{IsProperAncestor}
use Rattle.graph_walks.specs.Dates.{number_at, expected_date, AreRight, AreGreatest}
use Rattle.graph_walks.proofs.GreatestLemmas.{greatest-cons, greatest_bounds, greatest_reached}
use Rattle.graph_walks.proofs.WalkPathLemmas.{Path, between_from_path, path_from_between}

-- what stands past the end has the number 0
number_past : (ns : List ℕ) (p : ℕ) → length ns ≤ p → number_at ns p ≡ 0
number_past [] p le = refl
number_past (n ∷ ns) zero le = absurd (omega arith)
number_past (n ∷ ns) (suc p) le = number_past ns p (omega arith)

within_from_date : (h : List Node) (ds : List ℕ) (p : ℕ) → length ds ≡ length h → 1 ≤ number_at ds p → p < length h
within_from_date h ds p many pos =
    ⊎_elim
    (λ (lt : p < length h). lt)
    (λ (le : length h ≤ p). let none : number_at ds p ≡ 0 = number_past ds p (omega arith) in absurd (omega arith))
    (cases_lt p (length h))

-- the greatest date of the parents
abbrev latest : List Node → List ℕ → ℕ → ℕ
latest h ds p = greatest (map (number_at ds) (parents_at h p))

parent_bound : (h : List Node) (ds : List ℕ) (p q : ℕ) → IsParent h p q → number_at ds q ≤ latest h ds p
parent_bound h ds p q (_, _, (k, lt, at)) =
    greatest_bounds (number_at ds) (parents_at h p) k q (slice_get-get_or (parents_at h p) k q lt ∙ ap (λ x. Some x) at)

-- where a parent has a date above 0, one that is a commit has the greatest
latest_parent : (h : List Node) (ds : List ℕ) (p : ℕ) → length ds ≡ length h → p < length h → 0 < latest h ds p
    → (q : ℕ) × IsParent h p q × (number_at ds q ≡ latest h ds p)
latest_parent h ds p many within pos =
    let found = greatest_reached (number_at ds) (parents_at h p) pos in
    let q = found.1 in (
      q,
      (
        within,
        within_from_date h ds q many (omega (arith, found.3)),
        (
          found.0,
          slice_get_within (parents_at h p) found.0 q found.2,
          get_or_from_slice_get (parents_at h p) found.0 q q found.2,
        ),
      ),
      found.3,
    )

-- Where the dates are right.

-- along a walk the date falls by a second or more with each step
pub dates_fall : (h : List Node) (ts ds : List ℕ) → AreRight h ts ds → (p q : ℕ) (rest : List ℕ) → Path h p q rest
    → number_at ds q + length rest ≤ number_at ds p
unfolding expected_date
dates_fall h ts ds right p q [] w = let same : number_at ds p ≡ number_at ds q = ap (number_at ds) w.0 in omega arith
dates_fall h ts ds right p q (y ∷ rest) w =
    let below : number_at ds q + length rest ≤ number_at ds y = dates_fall h ts ds right y q rest w.1 in
    let same : number_at ds p ≡ expected_date h ts ds p = right.expected p w.0.0 in
    let bound : number_at ds y ≤ latest h ds p = parent_bound h ds p y w.0 in
    omega arith

ends_within : (h : List Node) (p q : ℕ) (rest : List ℕ) → Path h p q rest → q < length h
ends_within h p q [] w = subst (λ (z : ℕ). z < length h) w.0 w.1
ends_within h p q (y ∷ rest) w = ends_within h y q rest w.1

path_bound : (h : List Node) (ts ds : List ℕ) → AreRight h ts ds → (p q : ℕ) (rest : List ℕ) → Path h p q rest
    → max 1 (number_at ts q) + length rest ≤ number_at ds p
unfolding expected_date
path_bound h ts ds right p q rest w =
    let fall = dates_fall h ts ds right p q rest w in
    let same : number_at ds q ≡ expected_date h ts ds q = right.expected q (ends_within h p q rest w) in
    omega arith

path_reached : (h : List Node) (ts ds : List ℕ) → AreRight h ts ds → (n p : ℕ) → p < length h → number_at ds p ≤ n
    → (q : ℕ) × (rest : List ℕ) × Path h p q rest × (number_at ds p ≡ max 1 (number_at ts q) + length rest)
unfolding expected_date
path_reached h ts ds right zero p within le =
    let same : number_at ds p ≡ expected_date h ts ds p = right.expected p within in absurd (omega arith)
path_reached h ts ds right (suc n) p within le =
    let same : number_at ds p ≡ expected_date h ts ds p = right.expected p within in
    ⊎_elim
    (λ (later : number_at ts p < 1 + latest h ds p).
    ⊎_elim
    (λ (some : 0 < latest h ds p).
    let parent = latest_parent h ds p right.as_many within some in
    let one : number_at ds parent.0 ≡ latest h ds p = parent.2 in
    let more = path_reached h ts ds right n parent.0 parent.1.1 (omega arith) in
    let date : number_at ds parent.0 ≡ max 1 (number_at ts more.0) + length more.1 = more.3 in
    (more.0, parent.0 ∷ more.1, (parent.1, more.2), omega arith))
    (λ (none : latest h ds p ≤ 0). (p, [], (refl, within), omega arith))
    (cases_lt 0 (latest h ds p)))
    (λ (now : 1 + latest h ds p ≤ number_at ts p). (p, [], (refl, within), omega arith))
    (cases_lt (number_at ts p) (1 + latest h ds p))

one_less : (n : ℕ) → suc n - 1 ≡ n
one_less n = omega arith

pub greatest_from_right : (h : List Node) (ts ds : List ℕ) → AreRight h ts ds → AreGreatest h ts ds
greatest_from_right h ts ds right = record {
  as_many = right.as_many;
  each = λ p within. record {
    reached =
        let path = path_reached h ts ds right (number_at ds p) p within (omega arith) in (
          path.0,
          p ∷ path.1,
          between_from_path h p path.0 path.1 path.2,
          path.3 ∙ ap (λ (k : ℕ). max 1 (number_at ts path.0) + k) (sym (one_less (length path.1))),
        );
    greatest = λ q walk between.
        let path = path_from_between h p q walk between in
        let bound = path_bound h ts ds right p q path.0 path.2 in
        let size : length walk ≡ suc (length path.0) = ap (λ (w : List ℕ). length w) path.1 in
        omega arith;
  };
}

-- Where they are the greatest over walks.

bound_by_path : (h : List Node) (ts ds : List ℕ) → AreGreatest h ts ds → (p q : ℕ) (rest : List ℕ) → p < length h
    → Path h p q rest → max 1 (number_at ts q) + length rest ≤ number_at ds p
bound_by_path h ts ds most p q rest within w =
    let bound = (most.each p within).greatest q (p ∷ rest) (between_from_path h p q rest w) in omega arith

reached_by_path : (h : List Node) (ts ds : List ℕ) → AreGreatest h ts ds → (p : ℕ) → p < length h
    → (q : ℕ) × (rest : List ℕ) × Path h p q rest × (number_at ds p ≡ max 1 (number_at ts q) + length rest)
reached_by_path h ts ds most p within =
    let walk = (most.each p within).reached in
    let path = path_from_between h p walk.0 walk.1 walk.2 in
    let size : length walk.1 ≡ suc (length path.0) = ap (λ (w : List ℕ). length w) path.1 in
    (walk.0, path.0, path.2, omega (arith, walk.3))

at_least_expected : (h : List Node) (ts ds : List ℕ) → AreGreatest h ts ds → (p : ℕ) → p < length h
    → expected_date h ts ds p ≤ number_at ds p
unfolding expected_date
at_least_expected h ts ds most p within =
    let own : max 1 (number_at ts p) + 0 ≤ number_at ds p = bound_by_path h ts ds most p p [] within (refl, within) in
    ⊎_elim
    (λ (some : 0 < latest h ds p).
    let parent = latest_parent h ds p most.as_many within some in
    let one : number_at ds parent.0 ≡ latest h ds p = parent.2 in
    let path = reached_by_path h ts ds most parent.0 parent.1.1 in
    let date : number_at ds parent.0 ≡ max 1 (number_at ts path.0) + length path.1 = path.3 in
    let longer : max 1 (number_at ts path.0) + suc (length path.1) ≤ number_at ds p =
    bound_by_path h ts ds most p path.0 (parent.0 ∷ path.1) within (parent.1, path.2) in
    omega arith)
    (λ (none : latest h ds p ≤ 0). omega arith)
    (cases_lt 0 (latest h ds p))

path_is_expected : (h : List Node) (ts ds : List ℕ) → AreGreatest h ts ds → (p q : ℕ) (rest : List ℕ) → Path h p q rest
    → max 1 (number_at ts q) + length rest ≤ expected_date h ts ds p
unfolding expected_date
path_is_expected h ts ds most p q [] w = let same : number_at ts p ≡ number_at ts q = ap (number_at ts) w.0 in omega arith
path_is_expected h ts ds most p q (y ∷ rest) w =
    let date : max 1 (number_at ts q) + length rest ≤ number_at ds y = bound_by_path h ts ds most y q rest w.0.1 w.1 in
    let bound : number_at ds y ≤ latest h ds p = parent_bound h ds p y w.0 in
    omega arith

pub right_from_greatest : (h : List Node) (ts ds : List ℕ) → AreGreatest h ts ds → AreRight h ts ds
right_from_greatest h ts ds most = record {
  as_many = most.as_many;
  expected = λ p within.
      let low = at_least_expected h ts ds most p within in
      let path = reached_by_path h ts ds most p within in
      let high = path_is_expected h ts ds most p path.0 path.1 path.2 in
      let date : number_at ds p ≡ max 1 (number_at ts path.0) + length path.1 = path.3 in
      omega arith;
}

-- Along a walk.

pub above_proper_ancestors : (h : List Node) (ts ds : List ℕ) (p q : ℕ) → AreRight h ts ds → IsProperAncestor h p q
    → number_at ds q < number_at ds p
above_proper_ancestors h ts ds p q right above =
    let path = path_from_between h p q above.0 above.1 in
    let two : 2 ≤ length (p ∷ path.0) = subst (λ (walk : List ℕ). 2 ≤ length walk) path.1 above.2 in
    let fall = dates_fall h ts ds right p q path.0 path.2 in
    omega arith

pub no_cycle : (h : List Node) (ts ds : List ℕ) (p : ℕ) → AreRight h ts ds → ¬ IsProperAncestor h p p
no_cycle h ts ds p right above = let fall = above_proper_ancestors h ts ds p p right above in omega arith

-- There is one list of them.

no_later : (h : List Node) (ts ds es : List ℕ) (p : ℕ) → AreGreatest h ts ds → AreGreatest h ts es → p < length h
    → number_at ds p ≤ number_at es p
no_later h ts ds es p most others within =
    let walk = (most.each p within).reached in
    let bound = (others.each p within).greatest walk.0 walk.1 walk.2 in
    omega (arith, walk.3)

pub one_list : (h : List Node) (ts ds es : List ℕ) (p : ℕ) → AreRight h ts ds → AreRight h ts es → number_at ds p ≡ number_at es p
one_list h ts ds es p right other =
    ⊎_elim
    (λ (within : p < length h).
    let most = greatest_from_right h ts ds right in
    let others = greatest_from_right h ts es other in
    let one = no_later h ts ds es p most others within in
    let two = no_later h ts es ds p others most within in
    omega arith)
    (λ (le : length h ≤ p).
    let none : number_at ds p ≡ 0 = number_past ds p (omega (arith, right.as_many)) in
    let nothing : number_at es p ≡ 0 = number_past es p (omega (arith, other.as_many)) in
    omega arith)
    (cases_lt p (length h))

-- They are early: no commit stands twice on a walk.

-- a commit whose date is no earlier than the first one's is none of those after it
apart_from_later : (h : List Node) (ts ds : List ℕ) → AreRight h ts ds → (x p q : ℕ) (rest : List ℕ) → Path h p q rest
    → number_at ds p ≤ number_at ds x → AllByRecursion (λ y. eqb x y ≡ false) rest
unfolding expected_date
apart_from_later h ts ds right x p q [] w le = tt
apart_from_later h ts ds right x p q (y ∷ rest) w le =
    let date : number_at ds p ≡ expected_date h ts ds p = right.expected p w.0.0 in
    let bound : number_at ds y ≤ latest h ds p = parent_bound h ds p y w.0 in
    let falls : number_at ds y < number_at ds x = omega arith in (
      ne_eqb x y (λ (same : x ≡ y). let one : number_at ds x ≡ number_at ds y = ap (number_at ds) same in omega arith),
      apart_from_later h ts ds right x y q rest w.1 (omega arith),
    )

distinct_along : (h : List Node) (ts ds : List ℕ) → AreRight h ts ds → (p q : ℕ) (rest : List ℕ) → Path h p q rest
    → IsDistinct eqb (p ∷ rest)
unfolding IsDistinct
distinct_along h ts ds right p q [] w = (tt, tt)
distinct_along h ts ds right p q (y ∷ rest) w =
    (apart_from_later h ts ds right p p q (y ∷ rest) w (omega arith), distinct_along h ts ds right y q rest w.1)

path_within : (h : List Node) (p q : ℕ) (rest : List ℕ) → Path h p q rest → (x : ℕ) → list_any (eqb x) (p ∷ rest) ≡ true
    → x < length h
path_within h p q [] w x has =
    ⊎_elim
    (λ (same : eqb x p ≡ true). let one : x ≡ p = eqb-true x p same in let within : p < length h = w.1 in omega arith)
    (λ (apart : eqb x p ≡ false). absurd (cc))
    (cases_Bool (eqb x p))
path_within h p q (y ∷ rest) w x has =
    ⊎_elim
    (λ (same : eqb x p ≡ true). let one : x ≡ p = eqb-true x p same in let within : p < length h = w.0.0 in omega arith)
    (λ (apart : eqb x p ≡ false). path_within h y q rest w.1 x (rw apart at has))
    (cases_Bool (eqb x p))

number_le_greatest : (ns : List ℕ) (p : ℕ) → number_at ns p ≤ greatest ns
number_le_greatest [] p = omega arith
number_le_greatest (n ∷ ns) zero = omega (arith, greatest-cons n ns)
number_le_greatest (n ∷ ns) (suc p) = omega (arith, greatest-cons n ns, number_le_greatest ns p)

pub early : (h : List Node) (ts ds : List ℕ) (p : ℕ) → AreRight h ts ds
    → number_at ds p ≤ max 1 (greatest ts) + (length h - 1)
early h ts ds p right =
    ⊎_elim
    (λ (within : p < length h).
    let path = path_reached h ts ds right (number_at ds p) p within (omega arith) in
    let date : number_at ds p ≡ max 1 (number_at ts path.0) + length path.1 = path.3 in
    let time = number_le_greatest ts path.0 in
    let few : suc (length path.1) ≤ length h =
    length-le_from_distinct_below (p ∷ path.1) (length h) (distinct_along h ts ds right p path.0 path.1 path.2)
    (path_within h p path.0 path.1 path.2) in
    omega arith)
    (λ (le : length h ≤ p). let none : number_at ds p ≡ 0 = number_past ds p (omega (arith, right.as_many)) in omega arith)
    (cases_lt p (length h))
