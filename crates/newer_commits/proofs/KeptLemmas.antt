-- Newer commits as they are kept.
use Rattle.std.specs.BTreeMap as tree
use Rattle.std.proofs.Common.{◌≡◌, ◌⊎◌, ℕ, suc, zero, ◌+◌, ◌<◌, ◌≤◌, List, [], ◌∷◌, ◌++◌, length, map, slice_get}
use Rattle.std.proofs.Common.{Contains}
use Rattle.std.proofs.Common.{Option, Some, None, option_map, refl, sym, ap, ◌∙◌, subst, inl, inr, ⊎_elim, arith, true, false}
use Rattle.std.specs.Map.{lookup}
use Rattle.std.specs.Option.{MatchOption, option_map_or}
use Rattle.std.specs.Ordering.{nat_cmp, is_eq}
use Rattle.std.specs.declared.cmp.Ordering.{Ordering}
use Rattle.std.specs.declared.cmp.Ordering.TheVariants.{Less, Equal, Greater}
use Rattle.std.specs.Cmp.{eq_by_cmp_equiv}
use Rattle.std.specs.Cmp.Lexicographic.{slice_cmp}
use Rattle.std.proofs.lemmas.Bool.{cases_Bool, cases_lt, cond-true, cond-false}
use Rattle.std.proofs.lemmas.Cmp.{nat_list_cmp_total}
use Rattle.std.proofs.lemmas.Map.Lookups.{exact_bytes}
use Rattle.std.proofs.lemmas.Option.{MatchOption-at_none, MatchOption-at_some}
use Rattle.std.proofs.lemmas.Option.{same_Some, none-some, slice_get_within, slice_get-map}
use Rattle.std.proofs.lemmas.List.{length-append, length-map, map-append}
use Rattle.std.proofs.lemmas.List.Elements.{Contains-push_cases}
use Rattle.graph_walks.specs.History.{Node, parents_at, generation_at}
use Rattle.newer_commits.specs.CommitsOnTop.{newer_commit}
use Rattle.newer_commits.specs.CommitsOnTop.{CommitsOnTop, NewerCommit, ids_on_top, nodes_on_top, AreAfterParents}
use Rattle.newer_commits.specs.Room.{IsFull}
use Rattle.newer_commits.specs.KeptCommits.{fields_name, AreWhole, commit_of, stored_ids, IsWellKept, AreNumbersOf}
use Rattle.newer_commits.specs.KeptCommits.{AreWellKept, kept_value, IsKeptAt, AreFieldsOnTop}
use Rattle.newer_commits.specs.declared.commits.Stored.{Stored}
use Rattle.newer_commits.proofs.ListedLemmas.{whole_kept, fields_kept}

-- one more at the end

pub get_pushed : {X : Type 0} (xs : List X) (x : X) → slice_get (xs ++ x ∷ []) (length xs) ≡ Some x
get_pushed [] x = refl
get_pushed (y ∷ xs) x = get_pushed xs x

pub get_old : {X : Type 0} (xs ys : List X) (i : ℕ) (y : X) → slice_get xs i ≡ Some y → slice_get (xs ++ ys) i ≡ Some y
get_old [] ys i y at = absurd (none-some y at)
get_old (x ∷ xs) ys zero y at = at
get_old (x ∷ xs) ys (suc i) y at = get_old xs ys i y at

pub push_cases : {X : Type 0} (xs : List X) (x : X) (i : ℕ) (y : X) → slice_get (xs ++ x ∷ []) i ≡ Some y
    → (slice_get xs i ≡ Some y) ⊎ ((i ≡ length xs) × (x ≡ y))
push_cases [] x zero y at = inr (refl, same_Some x y at)
push_cases [] x (suc i) y at = absurd (none-some y at)
push_cases (z ∷ xs) x zero y at = inl at
push_cases (z ∷ xs) x (suc i) y at =
    ⊎_elim
    (λ (old : slice_get xs i ≡ Some y). inl old)
    (λ (last : (i ≡ length xs) × (x ≡ y)). inr (ap suc last.0, last.1))
    (push_cases xs x i y at)

-- the map of numbers, with one more

is_equal_from : (o : Ordering) → is_eq o ≡ true → o ≡ Equal
is_equal_from Less is = absurd (cc)
is_equal_from Equal is = refl
is_equal_from Greater is = absurd (cc)

module _ (numbers after : tree.BTreeMap (List ℕ) ℕ) (ids : List (List ℕ)) (id : List ℕ) (right : AreNumbersOf numbers ids)
    (updates : tree.Updates (slice_cmp nat_cmp) numbers after id (Some (length ids))) where
  at_others : (q : List ℕ) → tree.is_at (slice_cmp nat_cmp id) q ≡ false
      → (o : Option ℕ) → tree.get (slice_cmp nat_cmp) numbers q ≡ o
      → MatchOption o (¬ Contains ids q) (λ i. slice_get ids i ≡ Some q)
      → MatchOption o (¬ Contains (ids ++ id ∷ []) q) (λ i. slice_get (ids ++ id ∷ []) i ≡ Some q)
  at_others q apart None is told = λ contains.
      ⊎_elim
      (λ (old : Contains ids q). told old)
      (λ (same : id ≡ q).
      let reflexive : tree.is_at (slice_cmp nat_cmp id) id ≡ true = (eq_by_cmp_equiv nat_list_cmp_total).refl id in
      let here : tree.is_at (slice_cmp nat_cmp id) id ≡ false = ap (tree.is_at (slice_cmp nat_cmp id)) same ∙ apart in
      absurd (cc))
      (Contains-push_cases ids id q contains)
  at_others q apart (Some i) is told = get_old ids (id ∷ []) i q told

  pub numbers_pushed : AreNumbersOf after (ids ++ id ∷ [])
  numbers_pushed q =
      ⊎_elim
      (λ (here : tree.is_at (slice_cmp nat_cmp id) q ≡ true).
      let same : id ≡ q = exact_bytes id q (is_equal_from (slice_cmp nat_cmp id q) here) in
      let found : tree.get (slice_cmp nat_cmp) after q ≡ Some (length ids) = updates.0 q ∙ cond-true _ _ _ here in
      subst (λ (o : Option ℕ). MatchOption o (¬ Contains (ids ++ id ∷ []) q) (λ i. slice_get (ids ++ id ∷ []) i ≡ Some q))
      (sym found) (get_pushed ids id ∙ ap (λ (x : List ℕ). Some x) same))
      (λ (apart : tree.is_at (slice_cmp nat_cmp id) q ≡ false).
      let kept : tree.get (slice_cmp nat_cmp) after q ≡ tree.get (slice_cmp nat_cmp) numbers q =
      updates.0 q ∙ cond-false _ _ _ apart in
      subst (λ (o : Option ℕ). MatchOption o (¬ Contains (ids ++ id ∷ []) q) (λ i. slice_get (ids ++ id ∷ []) i ≡ Some q))
      (sym kept) (at_others q apart (tree.get (slice_cmp nat_cmp) numbers q) refl (right q)))
      (cases_Bool (tree.is_at (slice_cmp nat_cmp id) q))

-- the commits that are kept, where words are added behind the others

pub commits_kept : (words more : List ℕ) (commits : List Stored)
    → ((i : ℕ) (s : Stored) → slice_get commits i ≡ Some s → AreWhole words s.fields)
    → map (commit_of (words ++ more)) commits ≡ map (commit_of words) commits
commits_kept words more [] whole = refl
commits_kept words more (s ∷ commits) whole =
    let here : commit_of (words ++ more) s ≡ commit_of words s =
    ap (λ (ps : List ℕ). record { id = s.id; node = record { generation = s.generation; parents = ps } })
    (fields_kept words more s.fields (whole 0 s refl)) in
    let rest : map (commit_of (words ++ more)) commits ≡ map (commit_of words) commits =
    commits_kept words more commits (λ i x at. whole (suc i) x at) in
    ap (λ (c : NewerCommit). c ∷ map (commit_of (words ++ more)) commits) here
    ∙ ap (λ (cs : List NewerCommit). commit_of words s ∷ cs) rest

well_kept_after : (words more : List ℕ) (bound : ℕ) (s : Stored) → IsWellKept words bound s → IsWellKept (words ++ more) bound s
well_kept_after words more bound s kept = record {
  whole = (whole_kept words more s.fields.0 kept.whole.0, whole_kept words more s.fields.1 kept.whole.1);
  parents = λ q contained.
      kept.parents q (subst (λ (ps : List ℕ). Contains ps q) (fields_kept words more s.fields kept.whole) contained);
}

pub ids_kept : (below : ℕ) (commits : List Stored) (words : List ℕ)
    → ids_on_top (kept_value below commits words) ≡ stored_ids commits
ids_kept below [] words = refl
ids_kept below (s ∷ commits) words = ap (λ (ids : List (List ℕ)). s.id ∷ ids) (ids_kept below commits words)

-- with one more commit

module _ (below : ℕ) (numbers after : tree.BTreeMap (List ℕ) ℕ) (commits : List Stored) (words more : List ℕ) (s : Stored)
    (kept : AreWellKept below numbers commits words) (whole : AreWhole (words ++ more) s.fields)
    (before : (q : ℕ) → Contains (fields_name (words ++ more) s.fields) q → q < below + length commits)
    (updates : tree.Updates (slice_cmp nat_cmp) numbers after s.id (Some (length commits)))
    (room : below + length commits < 0x70000000) (short : length (words ++ more) < 4294967296) where
  well_kept_pushed : (i : ℕ) (x : Stored) → slice_get (commits ++ s ∷ []) i ≡ Some x → IsWellKept (words ++ more) (below + i) x
  well_kept_pushed i x at =
      ⊎_elim
      (λ (old : slice_get commits i ≡ Some x). well_kept_after words more (below + i) x (kept.each i x old))
      (λ (last : (i ≡ length commits) × (s ≡ x)).
      subst (λ (y : Stored). IsWellKept (words ++ more) (below + i) y) last.1
      (record { whole = whole; parents = λ q contained. omega (arith, before q contained, last.0) }))
      (push_cases commits s i x at)

  ids_pushed : stored_ids (commits ++ s ∷ []) ≡ stored_ids commits ++ s.id ∷ []
  ids_pushed = map-append (λ (x : Stored). x.id) commits (s ∷ [])

  counted : length (stored_ids commits) ≡ length commits
  counted = length-map commits (λ (x : Stored). x.id)

  pub kept_pushed : AreWellKept below after (commits ++ s ∷ []) (words ++ more)
  kept_pushed = record {
    each = well_kept_pushed;
    numbered =
        subst (AreNumbersOf after) (sym ids_pushed)
        (numbers_pushed numbers after (stored_ids commits) s.id kept.numbered
        (subst (λ (n : ℕ). tree.Updates (slice_cmp nat_cmp) numbers after s.id (Some n)) (sym counted) updates));
    few = inr (omega (arith, length-append commits (s ∷ []), room));
    few_words = short;
    narrow = kept.narrow;
  }

pub commits_pushed : (below : ℕ) (numbers : tree.BTreeMap (List ℕ) ℕ) (commits : List Stored) (words more : List ℕ) (s : Stored)
    → AreWellKept below numbers commits words → (id : List ℕ) (generation : ℕ) (parents : List ℕ) → s.id ≡ id
    → s.generation ≡ generation → fields_name (words ++ more) s.fields ≡ parents
    → map (commit_of (words ++ more)) (commits ++ s ∷ [])
    ≡ map (commit_of words) commits ++ newer_commit id generation parents ∷ []
commits_pushed below numbers commits words more s kept id generation parents is_id is_generation named =
    map-append (commit_of (words ++ more)) commits (s ∷ [])
    ∙ ap (λ (cs : List NewerCommit). cs ++ commit_of (words ++ more) s ∷ [])
    (commits_kept words more commits (λ i x at. (kept.each i x at).whole))
    ∙ ap (λ (c : NewerCommit). map (commit_of words) commits ++ c ∷ []) last
  where
    last : commit_of (words ++ more) s ≡ newer_commit id generation parents
    last =
        ap (λ (ps : List ℕ). newer_commit s.id s.generation ps) named
        ∙ ap (λ (g : ℕ). newer_commit s.id g parents) is_generation
        ∙ ap (λ (x : List ℕ). newer_commit x generation parents) is_id

-- what is told of one

module _ (below : ℕ) (numbers : tree.BTreeMap (List ℕ) ℕ) (commits : List Stored) (words : List ℕ)
    (kept : AreWellKept below numbers commits words) where
  pub kept_at : (i : ℕ) (s : Stored) → slice_get commits i ≡ Some s → IsKeptAt (kept_value below commits words) i s
  kept_at i s at =
      (slice_get-map (commit_of words) commits i ∙ ap (λ o. option_map (commit_of words) o) at, kept.each i s at)

  pub after_parents : AreAfterParents (kept_value below commits words)
  after_parents i q contained = by_cases (slice_get commits i) refl
    where
      node_at : slice_get (nodes_on_top (kept_value below commits words)) i
          ≡ option_map (λ (c : NewerCommit). c.node) (option_map (commit_of words) (slice_get commits i))
      node_at =
          slice_get-map (λ (c : NewerCommit). c.node) (map (commit_of words) commits) i
          ∙ ap (λ o. option_map (λ (c : NewerCommit). c.node) o) (slice_get-map (commit_of words) commits i)

      parents_are : (o : Option Stored) → slice_get commits i ≡ o
          → parents_at (nodes_on_top (kept_value below commits words)) i
          ≡ option_map_or (λ (n : Node). n.parents)
          (option_map (λ (c : NewerCommit). c.node) (option_map (commit_of words) o)) []
      parents_are o at =
          ap (λ n. option_map_or (λ (x : Node). x.parents) n []) node_at
          ∙ ap (λ (x : Option Stored). option_map_or (λ (n : Node). n.parents)
          (option_map (λ (c : NewerCommit). c.node) (option_map (commit_of words) x)) []) at

      by_cases : (o : Option Stored) → slice_get commits i ≡ o → q < below + i
      by_cases None at =
          let none : Contains [] q = subst (λ (ps : List ℕ). Contains ps q) (parents_are None at) contained in
          absurd (omega (arith, none.1))
      by_cases (Some s) at =
          (kept.each i s at).parents q (subst (λ (ps : List ℕ). Contains ps q) (parents_are (Some s) at) contained)

pub kept_parents : (top : CommitsOnTop) (i : ℕ) (s : Stored) → IsKeptAt top i s
    → parents_at (nodes_on_top top) i ≡ fields_name top.words s.fields
kept_parents top i s at =
    ap (λ o. option_map_or (λ (n : Node). n.parents) o [])
    (slice_get-map (λ (c : NewerCommit). c.node) top.commits i ∙ ap (λ o. option_map (λ (c : NewerCommit). c.node) o) at.0)

pub kept_generation : (top : CommitsOnTop) (i : ℕ) (s : Stored) → IsKeptAt top i s
    → generation_at (nodes_on_top top) i ≡ s.generation
kept_generation top i s at =
    ap (λ o. option_map_or (λ (n : Node). n.generation) o 0)
    (slice_get-map (λ (c : NewerCommit). c.node) top.commits i ∙ ap (λ o. option_map (λ (c : NewerCommit). c.node) o) at.0)

pub kept_id : (top : CommitsOnTop) (i : ℕ) (s : Stored) → IsKeptAt top i s → slice_get (ids_on_top top) i ≡ Some s.id
kept_id top i s at =
    slice_get-map (λ (c : NewerCommit). c.id) top.commits i ∙ ap (λ o. option_map (λ (c : NewerCommit). c.id) o) at.0

pub kept_fields : (top : CommitsOnTop) (i : ℕ) (s : Stored) → IsKeptAt top i s
    → AreFieldsOnTop top i (parents_at (nodes_on_top top) i) s.fields
kept_fields top i s at = record {
  named = sym (kept_parents top i s at);
  whole = at.1.whole;
  before = λ q contained. at.1.parents q (subst (λ (ps : List ℕ). Contains ps q) (kept_parents top i s at) contained);
}

-- the lookup of an id
module _ (below : ℕ) (numbers : tree.BTreeMap (List ℕ) ℕ) (commits : List Stored) (words : List ℕ)
    (kept : AreWellKept below numbers commits words) (id : List ℕ) where
  pub not_there : tree.get (slice_cmp nat_cmp) numbers id ≡ None → ¬ Contains (ids_on_top (kept_value below commits words)) id
  not_there none = λ contained.
      MatchOption-at_none (¬ Contains (stored_ids commits) id) (λ i. slice_get (stored_ids commits) i ≡ Some id) none
      (kept.numbered id)
      (subst (λ (ids : List (List ℕ)). Contains ids id) (ids_kept below commits words) contained)

  pub there_at : (n : ℕ) → tree.get (slice_cmp nat_cmp) numbers id ≡ Some n
      → (slice_get (ids_on_top (kept_value below commits words)) n ≡ Some id) × (n < length commits)
  there_at n found =
      let at : slice_get (stored_ids commits) n ≡ Some id =
      MatchOption-at_some (¬ Contains (stored_ids commits) id) (λ i. slice_get (stored_ids commits) i ≡ Some id) n found
      (kept.numbered id) in (
        ap (λ (ids : List (List ℕ)). slice_get ids n) (ids_kept below commits words) ∙ at,
        omega (arith, slice_get_within (stored_ids commits) n id at, length-map commits (λ (s : Stored). s.id)),
      )

-- where nothing has changed but how the map lies in memory
pub kept_same : (below : ℕ) (numbers after : tree.BTreeMap (List ℕ) ℕ) (commits : List Stored) (words : List ℕ)
    → AreWellKept below numbers commits words → after.entries ≡ numbers.entries → AreWellKept below after commits words
kept_same below numbers after commits words kept same = record {
  each = kept.each;
  numbered = λ id.
      subst
      (λ (o : Option ℕ). MatchOption o (¬ Contains (stored_ids commits) id) (λ i. slice_get (stored_ids commits) i ≡ Some id))
      (sym (ap (lookup (tree.is_at (slice_cmp nat_cmp id))) same)) (kept.numbered id);
  few = kept.few;
  few_words = kept.few_words;
  narrow = kept.narrow;
}

pub room_left : (top : CommitsOnTop) (parents : ℕ) → ¬ IsFull top parents
    → (top.below + length top.commits < 0x70000000) × (length top.words + parents < 4294967296)
room_left top parents room = (
  ⊎_elim
      (λ (lt : top.below + length top.commits < 0x70000000). lt)
      (λ (le : 0x70000000 ≤ top.below + length top.commits). absurd (room (inl le)))
      (cases_lt (top.below + length top.commits) 0x70000000),
  ⊎_elim
      (λ (lt : length top.words + parents < 4294967296). lt)
      (λ (le : 4294967296 ≤ length top.words + parents). absurd (room (inr le)))
      (cases_lt (length top.words + parents) 4294967296),
)
