-- why the way through two trees stops
use Rattle.std.proofs.Common.{◌≡◌, ◌≢◌, ℕ, ◌+◌, ◌<◌, ◌≤◌, Bool, true, false, cond, List, [], ◌∷◌, ◌++◌, Option, Some, length}
use Rattle.std.proofs.Common.{refl, sym, ap, ◌∙◌, subst, ◌⊎◌, inl, inr, arith}
use Rattle.std.specs.Prelude.{All}
use Rattle.std.specs.List.{sum_by}
use Rattle.std.specs.Ordering.{nat_cmp}
use Rattle.std.specs.declared.cmp.Ordering.TheVariants.{Less}
use Rattle.std.specs.Cmp.Lexicographic.{slice_cmp}
use Rattle.std.proofs.lemmas.Cmp.{nat_list_cmp_total, tied_itself}
use Rattle.std.proofs.lemmas.List.Elements.{All-nil, All-cons, All-head, All-tail}
use Rattle.std.proofs.lemmas.List.Sums.{sum_by-cons}
use Rattle.tree_changes.specs.Stands.{World, TreePath, item_id, entries_of, slashed, HasOtherDirectory, directory_at}
use Rattle.tree_changes.specs.Changes.{one_if_some, trees_at, AreDistinctPaths, IsMuch, IsDeeper, IsNeeded}
use Rattle.tree_changes.specs.Walk.{Change, IsChange, IsEarlier, change_key, end_if, trees_of, AreRisingChanges}

abbrev pub path_of : Change → TreePath
path_of c = record { directories = c.directories; name = c.name }

-- the paths of the directories among changes
abbrev pub directory_paths : List Change → List TreePath
directory_paths [] = []
directory_paths (c ∷ changes) = cond c.directory (path_of c ∷ directory_paths changes) (directory_paths changes)

all_cond : {X : Type 0} (P : X → Type 0) (d : Bool) (x : X) (xs : List X) → (d ≡ true → P x) → All P xs
    → All P (cond d (x ∷ xs) xs)
all_cond P true x xs f h = All-cons P x xs (f refl) h
all_cond P false x xs f h = h

module _ (world : World) (old new : Option (List ℕ)) where
  abbrev IsBetween : Change → Type 0
  IsBetween c = IsChange world (entries_of world old) (entries_of world new) c

  pub other_directory : (c : Change) → IsBetween c → c.directory ≡ true → HasOtherDirectory world old new (path_of c)
  other_directory c h e same =
      let P : Bool → Type 0 = λ d. IsChange world (entries_of world old) (entries_of world new)
      (record { directory = d; directories = c.directories; name = c.name; old = c.old; new = c.new }) in
      let k = subst P e h in
      k.2 (sym k.0 ∙ same ∙ k.1)

  pub is_deeper : (c : Change) (names : ℕ) → IsBetween c → c.directory ≡ true → names ≤ length c.directories + 1
      → IsDeeper world old new names
  is_deeper c names h e long = record { path = path_of c; other = other_directory c h e; long = long }

  pub is_needed : (c : Change) (id : List ℕ) → IsBetween c → c.directory ≡ true
      → (item_id c.old ≡ Some id) ⊎ (item_id c.new ≡ Some id)
      → IsNeeded world old new id
  is_needed c id h e which =
      let P : Bool → Type 0 = λ d. IsChange world (entries_of world old) (entries_of world new)
      (record { directory = d; directories = c.directories; name = c.name; old = c.old; new = c.new }) in
      let k = subst P e h in
      inr (inr (
        path_of c,
        other_directory c h e,
        elim which [ inl x ↦ inl (ap item_id k.0 ∙ x) | inr y ↦ inr (ap item_id k.1 ∙ y) ],
      ))

  trees_are : (c : Change) → IsBetween c → c.directory ≡ true
      → trees_at world old new (path_of c) ≡ one_if_some c.old + one_if_some c.new
  trees_are c h e =
      let P : Bool → Type 0 = λ d. IsChange world (entries_of world old) (entries_of world new)
      (record { directory = d; directories = c.directories; name = c.name; old = c.old; new = c.new }) in
      let k = subst P e h in
      ap (λ t. one_if_some t + one_if_some (directory_at world new (path_of c))) k.0
      ∙ ap (λ t. one_if_some c.old + one_if_some t) k.1

  sum_cond : (d : Bool) (path : TreePath) (paths : List TreePath) (n m : ℕ) → (d ≡ true → trees_at world old new path ≡ n)
      → sum_by (trees_at world old new) paths ≡ m
      → sum_by (trees_at world old new) (cond d (path ∷ paths) paths) ≡ cond d n 0 + m
  sum_cond true path paths n m f h =
      sum_by-cons (trees_at world old new) path paths ∙ ap (λ t. t + sum_by (trees_at world old new) paths) (f refl)
      ∙ ap (λ t. n + t) h
  sum_cond false path paths n m f h = omega (arith, h)

  sum_is : (changes : List Change) → All IsBetween changes
      → sum_by (trees_at world old new) (directory_paths changes) ≡ sum_by trees_of changes
  sum_is [] h = refl
  sum_is (c ∷ changes) h =
      sum_cond c.directory (path_of c) (directory_paths changes) (one_if_some c.old + one_if_some c.new) (sum_by trees_of changes)
      (trees_are c (All-head IsBetween c changes h)) (sum_is changes (All-tail IsBetween c changes h))
      ∙ sym (sum_by-cons trees_of c changes)

  others : (changes : List Change) → All IsBetween changes → All (HasOtherDirectory world old new) (directory_paths changes)
  others [] h = All-nil (HasOtherDirectory world old new)
  others (c ∷ changes) h =
      all_cond (HasOtherDirectory world old new) c.directory (path_of c) (directory_paths changes)
      (other_directory c (All-head IsBetween c changes h)) (others changes (All-tail IsBetween c changes h))

  never_before_itself : (k : List ℕ) → slice_cmp nat_cmp k k ≡ Less → ⊥
  never_before_itself k h = let tied = tied_itself nat_list_cmp_total k in cc

  apart : (c d : Change) → c.directory ≡ true → d.directory ≡ true → IsEarlier c d → path_of d ≢ path_of c
  apart c d e f h same =
      let key : (x : Change) → x.directory ≡ true → change_key x
      ≡ slashed (path_of x).directories ++ ((path_of x).name ++ 47 ∷ []) =
      λ x g. ap (λ t. slashed x.directories ++ (x.name ++ end_if t)) g in
      let keys : change_key d ≡ change_key c =
      key d f ∙ ap (λ (t : TreePath). slashed t.directories ++ (t.name ++ 47 ∷ [])) same ∙ sym (key c e) in
      never_before_itself (change_key c) (subst (λ t. slice_cmp nat_cmp (change_key c) t ≡ Less) keys h)

  all_apart : (c : Change) (changes : List Change) → c.directory ≡ true → All (IsEarlier c) changes
      → All (λ path. path ≢ path_of c) (directory_paths changes)
  all_apart c [] e h = All-nil (λ path. path ≢ path_of c)
  all_apart c (d ∷ changes) e h =
      all_cond (λ path. path ≢ path_of c) d.directory (path_of d) (directory_paths changes)
      (λ f. apart c d e f (All-head (IsEarlier c) d changes h)) (all_apart c changes e (All-tail (IsEarlier c) d changes h))

  distinct_cond : (d : Bool) (path : TreePath) (paths : List TreePath) → (d ≡ true → All (λ p. p ≢ path) paths)
      → AreDistinctPaths paths → AreDistinctPaths (cond d (path ∷ paths) paths)
  distinct_cond true path paths f h = (f refl, h)
  distinct_cond false path paths f h = h

  are_distinct : (changes : List Change) → AreRisingChanges changes → AreDistinctPaths (directory_paths changes)
  are_distinct [] h = tt
  are_distinct (c ∷ changes) h =
      distinct_cond c.directory (path_of c) (directory_paths changes) (λ e. all_apart c changes e h.0)
      (are_distinct changes h.1)

  pub is_much : (changes : List Change) (most : ℕ) → All IsBetween changes → AreRisingChanges changes
      → most < one_if_some old + one_if_some new + sum_by trees_of changes → IsMuch world old new most
  is_much changes most each rising more = record {
    paths = directory_paths changes;
    distinct = are_distinct changes rising;
    other = others changes each;
    more = omega (arith, more, sum_is changes each);
  }
