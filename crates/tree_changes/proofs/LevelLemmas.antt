-- levels, with what is left of their trees
use Rattle.std.proofs.Common.{◌≡◌, ℕ, ◌+◌, ◌≤◌, Bool, true, false, List, [], ◌∷◌, ◌++◌, Option, Some, None, length, length-append}
use Rattle.std.proofs.Common.{take, drop, refl, sym, ap, ◌∙◌, subst, inl, inr, append-nil, arith}
use Rattle.std.specs.Prelude.{option_map, cond}
use Rattle.std.proofs.lemmas.List.{take-append-le, take-append-drop, length-take-le}
use Rattle.std.proofs.Math.Seq.{take-append_seam, take-length}
use Rattle.std.proofs.lemmas.List.Elements.{All-nil, All-push, All-weaker}
use Rattle.std.proofs.lemmas.List.Sums.{sum_by_push}
use Rattle.std.proofs.lemmas.Grind.{flat_map-append}
use Rattle.gix_hash_core.specs.declared.kind.Kind.{Kind}
use Rattle.tree_objects.specs.Tree.{TreeEntry, AreEntriesAnd, IsName}
use Rattle.tree_changes.specs.Stands.{World, item_of, item_id, entries_of, slashed}
use Rattle.tree_changes.specs.Changes.{one_if_some}
use Rattle.tree_changes.specs.Walk.{Change, IsChange, IsNext, Pending, IsLeft, IsLevel, AreLevels, IsFoundIn, IsFoundSoFar}
use Rattle.tree_changes.specs.Walk.{HasNames, trees_of, under, IsEarlier, AreRisingChanges}
use Rattle.tree_changes.specs.Reads.{IsReadLevel}
use Rattle.tree_changes.specs.declared.trees.Level.{Level}
use Rattle.tree_changes.proofs.WorldLemmas.{pass_level, leaf_found, tree_found, change_at, here_left, rising_push}

-- a path that begins as another does, from a level on
level_moved : (kind : Kind) (path path' : List ℕ) (level : Level) (p : Pending) → IsLevel kind path level p
    → take level.prefix path' ≡ take level.prefix path → level.prefix ≤ length path' → IsLevel kind path' level p
level_moved kind path path' level p l e fits = record {
  old_entries = l.old_entries;
  new_entries = l.new_entries;
  old_order = l.old_order;
  new_order = l.new_order;
  fits = fits;
  prefix = e ∙ l.prefix;
  named = l.named;
}

pub levels_longer : (kind : Kind) (x y : List ℕ) (levels : List Level) (left : List Pending) → AreLevels kind x levels left
    → AreLevels kind (x ++ y) levels left
levels_longer kind x y levels [] are = are
levels_longer kind x y levels (p ∷ ps) are =
    let level = are.1 in
    let l : IsLevel kind x level p = are.3 in
    let same : take level.prefix (x ++ y) ≡ take level.prefix x = take-append-le level.prefix x y l.fits in (
      are.0,
      level,
      are.2,
      level_moved kind x (x ++ y) level p l same (omega (arith, l.fits, length-append x y)),
      are.4,
      subst (λ t. AreLevels kind t are.0 ps) (sym same) are.5,
    )

levels_back : (kind : Kind) (n : ℕ) (path : List ℕ) (levels : List Level) (left : List Pending)
    → AreLevels kind (take n path) levels left → AreLevels kind path levels left
levels_back kind n path levels left are =
    subst (λ t. AreLevels kind t levels left) (take-append-drop n path) (levels_longer kind (take n path) (drop n path) levels
    left are)

record AreOneLast (xs ys : List Level) (x y : Level) : Type 0 where
  front : xs ≡ ys
  last : x ≡ y

no_last : (xs : List Level) (x : Level) → [] ≡ xs ++ x ∷ [] → ⊥
no_last [] x e = cc
no_last (a ∷ xs) x e = cc

one_last : (xs ys : List Level) (x y : Level) → xs ++ x ∷ [] ≡ ys ++ y ∷ [] → AreOneLast xs ys x y
one_last [] [] x y e = record { front = refl; last = cc }
one_last [] (b ∷ ys) x y e = absurd (no_last ys y cc)
one_last (a ∷ xs) [] x y e = absurd (no_last xs x (let f : xs ++ x ∷ [] ≡ [] = cc in sym f))
one_last (a ∷ xs) (b ∷ ys) x y e =
    let more = one_last xs ys x y cc in
    record { front = (let head : a ≡ b = cc in ap (λ t. t ∷ xs) head) ∙ ap (λ t. b ∷ t) more.front; last = more.last }

-- The last level was taken: what is left of it, and the levels that it leaves.
pub record IsTaken (kind : Kind) (path : List ℕ) (front : List Level) (level : Level) (left : List Pending) : Type 0 where
  pub p : Pending
  pub ps : List Pending
  pub left_is : left ≡ p ∷ ps
  pub level_is : IsLevel kind path level p
  pub depth : length p.directories ≡ length front
  pub others : AreLevels kind (take level.prefix path) front ps

pub taken : (kind : Kind) (path : List ℕ) (levels front : List Level) (level : Level) (left : List Pending)
    → AreLevels kind path levels left → levels ≡ front ++ level ∷ [] → IsTaken kind path front level left
taken kind path levels front level [] are e = absurd (no_last front level (sym are ∙ e))
taken kind path levels front level (p ∷ ps) are e =
    let one = one_last are.0 front are.1 level (sym are.2 ∙ e) in
    record {
      p = p;
      ps = ps;
      left_is = refl;
      level_is = subst (λ l. IsLevel kind path l p) one.last are.3;
      depth = are.4 ∙ ap length one.front;
      others =
          subst (λ l. AreLevels kind (take l.prefix path) front ps) one.last
          (subst (λ f. AreLevels kind (take are.1.prefix path) f ps) one.front are.5);
    }

-- no levels, so nothing is left
pub none_left : (kind : Kind) (path : List ℕ) (left : List Pending) → AreLevels kind path [] left → left ≡ []
none_left kind path [] are = refl
none_left kind path (p ∷ ps) are = absurd (no_last are.0 are.1 are.2)

module _ (kind : Kind) (says : World → Type 0) (old new : Option (List ℕ)) (budget : ℕ) (found : List Change) (path : List ℕ)
    (levels front : List Level) (level : Level) (trees : ℕ)
    (h : IsFoundSoFar kind says old new budget found path levels trees) (popped : levels ≡ front ++ level ∷ []) where
  abbrev pub top : IsTaken kind path front level h.left
  top = taken kind path levels front level h.left h.levels_are popped

  -- the level is one of trees of which entries are left
  pub old_entries : AreEntriesAnd kind (drop level.old_at level.old.items) top.p.olds []
  old_entries = top.level_is.old_entries

  by_level : (world : World) → says world → IsFoundIn world old new found (top.p ∷ top.ps)
  by_level world w = subst (IsFoundIn world old new found) top.left_is (h.agreed world w)

  -- a level is done
  pub level_done : ((world : World) (c : Change) → IsChange world top.p.olds top.p.news c → ⊥)
      → IsFoundSoFar kind says old new budget found path front trees
  level_done none = record {
    left = top.ps;
    levels_are = levels_back kind level.prefix path front top.ps top.others;
    named = h.named;
    spent = h.spent;
    agreed = λ world w. pass_level world old new found top.p top.ps (by_level world w) (none world);
  }

  module _ (a b : Option TreeEntry) (old_rest new_rest name : List ℕ) (directory : Bool)
      (next : IsNext kind top.p.olds top.p.news a b old_rest new_rest name directory) where
    abbrev pub here : Change
    here = change_at top.p.directories a b name directory

    abbrev rest : Pending
    rest = record { directories = top.p.directories; olds = next.olds_rest; news = next.news_rest }

    pub here_named : HasNames here
    here_named = (top.level_is.named, next.named)

    start_len : length (take level.prefix path) ≡ level.prefix
    start_len = length-take-le level.prefix path top.level_is.fits

    -- the level, once it has gone on
    module _ (level' : Level) (same_prefix : level'.prefix ≡ level.prefix) (old_is : drop level'.old_at level'.old.items
        ≡ old_rest)
        (new_is : drop level'.new_at level'.new.items ≡ new_rest) (more : List ℕ) where
      same_start : take level'.prefix (take level.prefix path ++ more) ≡ take level.prefix path
      same_start =
          ap (λ n. take n (take level.prefix path ++ more)) (same_prefix ∙ sym start_len)
          ∙ take-append_seam (take level.prefix path) more

      moved : IsLevel kind (take level.prefix path ++ more) level' rest
      moved = record {
        old_entries = subst (λ t. AreEntriesAnd kind t next.olds_rest []) (sym old_is) next.old_entries;
        new_entries = subst (λ t. AreEntriesAnd kind t next.news_rest []) (sym new_is) next.new_entries;
        old_order = next.old_order;
        new_order = next.new_order;
        fits = omega (arith, start_len, same_prefix, length-append (take level.prefix path) more);
        prefix = same_start ∙ top.level_is.prefix;
        named = top.level_is.named;
      }

      pub moved_levels : AreLevels kind (take level.prefix path ++ more) (front ++ level' ∷ []) (rest ∷ top.ps)
      moved_levels =
          (front, level', refl, moved, top.depth, subst (λ t. AreLevels kind t front top.ps) (sym same_start) top.others)

      -- a leaf more
      pub one_leaf : directory ≡ false
          → IsFoundSoFar kind says old new budget (found ++ here ∷ []) (take level.prefix path ++ more) (front ++ level' ∷ [])
          trees
      one_leaf e = record {
        left = rest ∷ top.ps;
        levels_are = moved_levels;
        named = All-push HasNames found here h.named here_named;
        spent =
            (let none : trees_of here ≡ 0 = ap (λ d. cond d (one_if_some here.old + one_if_some here.new) 0) e in
            omega (arith, h.spent, sum_by_push trees_of found here, none));
        agreed = λ world w.
            leaf_found kind world old new found top.p top.ps (by_level world w) a b old_rest new_rest name directory next e;
      }

      -- a directory more, whose trees were read
      module _ (says' : World → Type 0) (less : (world : World) → says' world → says world) (trees' : ℕ) (below_level : Level)
          (read : IsReadLevel kind says' (item_id (option_map item_of a)) (item_id (option_map item_of b))
          (length (take level.prefix path ++ more)) below_level)
          (more_is : more ≡ name ++ 47 ∷ [])
          (fewer : trees' + one_if_some (item_id (option_map item_of a)) + one_if_some (item_id (option_map item_of b))
          ≡ trees) where
        abbrev below : Pending
        below = record { directories = top.p.directories ++ name ∷ []; olds = read.old_tree.0; news = read.new_tree.0 }

        whole : take below_level.prefix (take level.prefix path ++ more) ≡ take level.prefix path ++ more
        whole = ap (λ n. take n (take level.prefix path ++ more)) read.prefix_is ∙ take-length (take level.prefix path ++ more)

        below_prefix : take level.prefix path ++ more ≡ slashed (top.p.directories ++ name ∷ [])
        below_prefix =
            ap (λ t. t ++ more) top.level_is.prefix ∙ ap (λ t. slashed top.p.directories ++ t) (more_is
            ∙ sym (append-nil (name ++ 47 ∷ [])))
            ∙ sym (flat_map-append (λ n. n ++ 47 ∷ []) top.p.directories (name ∷ []))

        below_is : IsLevel kind (take level.prefix path ++ more) below_level below
        below_is = record {
          old_entries = subst (λ n. AreEntriesAnd kind (drop n below_level.old.items) read.old_tree.0 []) (sym read.old_at)
              read.old_tree.1.are_entries;
          new_entries = subst (λ n. AreEntriesAnd kind (drop n below_level.new.items) read.new_tree.0 []) (sym read.new_at)
              read.new_tree.1.are_entries;
          old_order = read.old_tree.1.rising;
          new_order = read.new_tree.1.rising;
          fits = omega (arith, read.prefix_is);
          prefix = whole ∙ below_prefix;
          named = All-push IsName top.p.directories name top.level_is.named next.named;
        }

        one_item : (e : Option TreeEntry) → one_if_some (item_id (option_map item_of e)) ≡ one_if_some (option_map item_of e)
        one_item None = refl
        one_item (Some e) = refl

        pub one_tree : directory ≡ true
            → IsFoundSoFar kind says' old new budget (found ++ here ∷ []) (take level.prefix path ++ more)
            ((front ++ level' ∷ []) ++ below_level ∷ []) trees'
        one_tree e = record {
          left = below ∷ (rest ∷ top.ps);
          levels_are = (
            front ++ level' ∷ [],
            below_level,
            refl,
            below_is,
            (length-append top.p.directories (name ∷ []) ∙ ap (λ n. n + 1) top.depth ∙ sym (length-append front (level' ∷ []))),
            subst (λ t. AreLevels kind t (front ++ level' ∷ []) (rest ∷ top.ps)) (sym whole) moved_levels,
          );
          named = All-push HasNames found here h.named here_named;
          spent =
              (let both : trees_of here ≡ one_if_some here.old + one_if_some here.new = ap (λ d. cond d (one_if_some here.old +
              one_if_some here.new) 0) e in
              omega (arith, h.spent, sum_by_push trees_of found here, both, fewer, one_item a, one_item b));
          agreed = λ world w.
              tree_found kind world old new found top.p top.ps (by_level world (less world w)) a b old_rest new_rest name
              directory next
              below_level.old.items below_level.new.items read.old_tree.0 read.new_tree.0 read.old_tree.1.are_entries
              read.new_tree.1.are_entries (read.old_tree.2 world w) (read.new_tree.2 world w) e;
        }

    -- what differs here differs between the two trees
    pub here_changed : (world : World) → says world → IsChange world (entries_of world old) (entries_of world new) here
    here_changed world w =
        (by_level world w).none_else here
        (here_left kind world old new found top.p top.ps (by_level world w) a b old_rest new_rest name directory next)

    -- with it, what was found rises
    pub here_rises : (world : World) → says world → AreRisingChanges (found ++ here ∷ [])
    here_rises world w =
        let f = by_level world w in
        let is_left = here_left kind world old new found top.p top.ps f a b old_rest new_rest name directory next in
        rising_push found here f.rising
        (All-weaker (λ x. (d : Change) → IsLeft world (top.p ∷ top.ps) d → IsEarlier x d) (λ x. IsEarlier x here)
        (λ x g. g here is_left) found f.earlier)

-- nothing was found yet
pub begun : (kind : Kind) (says : World → Type 0) (old new : Option (List ℕ)) (budget : ℕ) (level : Level) (trees : ℕ)
    → IsReadLevel kind says old new 0 level → trees + one_if_some old + one_if_some new ≡ budget
    → IsFoundSoFar kind says old new budget [] [] (level ∷ []) trees
begun kind says old new budget level trees read spent =
    let p : Pending = record { directories = []; olds = read.old_tree.0; news = read.new_tree.0 } in
    let is : IsLevel kind [] level p = record {
      old_entries = subst (λ n. AreEntriesAnd kind (drop n level.old.items) read.old_tree.0 []) (sym read.old_at)
          read.old_tree.1.are_entries;
      new_entries = subst (λ n. AreEntriesAnd kind (drop n level.new.items) read.new_tree.0 []) (sym read.new_at)
          read.new_tree.1.are_entries;
      old_order = read.old_tree.1.rising;
      new_order = read.new_tree.1.rising;
      fits = omega (arith, read.prefix_is);
      prefix = ap (λ n. take n (let e : List ℕ = [] in e)) read.prefix_is;
      named = All-nil IsName;
    } in
    record {
      left = p ∷ [];
      levels_are = ([], level, refl, is, refl, refl);
      named = All-nil HasNames;
      spent = omega (arith, spent);
      agreed = λ world w. record {
        each = All-nil (IsChange world (entries_of world old) (entries_of world new));
        all = λ c change. inr (inl (
          c.directories,
          refl,
          (let P : List TreeEntry → Type 0 = λ t. IsChange world t (entries_of world new) c in
              let Q : List TreeEntry → Type 0 = λ t. IsChange world read.old_tree.0 t c in
              subst Q (read.new_tree.2 world w) (subst P (read.old_tree.2 world w) change)),
        ));
        none_else = λ c l. elim l [
          | inl x ↦
              let P : List TreeEntry → Type 0 = λ t. IsChange world t (entries_of world new) c in
              let Q : List TreeEntry → Type 0 = λ t. IsChange world read.old_tree.0 t c in
              let R : List (List ℕ) → Type 0 = λ t. IsChange world read.old_tree.0 read.new_tree.0 (under t c) in
              subst P (sym (read.old_tree.2 world w)) (subst Q (sym (read.new_tree.2 world w)) (subst R (sym x.1) x.2))
          | inr y ↦ absurd y
        ];
        rising = tt;
        earlier = All-nil (λ c. (d : Change) → IsLeft world (p ∷ []) d → IsEarlier c d);
        sorted = ((λ c d l m. absurd m), tt);
      };
    }

pub one_mapped : {X Y : Type 0} (f : X → Y) (x : Option X) → one_if_some (option_map f x) ≡ one_if_some x
one_mapped f None = refl
one_mapped f (Some x) = refl
