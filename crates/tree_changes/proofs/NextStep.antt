-- the steps to the next path
use Rattle.std.proofs.Common.{◌≡◌, ◌≢◌, ℕ, ◌+◌, ◌-◌, ◌<◌, ◌≤◌, Bool, true, false, cond, List, [], ◌∷◌, ◌++◌, Option, Some, None}
use Rattle.std.proofs.Common.{length, length-drop, take, drop, refl, sym, ap, ◌∙◌, subst, append_assoc, arith}
use Rattle.std.specs.Prelude.{option_map}
use Rattle.std.proofs.lemmas.List.Elements.{All-push}
use Rattle.std.proofs.lemmas.List.Sums.{sum_by_push}
use Rattle.std.proofs.lemmas.List.{take_all}
use Rattle.gix_hash_core.specs.declared.kind.Kind.{Kind}
use Rattle.tree_objects.specs.Tree.{TreeEntry, AreEntriesAnd}
use Rattle.tree_objects.specs.Tree.{AreInOrder}
use Rattle.tree_changes.specs.Stands.{World, Item, item_of, item_id, entries_of, slashed}
use Rattle.tree_changes.specs.Changes.{one_if_some, IsDeeper}
use Rattle.tree_changes.specs.Walk.{Change, IsChange, IsNext, IsEnd, Pending, IsFoundSoFar, leaf_texts, trees_of}
use Rattle.tree_changes.specs.Reads.{IsReadLevel, IsFoundThen, IsStopped, IsReadRefusal}
use Rattle.tree_changes.specs.declared.trees.Level.{Level}
use Rattle.tree_changes.specs.declared.changes.Refusal.{Refusal}
use Rattle.tree_changes.specs.declared.changes.Refusal.TheVariants.{TooMany, TooDeep, TooMuch, Source, OutOfMemory}
use Rattle.tree_changes.proofs.EndLemmas.{end_at, end_of_end, dropped_end}
use Rattle.tree_changes.proofs.GoneOn.{IsGoneOn}
use Rattle.tree_changes.proofs.LevelLemmas.{top, level_done, one_leaf, one_tree, here_changed, here_rises}
use Rattle.tree_changes.proofs.StopLemmas.{is_deeper, is_needed, is_much}
use Rattle.tree_changes.proofs.WorldLemmas.{change_at}

abbrev text_of : Change → List ℕ
text_of c = slashed c.directories ++ c.name

cond_push : (d : Bool) (t : List ℕ) (texts texts' more : List (List ℕ)) → texts' ≡ texts ++ more
    → cond d texts' (t ∷ texts') ≡ cond d texts (t ∷ texts) ++ more
cond_push true t texts texts' more e = e
cond_push false t texts texts' more e = ap (λ x. t ∷ x) e

pub leaf_pushed : (found : List Change) (c : Change) → c.directory ≡ false
    → leaf_texts (found ++ c ∷ []) ≡ leaf_texts found ++ text_of c ∷ []
leaf_pushed [] c e = ap (λ d. cond d [] (text_of c ∷ [])) e
leaf_pushed (x ∷ found) c e =
    cond_push x.directory (text_of x) (leaf_texts found) (leaf_texts (found ++ c ∷ [])) (text_of c ∷ []) (leaf_pushed found c e)

cond_same : (d : Bool) (t : List ℕ) (texts texts' : List (List ℕ)) → texts' ≡ texts
    → cond d texts' (t ∷ texts') ≡ cond d texts (t ∷ texts)
cond_same d t texts texts' e = ap (λ x. cond d x (t ∷ x)) e

pub tree_pushed : (found : List Change) (c : Change) → c.directory ≡ true → leaf_texts (found ++ c ∷ []) ≡ leaf_texts found
tree_pushed [] c e = ap (λ d. cond d [] (text_of c ∷ [])) e
tree_pushed (x ∷ found) c e =
    cond_same x.directory (text_of x) (leaf_texts found) (leaf_texts (found ++ c ∷ [])) (tree_pushed found c e)

-- what is left of a tree, once it was gone on in it
whole_end : (items bytes rest : List ℕ) (at : ℕ) → bytes ≡ drop at items → IsEnd bytes rest → IsEnd items rest
whole_end items bytes rest at e h =
    end_of_end items (drop at items) rest (dropped_end at items) (subst (λ t. IsEnd t rest) e h)

-- the slice of bytes from a place on
pub slice_is : (x items : List ℕ) (at : ℕ) → x ≡ items → take (length x - at) (drop at x) ≡ drop at items
slice_is x items at e = take_all (length x - at) (drop at x) (omega (arith, length-drop at x)) ∙ ap (λ t. drop at t) e

pub left_is : (items items' bytes rest : List ℕ) (at at' n : ℕ) → items' ≡ items → bytes ≡ drop at items → at' ≡ length items - n
    → n ≡ length rest → IsEnd bytes rest → drop at' items' ≡ rest
left_is items items' bytes rest at at' n same e at_is is h =
    ap (λ t. drop at' t) same ∙ ap (λ n. drop n items) (at_is ∙ ap (λ t. length items - t) is)
    ∙ end_at items rest (whole_end items bytes rest at e h)

-- what the next difference is of trees
abbrev pub NextBy : List ℕ → List ℕ → Option TreeEntry → Option TreeEntry → List ℕ → List ℕ → List ℕ → Bool → Kind → Type 0
NextBy old_bytes new_bytes a b old' new' name directory kind =
    (olds news : List TreeEntry) → AreEntriesAnd kind old_bytes olds [] → AreEntriesAnd kind new_bytes news [] → AreInOrder olds
    → AreInOrder news → IsNext kind olds news a b old' new' name directory

abbrev pub NoneBy : List ℕ → List ℕ → Kind → Type 0
NoneBy old_bytes new_bytes kind =
    (olds news : List TreeEntry) → AreEntriesAnd kind old_bytes olds [] → AreEntriesAnd kind new_bytes news [] → AreInOrder olds
    → AreInOrder news → (world : World) (c : Change) → IsChange world olds news c → ⊥

module _ (kind kind' : Kind) (same_kind : kind' ≡ kind) (says : World → Type 0) (old new : Option (List ℕ)) (budget : ℕ)
    (found : List Change) (path : List ℕ) (levels front : List Level) (level : Level) (trees : ℕ)
    (h : IsGoneOn kind says old new budget found path levels trees) (popped : levels ≡ front ++ level ∷ [])
    (old_bytes new_bytes : List ℕ) (old_is : old_bytes ≡ drop level.old_at level.old.items)
    (new_is : new_bytes ≡ drop level.new_at level.new.items) where
  -- a level is done
  pub level_on : NoneBy old_bytes new_bytes kind'
      → IsGoneOn kind says old new budget found path front trees
  level_on none =
      let t = top kind says old new budget h.found_then path levels front level trees h.so_far popped in
      let f = subst (NoneBy old_bytes new_bytes) same_kind none in
      let g = subst (λ x. NoneBy x new_bytes kind) old_is f in
      let k = subst (λ x. NoneBy (drop level.old_at level.old.items) x kind) new_is g in
      record {
        found_then = h.found_then;
        so_far =
            level_done kind says old new budget h.found_then path levels front level trees h.so_far popped
            (k t.p.olds t.p.news t.level_is.old_entries t.level_is.new_entries t.level_is.old_order t.level_is.new_order);
        texts = h.texts;
      }

  module _ (a b : Option TreeEntry) (old_rest new_rest name : List ℕ) (directory : Bool)
      (by : NextBy old_bytes new_bytes a b old_rest new_rest name directory kind') where
    abbrev pub next_top : Pending
    next_top = (top kind says old new budget h.found_then path levels front level trees h.so_far popped).p

    pub next : IsNext kind next_top.olds next_top.news a b old_rest new_rest name directory
    next =
        let t = top kind says old new budget h.found_then path levels front level trees h.so_far popped in
        let f = subst (NextBy old_bytes new_bytes a b old_rest new_rest name directory) same_kind by in
        let g = subst (λ x. NextBy x new_bytes a b old_rest new_rest name directory kind) old_is f in
        let k = subst (λ x. NextBy (drop level.old_at level.old.items) x a b old_rest new_rest name directory kind) new_is g in
        k t.p.olds t.p.news t.level_is.old_entries t.level_is.new_entries t.level_is.old_order t.level_is.new_order

    abbrev here : Change
    here = change_at next_top.directories a b name directory

    -- other directories stand at too long a path
    pub too_deep : (names : ℕ) → directory ≡ true → names ≤ length front + 1 → (world : World) → says world
        → IsDeeper world old new names
    too_deep names e long world w =
        let t = top kind says old new budget h.found_then path levels front level trees h.so_far popped in
        is_deeper world old new here names
        (here_changed kind says old new budget h.found_then path levels front level trees h.so_far popped a b old_rest new_rest
        name directory next world w)
        e (omega (arith, t.depth, long))

    -- their trees were not read
    pub not_read : {E : Type 0} (refused : List ℕ → E → Type 0) (names : ℕ) (refusal : Refusal E) → directory ≡ true
        → IsReadRefusal refused (item_id (option_map item_of a)) (item_id (option_map item_of b)) trees refusal → (world : World)
        → says world → IsStopped refused names budget world old new refusal
    not_read refused names TooMany e r world w = absurd r
    not_read refused names TooDeep e r world w = absurd r
    not_read refused names TooMuch e r world w =
        let between =
        here_changed kind says old new budget h.found_then path levels front level trees h.so_far popped a b old_rest new_rest
        name directory next world w in
        let rises =
        here_rises kind says old new budget h.found_then path levels front level trees h.so_far popped a b old_rest new_rest name
        directory next world w in
        let both : trees_of here ≡ one_if_some here.old + one_if_some here.new = ap (λ d. cond d (one_if_some here.old +
        one_if_some here.new) 0) e in
        is_much world old new (h.found_then ++ here ∷ []) budget
        (All-push (IsChange world (entries_of world old) (entries_of world new)) h.found_then here (h.so_far.agreed world w).each
        between)
        rises
        (omega (arith, h.so_far.spent, r, sum_by_push trees_of h.found_then here, both, one_item a, one_item b))
      where
        one_item : (e : Option TreeEntry) → one_if_some (item_id (option_map item_of e)) ≡ one_if_some (option_map item_of e)
        one_item None = refl
        one_item (Some e) = refl
    not_read refused names (Source error) e r world w =
        let between =
        here_changed kind says old new budget h.found_then path levels front level trees h.so_far popped a b old_rest new_rest
        name directory next world w in
        (r.0, is_needed world old new here r.0 between e r.1, r.2)
    not_read refused names OutOfMemory e r world w = tt

    module _ (level' : Level) (same_prefix : level'.prefix ≡ level.prefix) (old_left : drop level'.old_at level'.old.items
        ≡ old_rest)
        (new_left : drop level'.new_at level'.new.items ≡ new_rest) where
      -- a leaf more
      pub leaf_then : (path' : List ℕ) (levels' : List Level) → directory ≡ false → path' ≡ take level.prefix path ++ name
          → levels' ≡ front ++ level' ∷ [] → IsFoundThen kind says old new budget found true path' levels' trees
      leaf_then path' levels' e path_is levels_are =
          let t = top kind says old new budget h.found_then path levels front level trees h.so_far popped in
          record {
            found_then = h.found_then ++ here ∷ [];
            so_far =
                subst (λ x. IsFoundSoFar kind says old new budget (h.found_then ++ here ∷ []) x levels' trees) (sym path_is)
                (subst (λ x. IsFoundSoFar kind says old new budget (h.found_then ++ here ∷ []) (take level.prefix path ++ name) x
                trees)
                (sym levels_are)
                (one_leaf kind says old new budget h.found_then path levels front level trees h.so_far popped a b old_rest
                new_rest
                name directory next level' same_prefix old_left new_left name e));
            texts_more = λ _.
                leaf_pushed h.found_then here e ∙ ap (λ x. x ++ text_of here ∷ []) h.texts
                ∙ ap (λ x. leaf_texts found ++ x ∷ []) (ap (λ x. x ++ name) (sym t.level_is.prefix) ∙ sym path_is);
            texts_all = λ f. absurd (let g = f in cc);
          }

      -- a directory more
      pub tree_on : (says' : World → Type 0) (less : (world : World) → says' world → says world) (trees' : ℕ) (below : Level)
          (path' : List ℕ) (levels' : List Level) (n : ℕ) → directory ≡ true
          → path' ≡ (take level.prefix path ++ name) ++ 47 ∷ [] → n ≡ length path'
          → levels' ≡ (front ++ level' ∷ []) ++ below ∷ []
          → IsReadLevel kind says' (item_id (option_map item_of a)) (item_id (option_map item_of b)) n below
          → trees' + one_if_some (item_id (option_map item_of a)) + one_if_some (item_id (option_map item_of b)) ≡ trees
          → IsGoneOn kind says' old new budget found path' levels' trees'
      tree_on says' less trees' below path' levels' n e path_is n_is levels_are read fewer =
          let whole : path' ≡ take level.prefix path ++ (name ++ 47 ∷ []) = path_is
          ∙ append_assoc (take level.prefix path) name (47 ∷ []) in
          let read' = subst
          (λ x. IsReadLevel kind says' (item_id (option_map item_of a)) (item_id (option_map item_of b)) x below)
          (n_is ∙ ap length whole) read in
          record {
            found_then = h.found_then ++ here ∷ [];
            so_far =
                subst (λ x. IsFoundSoFar kind says' old new budget (h.found_then ++ here ∷ []) x levels' trees') (sym whole)
                (subst (λ x. IsFoundSoFar kind says' old new budget (h.found_then ++ here ∷ []) (take level.prefix path ++ (name
                ++ 47 ∷ [])) x trees')
                (sym levels_are)
                (one_tree kind says old new budget h.found_then path levels front level trees h.so_far popped a b old_rest
                new_rest
                name directory next level' same_prefix old_left new_left (name ++ 47 ∷ []) says' less trees' below read' refl
                fewer e));
            texts = tree_pushed h.found_then here e ∙ h.texts;
          }

-- some tree is read of two that are not alike
pub some_read : (x y : Option Item) → x ≢ y → 0 < one_if_some (item_id x) + one_if_some (item_id y)
some_read None None h = absurd (h refl)
some_read None (Some y) h = omega arith
some_read (Some x) None h = omega arith
some_read (Some x) (Some y) h = omega arith
