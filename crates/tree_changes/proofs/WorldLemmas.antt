-- what was found and what is left, by one world
use Rattle.std.proofs.Common.{◌≡◌, ℕ, ◌<◌, Bool, true, false, List, [], ◌∷◌, ◌++◌, Option, Some, None, length, refl, sym, ap, ◌∙◌}
use Rattle.std.proofs.Common.{subst, ◌⊎◌, inl, inr, append-nil, append_assoc, arith}
use Rattle.std.specs.Prelude.{All, Contains, option_map}
use Rattle.std.specs.Ordering.{nat_cmp, ordering_then}
use Rattle.std.specs.declared.cmp.Ordering.TheVariants.{Less, Equal}
use Rattle.std.specs.Cmp.{nat_cmp_is}
use Rattle.std.specs.Cmp.Lexicographic.{slice_cmp}
use Rattle.std.proofs.lemmas.Grind.{flat_map-append}
use Rattle.std.proofs.lemmas.List.Elements.{All-nil, All-head, All-tail, All-push, All-weaker, All-contains, Contains-append_left}
use Rattle.std.proofs.lemmas.List.Elements.{Contains-push}
use Rattle.gix_hash_core.specs.declared.kind.Kind.{Kind}
use Rattle.tree_objects.specs.Tree.{TreeEntry, AreEntriesAnd, IsName, key_of}
use Rattle.tree_changes.specs.Stands.{World, Item, item_of, item_id, entries_of, is_directory, slashed}
use Rattle.tree_changes.specs.Walk.{Change, IsChange, IsItself, IsBelow, IsEarlier, change_key, end_if, under, IsNext, Pending}
use Rattle.tree_changes.specs.Walk.{IsLeftIn, IsLeft, AreSorted, AreRisingChanges, IsFoundIn}
use Rattle.tree_changes.proofs.SideLemmas.{key_is}
use Rattle.tree_changes.proofs.EarlierLemmas.{at_key, names_all}

same_front : (s a b : List ℕ) → slice_cmp nat_cmp (s ++ a) (s ++ b) ≡ slice_cmp nat_cmp a b
same_front [] a b = refl
same_front (x ∷ s) a b =
    let tied : nat_cmp x x ≡ Equal = sym (nat_cmp_is x x Equal refl) in
    ap (λ o. ordering_then o (slice_cmp nat_cmp (s ++ a) (s ++ b))) tied ∙ same_front s a b

-- the key of a change that lies below directories
lifted : (dirs rest : List (List ℕ)) (c : Change) → c.directories ≡ dirs ++ rest
    → change_key c ≡ slashed dirs ++ change_key (under rest c)
lifted dirs rest c e =
    ap (λ t. slashed t ++ (c.name ++ end_if c.directory)) e
    ∙ ap (λ t. t ++ (c.name ++ end_if c.directory)) (flat_map-append (λ name. name ++ 47 ∷ []) dirs rest)
    ∙ append_assoc (slashed dirs) (slashed rest) (c.name ++ end_if c.directory)

earlier_below : (dirs r s : List (List ℕ)) (c d : Change) → c.directories ≡ dirs ++ r → d.directories ≡ dirs ++ s
    → IsEarlier (under r c) (under s d) → IsEarlier c d
earlier_below dirs r s c d e f h =
    let P : List ℕ → Type 0 = λ t. slice_cmp nat_cmp t (change_key d) ≡ Less in
    let Q : List ℕ → Type 0 = λ t. slice_cmp nat_cmp (slashed dirs ++ change_key (under r c)) t ≡ Less in
    subst P (sym (lifted dirs r c e))
    (subst Q (sym (lifted dirs s d f)) (same_front (slashed dirs) (change_key (under r c)) (change_key (under s d)) ∙ h))

longer_later : (k x : List ℕ) → 0 < length x → slice_cmp nat_cmp k (k ++ x) ≡ Less
longer_later [] [] h = absurd (omega arith)
longer_later [] (b ∷ x) h = refl
longer_later (a ∷ k) x h =
    let tied : nat_cmp a a ≡ Equal = sym (nat_cmp_is a a Equal refl) in
    ap (λ o. ordering_then o (slice_cmp nat_cmp k (k ++ x))) tied ∙ longer_later k x h

some_front : (n x : List ℕ) → 0 < length n → 0 < length (n ++ x)
some_front [] x h = absurd (omega arith)
some_front (b ∷ n) x h = omega arith

key_some : (e : TreeEntry) (y : List ℕ) → IsName e.name → 0 < length (key_of e ++ y)
key_some e y h =
    let end = end_if (is_directory e.kind) in
    subst (λ t. 0 < length (t ++ y)) (sym (key_is e)) (some_front (e.name ++ end) y (some_front e.name end h.0))

pub rising_push : (found : List Change) (c : Change) → AreRisingChanges found → All (λ x. IsEarlier x c) found
    → AreRisingChanges (found ++ c ∷ [])
rising_push [] c r a = (All-nil (IsEarlier c), tt)
rising_push (x ∷ found) c r a = (
  All-push (IsEarlier x) found c r.0 (All-head (λ x. IsEarlier x c) x found a),
  rising_push found c r.1 (All-tail (λ x. IsEarlier x c) x found a),
)

module _ (world : World) (old new : Option (List ℕ)) (found : List Change) (p : Pending) (ps : List Pending)
    (h : IsFoundIn world old new found (p ∷ ps)) where
  -- a level is done
  pub pass_level : ((c : Change) → IsChange world p.olds p.news c → ⊥) → IsFoundIn world old new found ps
  pass_level none = record {
    each = h.each;
    all = λ c change. elim (h.all c change) [
      | inl f ↦ inl f
      | inr l ↦ elim l [ inl here ↦ absurd (none (under here.0 c) here.2) | inr rest ↦ inr rest ]
    ];
    none_else = λ c l. h.none_else c (inr l);
    rising = h.rising;
    earlier = All-weaker (λ c. (d : Change) → IsLeft world (p ∷ ps) d → IsEarlier c d)
        (λ c. (d : Change) → IsLeft world ps d → IsEarlier c d) (λ c f d l. f d (inr l)) found h.earlier;
    sorted = h.sorted.1;
  }

  -- one change more
  found_more : (c : Change) (left : List Pending) → ((d : Change) → IsLeft world left d → IsLeft world (p ∷ ps) d)
      → ((d : Change) → IsLeft world (p ∷ ps) d → (d ≡ c) ⊎ IsLeft world left d) → IsLeft world (p ∷ ps) c
      → ((d : Change) → IsLeft world left d → IsEarlier c d) → AreSorted world left
      → IsFoundIn world old new (found ++ c ∷ []) left
  found_more c left sub split is_left before sorted = record {
    each = All-push (IsChange world (entries_of world old) (entries_of world new)) found c h.each (h.none_else c is_left);
    all = λ d change. elim (h.all d change) [
      | inl f ↦ inl (Contains-append_left found (c ∷ []) d f)
      | inr l ↦ elim (split d l) [
        | inl same ↦ inl (subst (Contains (found ++ c ∷ [])) (sym same) (Contains-push found c))
        | inr rest ↦ inr rest
      ]
    ];
    none_else = λ d l. h.none_else d (sub d l);
    rising = rising_push found c h.rising
        (All-weaker (λ x. (d : Change) → IsLeft world (p ∷ ps) d → IsEarlier x d) (λ x. IsEarlier x c) (λ x f. f c is_left) found
        h.earlier);
    earlier = All-push (λ x. (d : Change) → IsLeft world left d → IsEarlier x d) found c
        (All-weaker (λ x. (d : Change) → IsLeft world (p ∷ ps) d → IsEarlier x d)
        (λ x. (d : Change) → IsLeft world left d → IsEarlier x d) (λ x f d l. f d (sub d l)) found h.earlier) before;
    sorted = sorted;
  }

-- the change at a pair
abbrev pub change_at : List (List ℕ) → Option TreeEntry → Option TreeEntry → List ℕ → Bool → Change
change_at dirs a b name directory =
    record { directory = directory; directories = dirs; name = name; old = option_map item_of a; new = option_map item_of b }

change_is : (c d : Change) → c.directory ≡ d.directory → c.directories ≡ d.directories → c.name ≡ d.name → c.old ≡ d.old
    → c.new ≡ d.new → c ≡ d
change_is c d e f g i j =
    ap (λ (x : Bool). let t : Change = record {
      directory = x;
      directories = c.directories;
      name = c.name;
      old = c.old;
      new =
          c.new;
    } in t) e
    ∙ ap (λ (x : List (List ℕ)). let t : Change = record {
      directory = d.directory;
      directories = x;
      name = c.name;
      old = c.old;
      new = c.new;
    } in t) f
    ∙ ap (λ (x : List ℕ). let t : Change = record {
      directory = d.directory;
      directories = d.directories;
      name = x;
      old = c.old;
      new = c.new;
    } in t) g
    ∙ ap (λ (x : Option Item). let t : Change = record {
      directory = d.directory;
      directories = d.directories;
      name = d.name;
      old
          = x;
      new = c.new;
    } in t) i
    ∙ ap (λ (x : Option Item). let t : Change = record {
      directory = d.directory;
      directories = d.directories;
      name = d.name;
      old
          = d.old;
      new = x;
    } in t) j

module _ (kind : Kind) (world : World) (old new : Option (List ℕ)) (found : List Change) (p : Pending) (ps : List Pending)
    (h : IsFoundIn world old new found (p ∷ ps)) (a b : Option TreeEntry) (old_bytes new_bytes name : List ℕ) (directory : Bool)
    (next : IsNext kind p.olds p.news a b old_bytes new_bytes name directory) where
  abbrev here : Change
  here = change_at p.directories a b name directory

  abbrev rest : Pending
  rest = record { directories = p.directories; olds = next.olds_rest; news = next.news_rest }

  itself : IsItself a b name directory (under [] here)
  itself = record {
    directory_is = refl;
    top = refl;
    name_is = refl;
    old_is = refl;
    new_is = refl;
    differs = next.differ;
  }

  here_in : IsLeftIn world p here
  here_in = ([], sym (append-nil p.directories), (next.step world (under [] here)).1 (inl (inl itself)))

  pub here_left : IsLeft world (p ∷ ps) here
  here_left = inl here_in

  rest_in : (d : Change) → IsLeftIn world rest d → IsLeftIn world p d
  rest_in d l = (l.0, l.1, (next.step world (under l.0 d)).1 (inr l.2))

  here_before_rest : (d : Change) → IsLeftIn world rest d → IsEarlier here d
  here_before_rest d l =
      earlier_below p.directories [] l.0 here d (sym (append-nil p.directories)) l.1
      (next.earlier world (under [] here) (under l.0 d) (inl itself) l.2)

  same_here : (d : Change) (r : List (List ℕ)) → d.directories ≡ p.directories ++ r → IsItself a b name directory (under r d)
      → d ≡ here
  same_here d r e i =
      change_is d here i.directory_is (e ∙ ap (λ t. p.directories ++ t) i.top ∙ append-nil p.directories) i.name_is
      (sym i.old_is) (sym i.new_is)

  not_below : (d : Change) → directory ≡ false → IsBelow world a b name directory d → ⊥
  not_below d e i = let f = i.directory_is in cc

  split_leaf : directory ≡ false → (d : Change) → IsLeft world (p ∷ ps) d → (d ≡ here) ⊎ IsLeft world (rest ∷ ps) d
  split_leaf e d (inl l) =
      elim ((next.step world (under l.0 d)).0 l.2) [
        | inl x ↦ elim x [
          | inl i ↦ inl (same_here d l.0 l.1 i)
          | inr i ↦ absurd (not_below (under l.0 d) e i)
        ]
        | inr y ↦ inr (inl (l.0, l.1, y))
      ]
  split_leaf e d (inr l) = inr (inr l)

  leaf_sub : (d : Change) → IsLeft world (rest ∷ ps) d → IsLeft world (p ∷ ps) d
  leaf_sub d (inl l) = inl (rest_in d l)
  leaf_sub d (inr l) = inr l

  leaf_before : (d : Change) → IsLeft world (rest ∷ ps) d → IsEarlier here d
  leaf_before d (inl l) = here_before_rest d l
  leaf_before d (inr l) = h.sorted.0 here d here_in l

  pub leaf_found : directory ≡ false → IsFoundIn world old new (found ++ here ∷ []) (rest ∷ ps)
  leaf_found e =
      found_more world old new found p ps h here (rest ∷ ps) leaf_sub (split_leaf e) here_left leaf_before
      ((λ c d l m. h.sorted.0 c d (rest_in c l) m), h.sorted.1)

  -- what is left below directories
  module _ (old_entries new_entries : List ℕ) (xs ys : List TreeEntry) (are_xs : AreEntriesAnd kind old_entries xs [])
      (are_ys : AreEntriesAnd kind new_entries ys []) (xs_are : entries_of world (item_id (option_map item_of a)) ≡ xs)
      (ys_are : entries_of world (item_id (option_map item_of b)) ≡ ys) (e : directory ≡ true) where
    abbrev below : Pending
    below = record { directories = p.directories ++ name ∷ []; olds = xs; news = ys }

    is_below : (d : Change) (r : List (List ℕ)) → IsChange world xs ys (under r d)
        → IsBelow world a b name directory (under (name ∷ r) d)
    is_below d r change = record {
      directory_is = e;
      rest = r;
      directories_are = refl;
      change =
          let P : List TreeEntry → Type 0 =
          λ t. IsChange world t (entries_of world (item_id (option_map item_of b))) (under r d) in
          let Q : List TreeEntry → Type 0 = λ t. IsChange world xs t (under r d) in
          subst P (sym xs_are) (subst Q (sym ys_are) change);
    }

    below_directories : (d : Change) (r : List (List ℕ)) → d.directories ≡ (p.directories ++ name ∷ []) ++ r
        → d.directories ≡ p.directories ++ (name ∷ r)
    below_directories d r f = f ∙ append_assoc p.directories (name ∷ []) r

    below_in : (d : Change) → IsLeftIn world below d → IsLeftIn world p d
    below_in d l =
        (name ∷ l.0, below_directories d l.0 l.1, (next.step world (under (name ∷ l.0) d)).1 (inl (inr (is_below d l.0 l.2))))

    below_before_rest : (c d : Change) → IsLeftIn world below c → IsLeftIn world rest d → IsEarlier c d
    below_before_rest c d l m =
        earlier_below p.directories (name ∷ l.0) m.0 c d (below_directories c l.0 l.1) m.1
        (next.earlier world (under (name ∷ l.0) c) (under m.0 d) (inr (is_below c l.0 l.2)) m.2)

    some_key : (d : Change) (r : List (List ℕ)) → IsChange world xs ys (under r d) → 0 < length (change_key (under r d))
    some_key d r change =
        elim d.old as (λ o. d.old ≡ o → 0 < length (change_key (under r d))) [
          | Some x ↦ λ f.
              let k = at_key world d.directory xs r d.name x (change.0 ∙ f) in
              subst (λ t. 0 < length t) (sym k.whole)
              (key_some k.entry k.rest (All-contains (λ e. IsName e.name) xs k.entry (names_all kind old_entries xs are_xs)
              k.among))
          | None ↦ λ f.
              elim d.new as (λ o. d.new ≡ o → 0 < length (change_key (under r d))) [
                | Some x ↦ λ g.
                    let k = at_key world d.directory ys r d.name x (change.1 ∙ g) in
                    subst (λ t. 0 < length t) (sym k.whole)
                    (key_some k.entry k.rest
                    (All-contains (λ e. IsName e.name) ys k.entry (names_all kind new_entries ys are_ys) k.among))
                | None ↦ λ g. absurd (change.2 (f ∙ sym g))
              ] refl
        ] refl

    here_key_is : change_key here ≡ slashed p.directories ++ (name ++ 47 ∷ [])
    here_key_is = ap (λ k. slashed p.directories ++ (name ++ end_if k)) e

    below_key_is : (d : Change) (r : List (List ℕ)) → d.directories ≡ (p.directories ++ name ∷ []) ++ r
        → change_key d ≡ (slashed p.directories ++ (name ++ 47 ∷ [])) ++ change_key (under r d)
    below_key_is d r f =
        lifted (p.directories ++ name ∷ []) r d f
        ∙ ap (λ t. t ++ change_key (under r d)) (flat_map-append (λ n. n ++ 47 ∷ []) p.directories (name ∷ [])
        ∙ ap (λ t. slashed p.directories ++ t) (append-nil (name ++ 47 ∷ [])))

    here_before_below : (d : Change) → IsLeftIn world below d → IsEarlier here d
    here_before_below d l =
        let P : List ℕ → Type 0 = λ t. slice_cmp nat_cmp t (change_key d) ≡ Less in
        let Q : List ℕ → Type 0 = λ t. slice_cmp nat_cmp (slashed p.directories ++ (name ++ 47 ∷ [])) t ≡ Less in
        subst P (sym here_key_is) (subst Q (sym (below_key_is d l.0 l.1))
        (longer_later (slashed p.directories ++ (name ++ 47 ∷ [])) (change_key (under l.0 d)) (some_key d l.0 l.2)))

    abbrev left : List Pending
    left = below ∷ (rest ∷ ps)

    tree_sub : (d : Change) → IsLeft world left d → IsLeft world (p ∷ ps) d
    tree_sub d (inl l) = inl (below_in d l)
    tree_sub d (inr (inl l)) = inl (rest_in d l)
    tree_sub d (inr (inr l)) = inr l

    was_below : (d : Change) (r : List (List ℕ)) → d.directories ≡ p.directories ++ r
        → IsBelow world a b name directory (under r d)
        → IsLeftIn world below d
    was_below d r f i =
        let P : List TreeEntry → Type 0 = λ t. IsChange world t (entries_of world (item_id (option_map item_of b))) (under i.rest
        d) in
        let Q : List TreeEntry → Type 0 = λ t. IsChange world xs t (under i.rest d) in (
          i.rest,
          f ∙ ap (λ t. p.directories ++ t) i.directories_are ∙ sym (append_assoc p.directories (name ∷ []) i.rest),
          subst Q ys_are (subst P xs_are i.change),
        )

    tree_split : (d : Change) → IsLeft world (p ∷ ps) d → (d ≡ here) ⊎ IsLeft world left d
    tree_split d (inl l) =
        elim ((next.step world (under l.0 d)).0 l.2) [
          | inl x ↦ elim x [
            | inl i ↦ inl (same_here d l.0 l.1 i)
            | inr i ↦ inr (inl (was_below d l.0 l.1 i))
          ]
          | inr y ↦ inr (inr (inl (l.0, l.1, y)))
        ]
    tree_split d (inr l) = inr (inr (inr l))

    tree_before : (d : Change) → IsLeft world left d → IsEarlier here d
    tree_before d (inl l) = here_before_below d l
    tree_before d (inr l) = leaf_before d l

    below_before : (c d : Change) → IsLeftIn world below c → IsLeft world (rest ∷ ps) d → IsEarlier c d
    below_before c d l (inl m) = below_before_rest c d l m
    below_before c d l (inr m) = h.sorted.0 c d (below_in c l) m

    pub tree_found : IsFoundIn world old new (found ++ here ∷ []) left
    tree_found =
        found_more world old new found p ps h here left tree_sub tree_split here_left tree_before
        (below_before, ((λ c d l m. h.sorted.0 c d (rest_in c l) m), h.sorted.1))
