-- one pair more
use Rattle.std.proofs.Common.{◌≡◌, ℕ, Bool, true, false, cond, List, [], ◌∷◌, Option, None, refl, sym, ap, ◌∙◌, subst, ◌⊎◌, inl}
use Rattle.std.proofs.Common.{inr}
use Rattle.std.specs.Prelude.{option_map, ◌↔◌}
use Rattle.gix_hash_core.specs.declared.kind.Kind.{Kind}
use Rattle.tree_objects.specs.Tree.{TreeEntry}
use Rattle.tree_changes.specs.Stands.{World, Item, item_of, item_named, item_at, item_id, entries_of}
use Rattle.tree_changes.specs.Walk.{Change, IsChange, IsHere, IsSide, under}
use Rattle.tree_changes.proofs.SideLemmas.{is_asked, asked_true, asked_itself, side_item, gone}

pub of_true : {A : Type 0} (b : Bool) (x y z : A) → b ≡ true → z ≡ cond b x y → z ≡ x
of_true true x y z e h = h
of_true false x y z e h = cc

pub of_false : {A : Type 0} (b : Bool) (x y z : A) → b ≡ false → z ≡ cond b x y → z ≡ y
of_false true x y z e h = cc
of_false false x y z e h = h

heads : (d name : List ℕ) (ds rest : List (List ℕ)) → d ∷ ds ≡ name ∷ rest → name ≡ d
heads d name ds rest e = cc

tails : (d name : List ℕ) (ds rest : List (List ℕ)) → d ∷ ds ≡ name ∷ rest → rest ≡ ds
tails d name ds rest e = cc

module _ (kind : Kind) (world : World) (entries : List TreeEntry) (first : Option TreeEntry) (bytes name : List ℕ)
    (directory : Bool) (s : IsSide kind entries first bytes name directory) where
  -- what stands at a name of one side, where the pair is of it
  top_here : (d : Bool) (n : List ℕ) → is_asked directory name d n ≡ true → item_named d n entries ≡ option_map item_of first
  top_here d n t =
      of_true (is_asked directory name d n) (option_map item_of first) (item_named d n s.rest) (item_named d n entries) t
      (side_item kind entries bytes name directory first s d n)

  top_rest : (d : Bool) (n : List ℕ) → is_asked directory name d n ≡ false → item_named d n entries ≡ item_named d n s.rest
  top_rest d n t =
      of_false (is_asked directory name d n) (option_map item_of first) (item_named d n s.rest) (item_named d n entries) t
      (side_item kind entries bytes name directory first s d n)

  top_gone : (d : Bool) (n : List ℕ) → is_asked directory name d n ≡ true → item_named d n s.rest ≡ None
  top_gone d n t =
      let is = asked_true directory name d n t in
      subst (λ x. item_named x n s.rest ≡ None) is.0
      (subst (λ x. item_named directory x s.rest ≡ None) is.1 (gone name directory s.rest s.behind))

  -- the same below a directory
  abbrev below : Option Item → Bool → List (List ℕ) → List ℕ → Option Item
  below item d ds n = item_at world d (entries_of world (item_id item)) ds n

  below_here : (d : Bool) (m : List ℕ) (ds : List (List ℕ)) (n : List ℕ) → is_asked directory name true m ≡ true
      → item_at world d entries (m ∷ ds) n ≡ below (option_map item_of first) d ds n
  below_here d m ds n t = ap (λ i. below i d ds n) (top_here true m t)

  below_rest : (d : Bool) (m : List ℕ) (ds : List (List ℕ)) (n : List ℕ) → is_asked directory name true m ≡ false
      → item_at world d entries (m ∷ ds) n ≡ item_at world d s.rest (m ∷ ds) n
  below_rest d m ds n t = ap (λ i. below i d ds n) (top_rest true m t)

  below_gone : (d : Bool) (m : List ℕ) (ds : List (List ℕ)) (n : List ℕ) → is_asked directory name true m ≡ true
      → item_at world d s.rest (m ∷ ds) n ≡ item_at world d [] ds n
  below_gone d m ds n t = ap (λ i. below i d ds n) (top_gone true m t)

module _ (kind : Kind) (world : World) (olds : List TreeEntry) (old : Option TreeEntry) (old_bytes : List ℕ)
    (news : List TreeEntry) (new : Option TreeEntry) (new_bytes name : List ℕ) (directory : Bool)
    (a : IsSide kind olds old old_bytes name directory) (b : IsSide kind news new new_bytes name directory) where
  top_forth : (c : Change) (t : Bool) → is_asked directory name c.directory c.name ≡ t → IsChange world olds news (under [] c)
      → IsHere world old new name directory (under [] c) ⊎ IsChange world a.rest b.rest (under [] c)
  top_forth c true t h =
      let is = asked_true directory name c.directory c.name t in
      inl (inl (record {
        directory_is = sym is.0;
        top = refl;
        name_is = sym is.1;
        old_is = sym (top_here kind world olds old old_bytes name directory a c.directory c.name t) ∙ h.0;
        new_is = sym (top_here kind world news new new_bytes name directory b c.directory c.name t) ∙ h.1;
        differs = h.2;
      }))
  top_forth c false t h =
      inr (
        sym (top_rest kind world olds old old_bytes name directory a c.directory c.name t) ∙ h.0,
        sym (top_rest kind world news new new_bytes name directory b c.directory c.name t) ∙ h.1,
        h.2,
      )

  top_back : (c : Change) (t : Bool) → is_asked directory name c.directory c.name ≡ t
      → IsHere world old new name directory (under [] c) ⊎ IsChange world a.rest b.rest (under [] c)
      → IsChange world olds news (under [] c)
  top_back c t e (inl (inl h)) =
      let asked = asked_itself directory name c.directory c.name (sym h.directory_is) (sym h.name_is) in (
        top_here kind world olds old old_bytes name directory a c.directory c.name asked ∙ h.old_is,
        top_here kind world news new new_bytes name directory b c.directory c.name asked ∙ h.new_is,
        h.differs,
      )
  top_back c t e (inl (inr h)) = absurd (let f = h.directories_are in cc)
  top_back c true e (inr h) =
      absurd (h.2 (sym h.0 ∙ top_gone kind world olds old old_bytes name directory a c.directory c.name e
      ∙ sym (top_gone kind world news new new_bytes name directory b c.directory c.name e) ∙ h.1))
  top_back c false e (inr h) = (
    top_rest kind world olds old old_bytes name directory a c.directory c.name e ∙ h.0,
    top_rest kind world news new new_bytes name directory b c.directory c.name e ∙ h.1,
    h.2,
  )

  low_forth : (m : List ℕ) (ds : List (List ℕ)) (c : Change) (t : Bool) → is_asked directory name true m ≡ t
      → IsChange world olds news (under (m ∷ ds) c)
      → IsHere world old new name directory (under (m ∷ ds) c) ⊎ IsChange world a.rest b.rest (under (m ∷ ds) c)
  low_forth m ds c true t h =
      let is = asked_true directory name true m t in
      inl (inr (record {
        directory_is = is.0;
        rest = ds;
        directories_are = ap (λ x. x ∷ ds) (sym is.1);
        change = (
          sym (below_here kind world olds old old_bytes name directory a c.directory m ds c.name t) ∙ h.0,
          sym (below_here kind world news new new_bytes name directory b c.directory m ds c.name t) ∙ h.1,
          h.2,
        );
      }))
  low_forth m ds c false t h =
      inr (
        sym (below_rest kind world olds old old_bytes name directory a c.directory m ds c.name t) ∙ h.0,
        sym (below_rest kind world news new new_bytes name directory b c.directory m ds c.name t) ∙ h.1,
        h.2,
      )

  low_back : (m : List ℕ) (ds : List (List ℕ)) (c : Change) (t : Bool) → is_asked directory name true m ≡ t
      → IsHere world old new name directory (under (m ∷ ds) c) ⊎ IsChange world a.rest b.rest (under (m ∷ ds) c)
      → IsChange world olds news (under (m ∷ ds) c)
  low_back m ds c t e (inl (inl h)) = absurd (let f = h.top in cc)
  low_back m ds c t e (inl (inr h)) =
      let asked = asked_itself directory name true m h.directory_is (heads m name ds h.rest h.directories_are) in
      let change : IsChange world (entries_of world (item_id (option_map item_of old))) (entries_of world (item_id (option_map
      item_of new))) (under ds c) =
      subst (λ x. IsChange world (entries_of world (item_id (option_map item_of old)))
      (entries_of world (item_id (option_map item_of new))) (under x c)) (tails m name ds h.rest h.directories_are) h.change in (
        below_here kind world olds old old_bytes name directory a c.directory m ds c.name asked ∙ change.0,
        below_here kind world news new new_bytes name directory b c.directory m ds c.name asked ∙ change.1,
        change.2,
      )
  low_back m ds c true e (inr h) =
      absurd (h.2 (sym h.0 ∙ below_gone kind world olds old old_bytes name directory a c.directory m ds c.name e
      ∙ sym (below_gone kind world news new new_bytes name directory b c.directory m ds c.name e) ∙ h.1))
  low_back m ds c false e (inr h) = (
    below_rest kind world olds old old_bytes name directory a c.directory m ds c.name e ∙ h.0,
    below_rest kind world news new new_bytes name directory b c.directory m ds c.name e ∙ h.1,
    h.2,
  )

  -- what differs is here, or among what is behind
  pub step_is : (ds : List (List ℕ)) (c : Change)
      → IsChange world olds news (under ds c)
      ↔ (IsHere world old new name directory (under ds c) ⊎ IsChange world a.rest b.rest (under ds c))
  step_is [] c = (
    top_forth c (is_asked directory name c.directory c.name) refl,
    top_back c (is_asked directory name c.directory c.name)
        refl,
  )
  step_is (m ∷ ds) c =
      (low_forth m ds c (is_asked directory name true m) refl, low_back m ds c (is_asked directory name true m) refl)
