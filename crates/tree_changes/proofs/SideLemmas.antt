-- one side of a pair
use Rattle.std.proofs.Common.{◌≡◌, ℕ, Bool, true, false, not, ◌&&◌, cond, List, [], ◌∷◌, ◌++◌, Option, Some, None, refl, sym, ap}
use Rattle.std.proofs.Common.{◌∙◌, subst}
use Rattle.std.specs.Prelude.{option_map, nat_eq, All}
use Rattle.std.specs.Ordering.{nat_cmp}
use Rattle.std.specs.declared.cmp.Ordering.TheVariants.{Less}
use Rattle.std.specs.Cmp.Lexicographic.{pointwise, bytes_decides, slice_cmp}
use Rattle.std.proofs.lemmas.Cmp.{nat_list_cmp_total, tied_itself}
use Rattle.std.proofs.lemmas.List.Elements.{All-nil, All-cons, All-head, All-tail, All-weaker}
use Rattle.gix_hash_core.specs.declared.kind.Kind.{Kind}
use Rattle.tree_objects.specs.declared.mode.EntryKind.{EntryKind}
use Rattle.tree_objects.specs.declared.mode.EntryKind.TheVariants.{Directory, File, Executable, Link, Submodule}
use Rattle.tree_objects.specs.Tree.{TreeEntry, AreEntriesAnd, StandsBefore, key_of, key_end}
use Rattle.tree_objects.specs.Tree.{AreInOrder}
use Rattle.tree_objects.proofs.ReadLemmas.{rest_rising}
use Rattle.tree_changes.specs.Stands.{is_directory, is_named, item_of, item_named}
use Rattle.tree_changes.specs.Walk.{IsSide, end_if}

pub end_by_kind : (kind : EntryKind) → key_end kind ≡ end_if (is_directory kind)
end_by_kind Directory = refl
end_by_kind File = refl
end_by_kind Executable = refl
end_by_kind Link = refl
end_by_kind Submodule = refl

pub key_is : (a : TreeEntry) → key_of a ≡ a.name ++ end_if (is_directory a.kind)
unfolding key_of
key_is a = ap (λ x. a.name ++ x) (end_by_kind a.kind)

pub before_all : (a : TreeEntry) (entries : List TreeEntry) → AreInOrder (a ∷ entries) → All (StandsBefore a) entries
before_all a [] order = All-nil (StandsBefore a)
before_all a (b ∷ entries) order =
    All-cons (StandsBefore a) b entries order.0
    (All-weaker (StandsBefore b) (StandsBefore a)
    (λ e before. nat_list_cmp_total.trans (key_of a) (key_of b) (key_of e) order.0 before) entries
    (before_all b entries order.1))

-- an entry before the first of entries in order is before all
pub before_first : (a b : TreeEntry) (entries : List TreeEntry) → AreInOrder (b ∷ entries) → StandsBefore a b
    → All (StandsBefore a) (b ∷ entries)
before_first a b entries order before =
    All-cons (StandsBefore a) b entries before
    (All-weaker (StandsBefore b) (StandsBefore a)
    (λ e h. nat_list_cmp_total.trans (key_of a) (key_of b) (key_of e) before h) entries (before_all b entries order))

abbrev IsBehind : List ℕ → Bool → TreeEntry → Type 0
IsBehind name directory e = slice_cmp nat_cmp (name ++ end_if directory) (key_of e) ≡ Less

behind_key : (a : TreeEntry) (entries : List TreeEntry) → All (StandsBefore a) entries
    → All (IsBehind a.name (is_directory a.kind)) entries
behind_key a entries all =
    All-weaker (StandsBefore a) (IsBehind a.name (is_directory a.kind))
    (λ e h. subst (λ k. slice_cmp nat_cmp k (key_of e) ≡ Less) (key_is a) h) entries all

-- the side of the entry that a pair is of
pub side_first : (kind : Kind) (entries : List TreeEntry) (a : TreeEntry) (more : List TreeEntry) (bytes : List ℕ)
    → entries ≡ a ∷ more → AreEntriesAnd kind bytes more [] → AreInOrder entries
    → IsSide kind entries (Some a) bytes a.name (is_directory a.kind)
side_first kind entries a more bytes e are order =
    let order' : AreInOrder (a ∷ more) = subst AreInOrder e order in
    record {
      rest = more;
      all = e;
      entries_are = are;
      in_order = rest_rising a more order';
      named = (refl, refl);
      behind = behind_key a more (before_all a more order');
    }

-- a side without such an entry
pub side_none : (kind : Kind) (entries : List TreeEntry) (a : TreeEntry) (bytes : List ℕ) → AreEntriesAnd kind bytes entries []
    → AreInOrder entries → All (StandsBefore a) entries → IsSide kind entries None bytes a.name (is_directory a.kind)
side_none kind entries a bytes are order before = record {
  rest = entries;
  all = refl;
  entries_are = are;
  in_order = order;
  named = tt;
  behind = behind_key a entries before;
}

never_before_itself : (k : List ℕ) → slice_cmp nat_cmp k k ≡ Less → ⊥
never_before_itself k h = let tied = tied_itself nat_list_cmp_total k in cc

both_true : (a b : Bool) → (a && b) ≡ true → (a ≡ true) × (b ≡ true)
both_true true b e = (refl, e)
both_true false b e = cc

not_true : (b : Bool) → not b ≡ true → b ≡ false
not_true true e = cc
not_true false e = refl

wanted : (d k : Bool) → cond d k (not k) ≡ true → k ≡ d
wanted true k e = e
wanted false k e = not_true k e

pub named_true : (d : Bool) (name : List ℕ) (e : TreeEntry) → is_named d name e ≡ true
    → (is_directory e.kind ≡ d) × (e.name ≡ name)
named_true d name e h =
    let both = both_true (cond d (is_directory e.kind) (not (is_directory e.kind))) (pointwise nat_eq e.name name) h in
    (wanted d (is_directory e.kind) both.0, (bytes_decides e.name name).0 both.1)

not_named : (name : List ℕ) (d : Bool) (e : TreeEntry) → IsBehind name d e → is_named d name e ≡ false
not_named name d e behind =
    elim (is_named d name e) as (λ t. is_named d name e ≡ t → t ≡ false) [
      | true ↦ λ h. absurd (
          let is = named_true d name e h in
          let same : key_of e ≡ name ++ end_if d =
          key_is e ∙ ap (λ n. n ++ end_if (is_directory e.kind)) is.1 ∙ ap (λ k. name ++ end_if k) is.0 in
          never_before_itself (name ++ end_if d) (subst (λ k. slice_cmp nat_cmp (name ++ end_if d) k ≡ Less) same behind))
      | false ↦ λ h. refl
    ] refl

-- nothing behind a name is of it
pub gone : (name : List ℕ) (d : Bool) (entries : List TreeEntry) → All (IsBehind name d) entries
    → item_named d name entries ≡ None
gone name d [] all = refl
gone name d (e ∷ entries) all =
    let test = not_named name d e (All-head (IsBehind name d) e entries all) in
    rw test (gone name d entries (All-tail (IsBehind name d) e entries all))

-- whether what is asked for is what a pair is of
abbrev pub is_asked : Bool → List ℕ → Bool → List ℕ → Bool
is_asked directory name d n = cond d directory (not directory) && pointwise nat_eq name n

pub asked_true : (directory : Bool) (name : List ℕ) (d : Bool) (n : List ℕ) → is_asked directory name d n ≡ true
    → (directory ≡ d) × (name ≡ n)
asked_true directory name d n h =
    let both = both_true (cond d directory (not directory)) (pointwise nat_eq name n) h in
    (wanted d directory both.0, (bytes_decides name n).0 both.1)

wanted_itself : (d : Bool) → cond d d (not d) ≡ true
wanted_itself true = refl
wanted_itself false = refl

pub asked_itself : (directory : Bool) (name : List ℕ) (d : Bool) (n : List ℕ) → directory ≡ d → name ≡ n
    → is_asked directory name d n ≡ true
asked_itself directory name d n e f =
    let left : cond d directory (not directory) ≡ true = subst (λ k. cond d k (not k) ≡ true) (sym e) (wanted_itself d) in
    let right : pointwise nat_eq name n ≡ true = (bytes_decides name n).1 f in
    rw (left, right) refl

none_asked : (directory : Bool) (name : List ℕ) (d : Bool) (n : List ℕ) (rest : List TreeEntry)
    → item_named directory name rest ≡ None
    → item_named d n rest ≡ cond (is_asked directory name d n) None (item_named d n rest)
none_asked directory name d n rest gone' =
    elim (is_asked directory name d n) as (λ t. is_asked directory name d n ≡ t
    → item_named d n rest ≡ cond t None (item_named d n rest)) [
      | true ↦ λ h.
          let is = asked_true directory name d n h in
          subst (λ x. item_named x n rest ≡ None) is.0 (subst (λ x. item_named directory x rest ≡ None) is.1 gone')
      | false ↦ λ h. refl
    ] refl

module _ (kind : Kind) (entries : List TreeEntry) (bytes name : List ℕ) (directory : Bool) where
  -- what stands at a name on a side: that of the pair, where it is asked for, or else one of the others
  pub side_item : (first : Option TreeEntry) (s : IsSide kind entries first bytes name directory) (d : Bool) (n : List ℕ)
      → item_named d n entries ≡ cond (is_asked directory name d n) (option_map item_of first) (item_named d n s.rest)
  side_item None s d n =
      ap (item_named d n) s.all ∙ none_asked directory name d n s.rest (gone name directory s.rest s.behind)
  side_item (Some e) s d n =
      ap (item_named d n) s.all
      ∙ ap (λ (x : List ℕ). cond (cond d (is_directory e.kind) (not (is_directory e.kind)) && pointwise nat_eq x n) (Some
      (item_of e)) (item_named d n s.rest)) s.named.0
      ∙ ap (λ (x : Bool). cond (cond d x (not x) && pointwise nat_eq name n) (Some (item_of e)) (item_named d n s.rest)) s.named.1
