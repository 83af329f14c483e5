-- what differs at a pair comes before what differs behind it
use Rattle.std.proofs.Common.{◌≡◌, ◌≢◌, ℕ, Bool, true, false, cond, List, [], ◌∷◌, ◌++◌, Option, Some, None, refl, sym, ap, ◌∙◌}
use Rattle.std.proofs.Common.{subst, inl, inr, append-nil, append_assoc}
use Rattle.std.specs.Prelude.{All, Contains}
use Rattle.std.specs.Ordering.{nat_cmp, ordering_then}
use Rattle.std.specs.declared.cmp.Ordering.{Ordering}
use Rattle.std.specs.declared.cmp.Ordering.TheVariants.{Less, Equal, Greater}
use Rattle.std.specs.Cmp.Lexicographic.{slice_cmp}
use Rattle.std.specs.FinMap.{nat_cmp-IsAntisymmetric}
use Rattle.std.proofs.lemmas.List.Elements.{All-nil, All-cons, All-head, All-tail, All-contains, Contains-append_left}
use Rattle.std.proofs.lemmas.List.Elements.{Contains-append_right, Contains-push}
use Rattle.gix_hash_core.specs.declared.kind.Kind.{Kind}
use Rattle.tree_objects.specs.Tree.{TreeEntry, AreEntriesAnd, IsName, key_of}
use Rattle.tree_changes.specs.Stands.{World, Item, item_of, item_named, item_at, item_id, entries_of, is_directory, is_named}
use Rattle.tree_changes.specs.Stands.{slashed}
use Rattle.tree_changes.specs.Walk.{Change, IsChange, IsHere, IsEarlier, change_key, end_if}
use Rattle.tree_changes.proofs.SideLemmas.{key_is, named_true}

then_less : (o r r' : Ordering) → (r ≡ Less → r' ≡ Less) → ordering_then o r ≡ Less → ordering_then o r' ≡ Less
then_less Less r r' f h = refl
then_less Equal r r' f h = f h
then_less Greater r r' f h = h

then_first : (o r r' : Ordering) → (o ≡ Equal → ⊥) → ordering_then o r ≡ Less → ordering_then o r' ≡ Less
then_first Less r r' f h = refl
then_first Equal r r' f h = absurd (f refl)
then_first Greater r r' f h = h

leaf_before : (k e y : List ℕ) → slice_cmp nat_cmp k e ≡ Less → slice_cmp nat_cmp k (e ++ y) ≡ Less
leaf_before [] [] y h = cc
leaf_before [] (b ∷ e) y h = refl
leaf_before (a ∷ k) [] y h = cc
leaf_before (a ∷ k) (b ∷ e) y h =
    then_less (nat_cmp a b) (slice_cmp nat_cmp k e) (slice_cmp nat_cmp k (e ++ y)) (leaf_before k e y) h

directory_before : (n m : List ℕ) (k : Bool) (x y : List ℕ) → All (λ b. b ≢ 47) n → All (λ b. b ≢ 47) m
    → slice_cmp nat_cmp (n ++ 47 ∷ []) (m ++ end_if k) ≡ Less
    → slice_cmp nat_cmp ((n ++ 47 ∷ []) ++ x) ((m ++ end_if k) ++ y) ≡ Less
directory_before [] [] true x y f g h = cc
directory_before [] [] false x y f g h = cc
directory_before [] (b ∷ m) k x y f g h =
    then_first (nat_cmp 47 b) (slice_cmp nat_cmp [] (m ++ end_if k)) (slice_cmp nat_cmp x ((m ++ end_if k) ++ y))
    (λ e. All-head (λ b. b ≢ 47) b m g (sym (nat_cmp-IsAntisymmetric 47 b e))) h
directory_before (a ∷ n) [] true x y f g h =
    then_first (nat_cmp a 47) (slice_cmp nat_cmp (n ++ 47 ∷ []) []) (slice_cmp nat_cmp ((n ++ 47 ∷ []) ++ x) y)
    (λ e. All-head (λ b. b ≢ 47) a n f (nat_cmp-IsAntisymmetric a 47 e)) h
directory_before (a ∷ n) [] false x y f g h = cc
directory_before (a ∷ n) (b ∷ m) k x y f g h =
    then_less (nat_cmp a b) (slice_cmp nat_cmp (n ++ 47 ∷ []) (m ++ end_if k))
    (slice_cmp nat_cmp ((n ++ 47 ∷ []) ++ x) ((m ++ end_if k) ++ y))
    (directory_before n m k x y (All-tail (λ b. b ≢ 47) a n f) (All-tail (λ b. b ≢ 47) b m g)) h

-- what begins with a key comes before what begins with one behind it
key_before : (name : List ℕ) (d : Bool) (e : TreeEntry) (x y : List ℕ) → IsName name → IsName e.name → (d ≡ false → x ≡ [])
    → slice_cmp nat_cmp (name ++ end_if d) (key_of e) ≡ Less
    → slice_cmp nat_cmp ((name ++ end_if d) ++ x) (key_of e ++ y) ≡ Less
key_before name true e x y h k none before =
    subst (λ t. slice_cmp nat_cmp ((name ++ 47 ∷ []) ++ x) (t ++ y) ≡ Less) (sym (key_is e))
    (directory_before name e.name (is_directory e.kind) x y h.2 k.2
    (subst (λ t. slice_cmp nat_cmp (name ++ 47 ∷ []) t ≡ Less) (key_is e) before))
key_before name false e x y h k none before =
    subst (λ t. slice_cmp nat_cmp t (key_of e ++ y) ≡ Less)
    (sym (append-nil (name ++ [])) ∙ ap (λ t. (name ++ []) ++ t) (sym (none refl)))
    (leaf_before (name ++ []) (key_of e) y before)

-- A text begins with the key of one of these entries.
pub record HasKey (entries : List TreeEntry) (key : List ℕ) : Type 0 where
  pub entry : TreeEntry
  pub among : Contains entries entry
  pub rest : List ℕ
  pub whole : key ≡ key_of entry ++ rest

first_has : (e : TreeEntry) (entries : List TreeEntry) → Contains (e ∷ entries) e
first_has e entries = Contains-append_left (e ∷ []) entries e (Contains-push [] e)

later_has : (a : TreeEntry) (entries : List TreeEntry) (e : TreeEntry) → Contains entries e → Contains (a ∷ entries) e
later_has a entries e h = Contains-append_right (a ∷ []) entries e h

key_later : (a : TreeEntry) (entries : List TreeEntry) (key : List ℕ) → HasKey entries key → HasKey (a ∷ entries) key
key_later a entries key h = record {
  entry = h.entry;
  among = later_has a entries h.entry h.among;
  rest = h.rest;
  whole = h.whole;
}

cond_some : (t : Bool) (a b : Option Item) (x : Item) → t ≡ false → cond t a b ≡ Some x → b ≡ Some x
cond_some true a b x e h = cc
cond_some false a b x e h = h

named_key : (d : Bool) (n : List ℕ) (entries : List TreeEntry) (x : Item) → item_named d n entries ≡ Some x
    → HasKey entries (n ++ end_if d)
named_key d n [] x h = cc
named_key d n (e ∷ entries) x h =
    elim (is_named d n e) as (λ t. is_named d n e ≡ t → HasKey (e ∷ entries) (n ++ end_if d)) [
      | true ↦ λ t.
          let is = named_true d n e t in
          record {
            entry = e;
            among = first_has e entries;
            rest = [];
            whole =
                sym (append-nil (key_of e) ∙ key_is e ∙ ap (λ k. k ++ end_if (is_directory e.kind)) is.1
                ∙ ap (λ k. n ++ end_if k) is.0);
          }
      | false ↦ λ t.
          key_later e entries (n ++ end_if d)
          (named_key d n entries x (cond_some (is_named d n e) (Some (item_of e)) (item_named d n entries) x t h))
    ] refl

nothing_below : (world : World) (d : Bool) (ds : List (List ℕ)) (n : List ℕ) → item_at world d [] ds n ≡ None
nothing_below world d [] n = refl
nothing_below world d (m ∷ ds) n = nothing_below world d ds n

regroup : (a b c d : List ℕ) → ((a ++ b) ++ c) ++ d ≡ a ++ (b ++ (c ++ d))
regroup a b c d = simp append_assoc

pub at_key : (world : World) (d : Bool) (entries : List TreeEntry) (ds : List (List ℕ)) (n : List ℕ) (x : Item)
    → item_at world d entries ds n ≡ Some x → HasKey entries (slashed ds ++ (n ++ end_if d))
at_key world d entries [] n x h = named_key d n entries x h
at_key world d entries (m ∷ ds) n x h =
    elim (item_named true m entries) as (λ i. item_named true m entries ≡ i
    → HasKey entries (slashed (m ∷ ds) ++ (n ++ end_if d))) [
      | None ↦ λ e. absurd (
          let below : item_at world d [] ds n ≡ Some x =
          subst (λ i. item_at world d (entries_of world (item_id i)) ds n ≡ Some x) e h in
          let none = nothing_below world d ds n in
          cc)
      | Some i ↦ λ e.
          let key = named_key true m entries i e in
          record {
            entry = key.entry;
            among = key.among;
            rest = key.rest ++ (slashed ds ++ (n ++ end_if d));
            whole =
                ap (λ t. (t ++ slashed ds) ++ (n ++ end_if d)) key.whole
                ∙ regroup (key_of key.entry) key.rest (slashed ds) (n ++ end_if d);
          }
    ] refl

-- The text of what differs at a pair begins with the name, and a leaf's ends with it.
record HereKey (name : List ℕ) (directory : Bool) (key : List ℕ) : Type 0 where
  pub rest : List ℕ
  none : directory ≡ false → rest ≡ []
  whole : key ≡ (name ++ end_if directory) ++ rest

here_key : (world : World) (old new : Option TreeEntry) (name : List ℕ) (directory : Bool) (c : Change)
    → IsHere world old new name directory c → HereKey name directory (change_key c)
here_key world old new name directory c (inl h) = record {
  rest = [];
  none = λ _. refl;
  whole =
      ap (λ t. slashed t ++ (c.name ++ end_if c.directory)) h.top ∙ ap (λ t. t ++ end_if c.directory) h.name_is
      ∙ ap (λ t. name ++ end_if t) h.directory_is ∙ sym (append-nil (name ++ end_if directory));
}
here_key world old new name directory c (inr h) = record {
  rest = slashed h.rest ++ (c.name ++ end_if c.directory);
  none = λ e. absurd (let f = h.directory_is in cc);
  whole =
      ap (λ t. slashed t ++ (c.name ++ end_if c.directory)) h.directories_are
      ∙ append_assoc (name ++ 47 ∷ []) (slashed h.rest) (c.name ++ end_if c.directory)
      ∙ ap (λ t. (name ++ end_if t) ++ (slashed h.rest ++ (c.name ++ end_if c.directory))) (sym h.directory_is);
}

pub names_all : (kind : Kind) (bytes : List ℕ) (entries : List TreeEntry) → AreEntriesAnd kind bytes entries []
    → All (λ e. IsName e.name) entries
names_all kind bytes [] are = All-nil (λ e. IsName e.name)
names_all kind bytes (e ∷ entries) are =
    All-cons (λ e. IsName e.name) e entries are.1.named (names_all kind are.0 entries are.2)

module _ (name : List ℕ) (directory : Bool) (named : IsName name) where
  behind_has : (entries : List TreeEntry) (a b : List ℕ)
      → All (λ e. slice_cmp nat_cmp (name ++ end_if directory) (key_of e) ≡ Less) entries → All (λ e. IsName e.name) entries
      → HereKey name directory a → HasKey entries b → slice_cmp nat_cmp a b ≡ Less
  behind_has entries a b behind names h k =
      subst (λ t. slice_cmp nat_cmp t b ≡ Less) (sym h.whole)
      (subst (λ t. slice_cmp nat_cmp ((name ++ end_if directory) ++ h.rest) t ≡ Less) (sym k.whole)
      (key_before name directory k.entry h.rest k.rest named
      (All-contains (λ e. IsName e.name) entries k.entry names k.among) h.none
      (All-contains (λ e. slice_cmp nat_cmp (name ++ end_if directory) (key_of e) ≡ Less) entries k.entry behind k.among)))

  pub here_before : (world : World) (old new : Option TreeEntry) (olds news : List TreeEntry)
      → All (λ e. slice_cmp nat_cmp (name ++ end_if directory) (key_of e) ≡ Less) olds → All (λ e. IsName e.name) olds
      → All (λ e. slice_cmp nat_cmp (name ++ end_if directory) (key_of e) ≡ Less) news → All (λ e. IsName e.name) news
      → (c d : Change) → IsHere world old new name directory c → IsChange world olds news d → IsEarlier c d
  here_before world old new olds news behind names behind' names' c d here change =
      elim d.old as (λ o. d.old ≡ o → IsEarlier c d) [
        | Some x ↦ λ e.
            behind_has olds (change_key c) (change_key d) behind names (here_key world old new name directory c here)
            (at_key world d.directory olds d.directories d.name x (change.0 ∙ e))
        | None ↦ λ e.
            elim d.new as (λ o. d.new ≡ o → IsEarlier c d) [
              | Some x ↦ λ f.
                  behind_has news (change_key c) (change_key d) behind' names' (here_key world old new name directory c here)
                  (at_key world d.directory news d.directories d.name x (change.1 ∙ f))
              | None ↦ λ f. absurd (change.2 (e ∙ sym f))
            ] refl
      ] refl
