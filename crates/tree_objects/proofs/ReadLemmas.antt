-- bytes are read as entries in one way
use Rattle.std.proofs.Common.{◌≡◌, ℕ, List, [], ◌∷◌, ◌++◌, length, length-append, append-nil, append_assoc, refl, sym, ap, ◌∙◌}
use Rattle.std.proofs.Common.{subst, ◌⊎◌, inl, inr, arith}
use Rattle.gix_hash_core.specs.declared.kind.Kind.{Kind}
use Rattle.tree_objects.specs.Tree.{TreeEntry, BeginsWithTreeEntry, AreEntriesAnd, StandsBefore, AreInOrder, IsTree}
use Rattle.tree_objects.specs.Tree.{IsUnreadableAt}
use Rattle.tree_objects.specs.Tree.{IsOutOfOrderAt}
use Rattle.tree_objects.specs.Refusal.{IsTreeRefusal}
use Rattle.tree_objects.specs.declared.check.TreeError.{TreeError}
use Rattle.tree_objects.specs.declared.check.TreeError.TheVariants.{Unreadable, Order}
use Rattle.tree_objects.proofs.SplitLemmas.{one_entry}
use Rattle.tree_objects.proofs.CheckLemmas.{entry_is_long}

-- One reading of bytes goes on where another has ended.
pub record GoesOn (kind : Kind) (xs : List TreeEntry) (x : List ℕ) (ys : List TreeEntry) (y : List ℕ) : Type 0 where
  pub more : List TreeEntry
  pub all : ys ≡ xs ++ more
  pub read : AreEntriesAnd kind x more y

pub one_goes_on : (kind : Kind) (bytes : List ℕ) (xs ys : List TreeEntry) (x y : List ℕ) → AreEntriesAnd kind bytes xs x
    → AreEntriesAnd kind bytes ys y → GoesOn kind xs x ys y ⊎ GoesOn kind ys y xs x
one_goes_on kind bytes [] ys x y h k =
    inl (record { more = ys; all = refl; read = subst (λ b. AreEntriesAnd kind b ys y) h k })
one_goes_on kind bytes (a ∷ xs) [] x y h k =
    inr (record { more = a ∷ xs; all = refl; read = subst (λ b. AreEntriesAnd kind b (a ∷ xs) x) k h })
one_goes_on kind bytes (a ∷ xs) (b ∷ ys) x y h k =
    let same = one_entry kind bytes a b h.0 k.0 h.1 k.1 in
    elim (one_goes_on kind h.0 xs ys x y h.2 (subst (λ t. AreEntriesAnd kind t ys y) (sym same.next) k.2)) [
      | inl f ↦ inl (record {
        more = f.more;
        all = ap (λ t. t ∷ ys) (sym same.entry) ∙ ap (λ t. a ∷ t) f.all;
        read = f.read;
      })
      | inr f ↦ inr (record {
        more = f.more;
        all = ap (λ t. t ∷ xs) same.entry ∙ ap (λ t. b ∷ t) f.all;
        read = f.read;
      })
    ]

-- no bytes are no entries
none_in_nothing : (kind : Kind) (more : List TreeEntry) (y : List ℕ) → AreEntriesAnd kind [] more y → more ≡ []
none_in_nothing kind [] y h = refl
none_in_nothing kind (a ∷ more) y h =
    absurd (let long = entry_is_long kind [] a h.0 h.1 in omega arith)

-- where no entry is, there are none
none_there : (kind : Kind) (bytes : List ℕ) (more : List TreeEntry) (y : List ℕ)
    → ((e : TreeEntry) (next : List ℕ) → BeginsWithTreeEntry kind bytes e next → ⊥) → AreEntriesAnd kind bytes more y → more ≡ []
none_there kind bytes [] y none h = refl
none_there kind bytes (a ∷ more) y none h = absurd (none a h.0 h.1)

pub rest_rising : (a : TreeEntry) (entries : List TreeEntry) → AreInOrder (a ∷ entries) → AreInOrder entries
rest_rising a [] rising = tt
rest_rising a (b ∷ entries) rising = rising.1

-- neighbours in order
pub rising_pair : (front : List TreeEntry) (a b : TreeEntry) (more : List TreeEntry)
    → AreInOrder ((front ++ a ∷ b ∷ []) ++ more) → StandsBefore a b
rising_pair [] a b more rising = rising.0
rising_pair (c ∷ front) a b more rising =
    rising_pair front a b more (rest_rising c ((front ++ a ∷ b ∷ []) ++ more) rising)

-- the bytes of one tree
pub one_tree : (kind : Kind) (bytes : List ℕ) (xs ys : List TreeEntry) → IsTree kind bytes xs → IsTree kind bytes ys → xs ≡ ys
one_tree kind bytes xs ys h k =
    elim (one_goes_on kind bytes xs ys [] [] h.are_entries k.are_entries) [
      | inl f ↦ sym (f.all ∙ ap (λ t. xs ++ t) (none_in_nothing kind f.more [] f.read) ∙ append-nil xs)
      | inr f ↦ f.all ∙ ap (λ t. ys ++ t) (none_in_nothing kind f.more [] f.read) ∙ append-nil ys
    ]

unreadable_is_none : (kind : Kind) (bytes : List ℕ) (n : ℕ) (entries : List TreeEntry) → IsUnreadableAt kind bytes n
    → IsTree kind bytes entries → ⊥
unreadable_is_none kind bytes n entries u h =
    elim (one_goes_on kind bytes u.entries entries u.rest [] u.read h.are_entries) [
      | inl f ↦ u.more (subst (λ t. AreEntriesAnd kind u.rest t []) (none_there kind u.rest f.more [] u.no_entry f.read) f.read)
      | inr f ↦ u.more (sym (subst (λ t. AreEntriesAnd kind [] t u.rest) (none_in_nothing kind f.more u.rest f.read) f.read))
    ]

out_of_order_is_none : (kind : Kind) (bytes : List ℕ) (n : ℕ) (entries : List TreeEntry) → IsOutOfOrderAt kind bytes n
    → IsTree kind bytes entries → ⊥
out_of_order_is_none kind bytes n entries o h =
    elim (one_goes_on kind bytes (o.entries ++ o.last ∷ o.entry ∷ []) entries o.rest [] o.read h.are_entries) [
      | inl f ↦ o.not_behind (rising_pair o.entries o.last o.entry f.more (subst AreInOrder f.all h.rising))
      | inr f ↦
          let all : (o.entries ++ o.last ∷ o.entry ∷ []) ++ [] ≡ entries =
          append-nil (o.entries ++ o.last ∷ o.entry ∷ []) ∙ f.all
          ∙ ap (λ t. entries ++ t) (none_in_nothing kind f.more o.rest f.read)
          ∙ append-nil entries in
          o.not_behind (rising_pair o.entries o.last o.entry [] (subst AreInOrder (sym all) h.rising))
    ]

pub refused_is_none : (kind : Kind) (bytes : List ℕ) (error : TreeError) (entries : List TreeEntry)
    → IsTreeRefusal kind bytes error → IsTree kind bytes entries → ⊥
refused_is_none kind bytes (Unreadable n) entries refused h = unreadable_is_none kind bytes n entries refused h
refused_is_none kind bytes (Order n) entries refused h = out_of_order_is_none kind bytes n entries refused h

-- what comes before the last of a list is empty, or the list without its last goes on there
nothing_left : (xs more : List TreeEntry) → xs ++ more ≡ [] → more ≡ []
nothing_left [] more e = e
nothing_left (x ∷ xs) more e = cc

front_of_more : (xs ys more : List TreeEntry) (z : TreeEntry) → ys ++ z ∷ [] ≡ xs ++ more
    → (more ≡ []) ⊎ ((front : List TreeEntry) × (ys ≡ xs ++ front))
front_of_more [] ys more z e = inr (ys, refl)
front_of_more (x ∷ xs) [] more z e = inl (nothing_left xs more (let f : [] ≡ xs ++ more = cc in sym f))
front_of_more (x ∷ xs) (y ∷ ys) more z e =
    elim (front_of_more xs ys more z cc) [
      | inl f ↦ inl f
      | inr f ↦ inr (f.0, (let head : y ≡ x = cc in ap (λ t. t ∷ ys) head) ∙ ap (λ t. x ∷ t) f.1)
    ]

-- two refusals that stand one behind the other are at one place
order_before_order : (kind : Kind) (bytes : List ℕ) (n m : ℕ) (o : IsOutOfOrderAt kind bytes n) (p : IsOutOfOrderAt kind bytes m)
    → GoesOn kind (o.entries ++ o.last ∷ o.entry ∷ []) o.rest (p.entries ++ p.last ∷ p.entry ∷ []) p.rest → n ≡ m
order_before_order kind bytes n m o p f =
    elim (front_of_more (o.entries ++ o.last ∷ o.entry ∷ []) (p.entries ++ p.last ∷ []) f.more p.entry
    (append_assoc p.entries (p.last ∷ []) (p.entry ∷ []) ∙ f.all)) [
      | inl none ↦
          let all : p.entries ++ p.last ∷ p.entry ∷ [] ≡ o.entries ++ o.last ∷ o.entry ∷ [] =
          f.all ∙ ap (λ t. (o.entries ++ o.last ∷ o.entry ∷ []) ++ t) none ∙ append-nil (o.entries ++ o.last ∷ o.entry ∷ []) in
          omega (
            arith,
            o.count,
            p.count,
            ap length all,
            length-append p.entries (p.last ∷ p.entry ∷ []),
            length-append o.entries (o.last ∷ o.entry ∷ []),
          )
      | inr front ↦ absurd (o.not_behind (rising_pair o.entries o.last o.entry front.0 (subst AreInOrder front.1 p.rising)))
    ]

unreadable_is_first : (kind : Kind) (bytes : List ℕ) (n m : ℕ) (u : IsUnreadableAt kind bytes n) (v : IsUnreadableAt kind bytes m)
    → GoesOn kind u.entries u.rest v.entries v.rest → n ≡ m
unreadable_is_first kind bytes n m u v f =
    let all : v.entries ≡ u.entries =
    f.all ∙ ap (λ t. u.entries ++ t) (none_there kind u.rest f.more v.rest u.no_entry f.read) ∙ append-nil u.entries in
    sym u.count ∙ ap length (sym all) ∙ v.count

pub not_both : (kind : Kind) (bytes : List ℕ) (n m : ℕ) → IsUnreadableAt kind bytes n → IsOutOfOrderAt kind bytes m → ⊥
not_both kind bytes n m u o =
    elim (one_goes_on kind bytes u.entries (o.entries ++ o.last ∷ o.entry ∷ []) u.rest o.rest u.read o.read) [
      | inl f ↦
          let all : (o.entries ++ o.last ∷ o.entry ∷ []) ++ [] ≡ u.entries =
          append-nil (o.entries ++ o.last ∷ o.entry ∷ []) ∙ f.all
          ∙ ap (λ t. u.entries ++ t) (none_there kind u.rest f.more o.rest u.no_entry f.read) ∙ append-nil u.entries in
          o.not_behind (rising_pair o.entries o.last o.entry [] (subst AreInOrder (sym all) u.rising))
      | inr f ↦ o.not_behind (rising_pair o.entries o.last o.entry f.more (subst AreInOrder f.all u.rising))
    ]

pub one_refusal : (kind : Kind) (bytes : List ℕ) (first second : TreeError) → IsTreeRefusal kind bytes first
    → IsTreeRefusal kind bytes second → first ≡ second
one_refusal kind bytes (Unreadable n) (Unreadable m) h k =
    ap Unreadable (elim (one_goes_on kind bytes h.entries k.entries h.rest k.rest h.read k.read) [
      | inl f ↦ unreadable_is_first kind bytes n m h k f
      | inr f ↦ sym (unreadable_is_first kind bytes m n k h f)
    ])
one_refusal kind bytes (Unreadable n) (Order m) h k = absurd (not_both kind bytes n m h k)
one_refusal kind bytes (Order n) (Unreadable m) h k = absurd (not_both kind bytes m n k h)
one_refusal kind bytes (Order n) (Order m) h k =
    ap Order (elim (one_goes_on kind bytes (h.entries ++ h.last ∷ h.entry ∷ []) (k.entries ++ k.last ∷ k.entry ∷ []) h.rest k.rest
    h.read k.read) [
      | inl f ↦ order_before_order kind bytes n m h k f
      | inr f ↦ sym (order_before_order kind bytes m n k h f)
    ])
