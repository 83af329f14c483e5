-- What a search breadth first has read ahead.
use Rattle.std.proofs.Common.{◌≡◌, ◌⊎◌, inl, inr, zero, suc, ℕ, ◌+◌, ◌<◌, List, [], ◌∷◌, ◌++◌, length, slice_get, get_or, Some}
use Rattle.std.proofs.Common.{refl, sym, ap, ◌∙◌, ⊎_elim, subst, arith}
use Rattle.std.proofs.lemmas.Option.{same_Some, slice_get_read, slice_get_within}
use Rattle.graph_format.specs.declared.parents.ParentEdge.{ParentEdge}
use Rattle.graph_format.specs.declared.parents.ParentEdge.TheVariants as edge
use Rattle.commit_search.specs.Queue.{commit_in}
use Rattle.commit_search.specs.Search.{queued_by, GoesOn, IsParentNumber, AreFieldsAhead, AreParentNumbers, AreAhead}
use Rattle.commit_search.specs.Source.{Told, AreFieldsRead}
use Rattle.commit_search.specs.declared.ahead.Ahead.{Ahead}
use Rattle.commit_search.specs.SearchState.{SearchState}
use Rattle.commit_search.proofs.QueueLemmas.{commit_extends}

-- what stands at a place of a list with one element more
pushed : {X : Type 0} (xs : List X) (y z : X) (k : ℕ) → slice_get (xs ++ y ∷ []) k ≡ Some z
    → (slice_get xs k ≡ Some z) ⊎ ((k ≡ length xs) × (y ≡ z))
pushed [] y z zero here = inr (refl, same_Some y z here)
pushed [] y z (suc k) here = cc
pushed (x ∷ xs) y z zero here = inl here
pushed (x ∷ xs) y z (suc k) here =
    elim (pushed xs y z k here) [
      | inl before ↦ inl before
      | inr last ↦ inr (ap suc last.0, last.1)
    ]

abbrev Fields : Type 0
Fields = ParentEdge × ParentEdge

-- the source says less
module _ (more less : Told → Type 0) (kept : (t : Told) → less t → more t) where
  number_kept : (field : ParentEdge) (n : ℕ) → IsParentNumber more field n → IsParentNumber less field n
  number_kept edge.None n is = tt
  number_kept (edge.GraphPosition pos) n is = λ t said. is t (kept t said)
  number_kept (edge.ExtraEdgeIndex index) n is = tt

  pub numbers_kept : (fields : List Fields) (numbers : List ℕ) → AreParentNumbers more fields numbers
      → AreParentNumbers less fields numbers
  numbers_kept fields numbers are i both number at there = number_kept both.0 number (are i both number at there)

module _ (count : ℕ) (listed lies : ℕ → ℕ → Type 0) where
  fields_read_kept : (more less : Told → Type 0) → ((t : Told) → less t → more t) → (p : ℕ) (fields : Fields)
      → AreFieldsRead count listed lies more p fields → AreFieldsRead count listed lies less p fields
  fields_read_kept more less kept p fields are = record {
    first = are.first;
    second = are.second;
    told = λ t said. are.told t (kept t said);
  }

  pub fields_kept : (more less : Told → Type 0) → ((t : Told) → less t → more t) → (s : SearchState) (ahead : Ahead)
      → AreFieldsAhead count listed lies more s ahead → AreFieldsAhead count listed lies less s ahead
  fields_kept more less kept s ahead are i fields at =
      let was = are i fields at in (was.0, fields_read_kept more less kept _ fields was.1)

  pub nothing_ahead : (says : Told → Type 0) (s : SearchState) (ahead : Ahead) → length ahead.fields.items ≡ 0
      → length ahead.numbers.items ≡ 0 → AreAhead count listed lies says s ahead
  nothing_ahead says s ahead none numbers = record {
    fields = λ i fields at. absurd (omega (arith, none, slice_get_within ahead.fields.items i fields at));
    as_many = numbers ∙ sym none;
    numbers = λ i fields number at there. absurd (omega (arith, none, slice_get_within ahead.fields.items i fields at));
  }

  fields_extend : (says : Told → Type 0) (a b : SearchState) (c : ℕ) (ahead : Ahead) → GoesOn a b c
      → AreFieldsAhead count listed lies says a ahead → AreFieldsAhead count listed lies says b ahead
  fields_extend says a b c ahead on are i fields at =
      let was = are i fields at in
      let longer = on.extends.longer in
      let within = was.0 in (
        omega arith,
        rw (commit_extends (queued_by a) (queued_by b) c (ahead.first + i) on.extends within) was.1,
      )

  -- the queue grows, and the source says less
  pub ahead_extends : (more less : Told → Type 0) → ((t : Told) → less t → more t) → (a b : SearchState) (c : ℕ) (ahead : Ahead)
      → GoesOn a b c → AreAhead count listed lies more a ahead → AreAhead count listed lies less b ahead
  ahead_extends more less kept a b c ahead on are = record {
    fields = fields_extend less a b c ahead on (fields_kept more less kept a ahead are.fields);
    as_many = are.as_many;
    numbers = numbers_kept more less kept ahead.fields.items ahead.numbers.items are.numbers;
  }

  -- the fields of one more commit are read
  pub fields_push : (says : Told → Type 0) (s : SearchState) (ahead after : Ahead) (x : Fields) (place : ℕ)
      → after.first ≡ ahead.first → after.fields.items ≡ ahead.fields.items ++ x ∷ []
      → place ≡ ahead.first + length ahead.fields.items → place < length (queued_by s)
      → AreFieldsRead count listed lies says (commit_in (queued_by s) place) x
      → AreFieldsAhead count listed lies says s ahead → AreFieldsAhead count listed lies says s after
  fields_push says s ahead after x place first items end within here are i fields at =
      rw first
      (⊎_elim
      (λ (old : slice_get ahead.fields.items i ≡ Some fields). are i fields old)
      (λ new.
      let index = new.0 in
      let same : place ≡ ahead.first + i = omega arith in (
        omega arith,
        subst (λ (k : ℕ). AreFieldsRead count listed lies says (commit_in (queued_by s) k) fields) same
            (subst (λ (f : Fields). AreFieldsRead count listed lies says (commit_in (queued_by s) place) f) new.1 here),
      ))
      (pushed ahead.fields.items x fields i (subst (λ (xs : List Fields). slice_get xs i ≡ Some fields) items at)))

  -- and the numbers of all of them
  pub ahead_read : (more less : Told → Type 0) → ((t : Told) → less t → more t) → (s : SearchState) (ahead : Ahead)
      (fields : List Fields) → fields ≡ ahead.fields.items → AreFieldsAhead count listed lies more s ahead
      → length ahead.numbers.items ≡ length fields → AreParentNumbers less fields ahead.numbers.items
      → AreAhead count listed lies less s ahead
  ahead_read more less kept s ahead fields items are many numbers = record {
    fields = fields_kept more less kept s ahead are;
    as_many = many ∙ ap length items;
    numbers = subst (λ (xs : List Fields). AreParentNumbers less xs ahead.numbers.items) items numbers;
  }

  module _ (says : Told → Type 0) where
    -- the fields that are read again are those of the commit at their place
    pub fields_ahead : (s : SearchState) (ahead : Ahead) (i place : ℕ) (x : Fields) → AreAhead count listed lies says s ahead
        → i < length ahead.fields.items → x ≡ get_or ahead.fields.items i x → ahead.first + i ≡ place
        → AreFieldsRead count listed lies says (commit_in (queued_by s) place) x
    fields_ahead s ahead i place x are lt read same =
        subst (λ (k : ℕ). AreFieldsRead count listed lies says (commit_in (queued_by s) k) x) same
        (are.fields i x (slice_get_read ahead.fields.items (length ahead.fields.items) i x refl lt read)).1

    -- and so the number of the first parent
    pub number_ahead : (s : SearchState) (ahead : Ahead) (i n : ℕ) (x : Fields) → AreAhead count listed lies says s ahead
        → i < length ahead.fields.items → x ≡ get_or ahead.fields.items i x → n ≡ get_or ahead.numbers.items i n
        → IsParentNumber says x.0 n
    number_ahead s ahead i n x are lt read number =
        are.numbers i x n
        (slice_get_read ahead.fields.items (length ahead.fields.items) i x refl lt read)
        (slice_get_read ahead.numbers.items (length ahead.fields.items) i n (sym are.as_many) lt number)

-- the number of one more commit's first parent is read
pub numbers_push : (says : Told → Type 0) (fields : List Fields) (numbers after : List ℕ) (n : ℕ) → after ≡ numbers ++ n ∷ []
    → AreParentNumbers says fields numbers
    → ((both : Fields) → slice_get fields (length numbers) ≡ Some both → IsParentNumber says both.0 n)
    → AreParentNumbers says fields after
numbers_push says fields numbers after n items are here i both number at there =
    ⊎_elim
    (λ (old : slice_get numbers i ≡ Some number). are i both number at old)
    (λ new.
    subst (λ (m : ℕ). IsParentNumber says both.0 m) new.1
    (here both (subst (λ (k : ℕ). slice_get fields k ≡ Some both) new.0 at)))
    (pushed numbers n number i (subst (λ (xs : List ℕ). slice_get xs i ≡ Some number) items there))
