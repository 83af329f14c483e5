-- Words of an extra edge list that name some parents and a last one.
use Rattle.std.proofs.Common.{◌≡◌, ℕ, suc, zero, ◌+◌, ◌-◌, ◌<◌, ◌≤◌, List, [], ◌∷◌, ◌++◌, length, map, drop, take, get_or}
use Rattle.std.proofs.Common.{None}
use Rattle.std.proofs.Common.{refl, sym, ap, ◌∙◌, ⊎_elim, arith}
use Rattle.std.specs.List.{AllByRecursion}
use Rattle.std.proofs.lemmas.Bool.{cases_lt, lt-ltb, le-ltb, cond-true, cond-false}
use Rattle.std.proofs.lemmas.List.{drop_all, drop_at, drop-append-le, take_all, take_more}
use Rattle.graph_format.specs.Parents.{DecodedParents, extra_edge_of, extra_parent, followed_by, listed}
use Rattle.graph_format.specs.Parents.{position_of}
use Rattle.graph_format.specs.declared.Position.{Position}
use Rattle.graph_format.specs.declared.parents.ExtraEdge.{ExtraEdge}
use Rattle.graph_format.specs.declared.parents.ExtraEdge.TheVariants as extra
use Rattle.graph_format.specs.declared.parents.ParentEdge.{ParentEdge}
use Rattle.graph_format.specs.declared.parents.ParentEdge.TheVariants as edge
use Rattle.commit_search.specs.EdgeLists.{named_from}
use Rattle.newer_commits.specs.KeptCommits.{field_names, fields_name, IsWhole, AreWhole}

pub internal_word : (q : ℕ) → q < 2147483648 → extra_edge_of q ≡ extra.Internal (position_of q)
internal_word q small = cond-true _ _ _ (lt-ltb q 2147483648 small)

less_top : (q : ℕ) → (q + 2147483648) - 2147483648 ≡ q
less_top q = omega arith

pub last_word : (q : ℕ) → extra_edge_of (q + 2147483648) ≡ extra.Last (position_of q)
last_word q =
    cond-false _ _ _ (le-ltb (q + 2147483648) 2147483648 (omega arith))
    ∙ ap (λ (n : ℕ). extra.Last (position_of n)) (less_top q)

-- some words and a last one
abbrev pub ended : List ℕ → ℕ → List ℕ
ended others last = others ++ (last + 2147483648) ∷ []

pub listed_ended : (others : List ℕ) (last : ℕ) → AllByRecursion (λ q. q < 2147483648) others
    → listed (ended others last) ≡ record { positions = map position_of (others ++ last ∷ []); fault = None }
listed_ended [] last small = ap (λ (e : ExtraEdge). extra_parent e (listed [])) (last_word last)
listed_ended (q ∷ others) last small =
    ap (λ (e : ExtraEdge). extra_parent e (listed (ended others last))) (internal_word q small.0)
    ∙ ap (λ (d : DecodedParents). followed_by (position_of q) d) (listed_ended others last small.1)

numbers_back : (qs : List ℕ) → map (λ (pos : Position). pos.0) (map position_of qs) ≡ qs
numbers_back [] = refl
numbers_back (q ∷ qs) = ap (λ (rest : List ℕ). q ∷ rest) (numbers_back qs)

module _ (old others : List ℕ) (last : ℕ) (small : AllByRecursion (λ q. q < 2147483648) others) where
  listed_behind : listed (drop (length old) (old ++ ended others last))
      ≡ record { positions = map position_of (others ++ last ∷ []); fault = None }
  listed_behind = ap listed (drop_at old (ended others last) (length old) refl) ∙ listed_ended others last small

  pub named_behind : named_from (old ++ ended others last) (length old) ≡ others ++ last ∷ []
  named_behind =
      ap (λ (d : DecodedParents). map (λ (pos : Position). pos.0) d.positions) listed_behind ∙ numbers_back (others ++ last ∷ [])

  pub whole_behind : IsWhole (old ++ ended others last) (edge.ExtraEdgeIndex (length old))
  whole_behind = ap (λ (d : DecodedParents). d.fault) listed_behind

-- more words behind a list that has its end change nothing
listed_step : (e : ExtraEdge) (one other : DecodedParents) → (extra_parent e one).fault ≡ None
    → (one.fault ≡ None → other ≡ one) → extra_parent e other ≡ extra_parent e one
listed_step (extra.Last pos) one other ended same = refl
listed_step (extra.Internal pos) one other ended same = ap (λ (d : DecodedParents). followed_by pos d) (same ended)

listed_more : (ws more : List ℕ) → (listed ws).fault ≡ None → listed (ws ++ more) ≡ listed ws
listed_more [] more ended = absurd (cc)
listed_more (w ∷ ws) more ended =
    listed_step (extra_edge_of w) (listed ws) (listed (ws ++ more)) ended (λ rest. listed_more ws more rest)

whole_within : (words : List ℕ) (index : ℕ) → (listed (drop index words)).fault ≡ None → index < length words
whole_within words index ended =
    ⊎_elim
    (λ (lt : index < length words). lt)
    (λ (past : length words ≤ index).
    let none : (listed (drop index words)).fault ≡ (listed []).fault =
    ap (λ (ws : List ℕ). (listed ws).fault) (drop_all index words past) in
    absurd (cc))
    (cases_lt index (length words))

pub index_within : (words : List ℕ) (index : ℕ) → IsWhole words (edge.ExtraEdgeIndex index) → index < length words
index_within words index ended = whole_within words index ended

module _ (words more : List ℕ) where
  listed_kept : (index : ℕ) → (listed (drop index words)).fault ≡ None
      → listed (drop index (words ++ more)) ≡ listed (drop index words)
  listed_kept index ended =
      ap listed (drop-append-le index words more (omega (arith, whole_within words index ended)))
      ∙ listed_more (drop index words) more ended

  pub whole_kept : (f : ParentEdge) → IsWhole words f → IsWhole (words ++ more) f
  whole_kept edge.None whole = tt
  whole_kept (edge.GraphPosition pos) whole = tt
  whole_kept (edge.ExtraEdgeIndex index) whole = ap (λ (d : DecodedParents). d.fault) (listed_kept index whole) ∙ whole

  field_kept : (f : ParentEdge) → IsWhole words f → field_names (words ++ more) f ≡ field_names words f
  field_kept edge.None whole = refl
  field_kept (edge.GraphPosition pos) whole = refl
  field_kept (edge.ExtraEdgeIndex index) whole =
      ap (λ (d : DecodedParents). map (λ (pos : Position). pos.0) d.positions) (listed_kept index whole)

  pub fields_kept : (fields : ParentEdge × ParentEdge) → AreWhole words fields
      → fields_name (words ++ more) fields ≡ fields_name words fields
  fields_kept fields whole =
      ap (λ (ps : List ℕ). ps ++ field_names (words ++ more) fields.1) (field_kept fields.0 whole.0)
      ∙ ap (λ (ps : List ℕ). field_names words fields.0 ++ ps) (field_kept fields.1 whole.1)

-- a first parent in a field, and the others in words behind the old ones
pub stored_list : (words old others parents : List ℕ) (first last index : ℕ) (f : ParentEdge)
    → f ≡ edge.GraphPosition (position_of first) → words ≡ old ++ ended others last → index ≡ length old
    → AllByRecursion (λ q. q < 2147483648) others → first ∷ (others ++ last ∷ []) ≡ parents
    → (fields_name words (f, edge.ExtraEdgeIndex index) ≡ parents) × AreWhole words (f, edge.ExtraEdgeIndex index)
stored_list words old others parents first last index f is_first is_words is_index small whole =
    rw (is_first, is_words, is_index) (
      ap (λ (ps : List ℕ). first ∷ ps) (named_behind old others last small) ∙ whole,
      (tt, whole_behind old others last small),
    )

one_less : (n : ℕ) → suc n - 1 ≡ n
one_less n = omega arith

parts : (p : ℕ) (qs : List ℕ) (n : ℕ) → n ≡ length qs → 1 ≤ n → p ∷ (take (n - 1) qs ++ get_or (p ∷ qs) n 0 ∷ []) ≡ p ∷ qs
parts p qs zero many some = absurd (omega (arith, some))
parts p qs (suc m) many some =
    let lt : m < length qs = omega (arith, many) in
    rw (one_less m)
    (ap (λ (xs : List ℕ). p ∷ xs) (sym (take_more qs m 0 lt) ∙ take_all (m + 1) qs (omega (arith, many))))

-- a list is its first number, those between, and its last one
pub parts_whole : (ps : List ℕ) → 2 ≤ length ps
    → get_or ps 0 0 ∷ (take ((length ps - 1) - 1) (drop 1 ps) ++ get_or ps (length ps - 1) 0 ∷ []) ≡ ps
parts_whole [] long = absurd (omega (arith, long))
parts_whole (p ∷ qs) long = rw (one_less (length qs)) (parts p qs (length qs) refl (omega (arith, long)))
