-- A base with newer commits on top, as a source of commits.
use Rattle.std.proofs.Common.{◌≡◌, ◌⊎◌, ℕ, suc, zero, ◌+◌, ◌-◌, ◌<◌, ◌≤◌, ◌==◌, max, List, [], ◌∷◌, length, map, drop}
use Rattle.std.proofs.Common.{get_or, Contains, cond, nat_lt}
use Rattle.std.proofs.Common.{refl, sym, ap, ◌∙◌, subst, inl, inr, ⊎_elim, arith}
use Rattle.std.proofs.lemmas.Bool.{cases_lt, cond-true, cond-false, lt-ltb, le-ltb, eq-eqb, ne_eqb}
use Rattle.std.proofs.lemmas.List.{length-map}
use Rattle.std.proofs.lemmas.List.Elements.{Contains-append_left, Contains-append_right, Contains-append_cases}
use Rattle.graph_walks.specs.History.{IsParent, parents_at}
use Rattle.graph_format.specs.Parents.{DecodedParents, extra_edge_of, extra_parent, listed, position_of}
use Rattle.graph_format.specs.declared.Position.{Position}
use Rattle.graph_format.specs.declared.parents.ExtraEdge.{ExtraEdge}
use Rattle.graph_format.specs.declared.parents.ExtraEdge.TheVariants as extra
use Rattle.graph_format.specs.declared.parents.ParentEdge.{ParentEdge}
use Rattle.graph_format.specs.declared.parents.ParentEdge.TheVariants as edge
use Rattle.commit_search.specs.EdgeLists.{named_by, named_from}
use Rattle.commit_search.specs.Source.{Told, IsFieldWithin, IsFieldTrue, FieldNames, AreFieldsTold, AreFieldsRead}
use Rattle.commit_search.specs.Source.{IsNextListed, IsWordRead}
use Rattle.commit_search.proofs.EdgeListLemmas.{head_contained, tail_contained, contained_cases, listed_at, named_internal}
use Rattle.commit_search.proofs.EdgeListLemmas.{named_last}
use Rattle.newer_commits.specs.CommitsOnTop.{CommitsOnTop, nodes_on_top, AreWordsOf, AreAfterParents}
use Rattle.newer_commits.specs.JoinedHistory.{joined_with, word_within, LiesInJoined, IsListedInJoined}
use Rattle.newer_commits.specs.Room.{AreFewEnough}
use Rattle.newer_commits.specs.KeptCommits.{field_names, fields_name, IsWhole, AreFieldsOnTop}
use Rattle.newer_commits.proofs.ListedLemmas.{index_within, internal_word}
use Rattle.newer_commits.proofs.HistoryLemmas.{joined_length, parent_joined, parent_below, parents_above}

-- Words of the base, where those that name no commit of the base name no newer one either.

-- a word is the same, and names a commit of the base; or it names neither one of the base nor a newer one
abbrev SameWithin : ℕ → ℕ → ExtraEdge → ExtraEdge → Type 0
SameWithin n all (extra.Internal pos) (extra.Internal other) = ((pos.0 < n) × (other.0 ≡ pos.0)) ⊎ ((n ≤ pos.0) × (all ≤ other.0))
SameWithin n all (extra.Last pos) (extra.Last other) = ((pos.0 < n) × (other.0 ≡ pos.0)) ⊎ ((n ≤ pos.0) × (all ≤ other.0))
SameWithin n all (extra.Internal pos) (extra.Last other) = ⊥
SameWithin n all (extra.Last pos) (extra.Internal other) = ⊥

abbrev positions : DecodedParents → List ℕ
positions d = map (λ (pos : Position). pos.0) d.positions

module _ (n m : ℕ) (few : AreFewEnough n m) where
  same_itself : (e : ExtraEdge) → named_by e < n → SameWithin n (n + m) e e
  same_itself (extra.Internal pos) below = inl (below, refl)
  same_itself (extra.Last pos) below = inl (below, refl)

  far_internal : (w : ℕ) → w < 2147483648 → n ≤ w → n + m ≤ 2147483647
  far_internal w small past =
      ⊎_elim
      (λ (none : m ≡ 0). omega (arith, none, small, past))
      (λ (some : n + m ≤ 0x70000000). omega (arith, some))
      few

  far_last : (w : ℕ) → 2147483648 ≤ w → n ≤ w - 2147483648 → n + m ≤ max w 4294967295 - 2147483648
  far_last w large past =
      ⊎_elim
      (λ (none : m ≡ 0). omega (arith, none, large, past))
      (λ (some : n + m ≤ 0x70000000). omega (arith, some))
      few

  cut_is : (w : ℕ) → n ≤ named_by (extra_edge_of w)
      → word_within n w ≡ cond (nat_lt w 2147483648) 2147483647 (max w 4294967295)
  cut_is w past = cond-false _ _ _ (le-ltb (named_by (extra_edge_of w)) n past)

  last_is : (w : ℕ) → 2147483648 ≤ w → extra_edge_of w ≡ extra.Last (position_of (w - 2147483648))
  last_is w large = cond-false _ _ _ (le-ltb w 2147483648 large)

  same_within : (w : ℕ) → SameWithin n (n + m) (extra_edge_of w) (extra_edge_of (word_within n w))
  same_within w =
      ⊎_elim
      (λ (below : named_by (extra_edge_of w) < n).
      let kept : word_within n w ≡ w = cond-true _ _ _ (lt-ltb (named_by (extra_edge_of w)) n below) in
      subst (λ (x : ℕ). SameWithin n (n + m) (extra_edge_of w) (extra_edge_of x)) (sym kept)
      (same_itself (extra_edge_of w) below))
      (λ (past : n ≤ named_by (extra_edge_of w)).
      ⊎_elim
      (λ (small : w < 2147483648).
      let is : extra_edge_of w ≡ extra.Internal (position_of w) = internal_word w small in
      let beyond : n ≤ w = subst (λ (e : ExtraEdge). n ≤ named_by e) is past in
      let other : extra_edge_of (word_within n w) ≡ extra.Internal (position_of 2147483647) =
      ap extra_edge_of (cut_is w past ∙ cond-true _ _ _ (lt-ltb w 2147483648 small)) ∙ internal_word 2147483647 (omega arith) in
      subst (λ (e : ExtraEdge). SameWithin n (n + m) e (extra_edge_of (word_within n w))) (sym is)
      (subst (λ (e : ExtraEdge). SameWithin n (n + m) (extra.Internal (position_of w)) e) (sym other)
      (inr (beyond, far_internal w small beyond))))
      (λ (large : 2147483648 ≤ w).
      let is : extra_edge_of w ≡ extra.Last (position_of (w - 2147483648)) = last_is w large in
      let beyond : n ≤ w - 2147483648 = subst (λ (e : ExtraEdge). n ≤ named_by e) is past in
      let other : extra_edge_of (word_within n w) ≡ extra.Last (position_of (max w 4294967295 - 2147483648)) =
      ap extra_edge_of (cut_is w past ∙ cond-false _ _ _ (le-ltb w 2147483648 large))
      ∙ last_is (max w 4294967295) (omega arith) in
      subst (λ (e : ExtraEdge). SameWithin n (n + m) e (extra_edge_of (word_within n w))) (sym is)
      (subst (λ (e : ExtraEdge). SameWithin n (n + m) (extra.Last (position_of (w - 2147483648))) e) (sym other)
      (inr (beyond, far_last w large beyond))))
      (cases_lt w 2147483648))
      (cases_lt (named_by (extra_edge_of w)) n)

  -- one of the parents, of those that words name

  head_from : (one other q : ℕ) → ((one < n) × (other ≡ one)) ⊎ ((n ≤ one) × (n + m ≤ other)) → other ≡ q → q < n + m
      → (one ≡ q) × (q < n)
  head_from one other q cases is within =
      ⊎_elim
      (λ (same : (one < n) × (other ≡ one)). (omega (arith, same.1, is), omega (arith, same.0, same.1, is)))
      (λ (far : (n ≤ one) × (n + m ≤ other)). absurd (omega (arith, far.1, is, within)))
      cases

  step_from : (e other : ExtraEdge) → SameWithin n (n + m) e other → (d rest : DecodedParents)
      → ((q : ℕ) → Contains (positions rest) q → q < n + m → Contains (positions d) q × (q < n))
      → (q : ℕ) → Contains (positions (extra_parent other rest)) q → q < n + m
      → Contains (positions (extra_parent e d)) q × (q < n)
  step_from (extra.Internal pos) (extra.Internal other) same d rest more q contained within =
      ⊎_elim
      (λ (here : other.0 ≡ q).
      let found = head_from pos.0 other.0 q same here within in
      (subst (λ (x : ℕ). Contains (pos.0 ∷ positions d) x) found.0 (head_contained pos.0 (positions d)), found.1))
      (λ (later : Contains (positions rest) q).
      let found = more q later within in
      (tail_contained pos.0 q (positions d) found.0, found.1))
      (contained_cases other.0 q (positions rest) contained)
  step_from (extra.Last pos) (extra.Last other) same d rest more q contained within =
      ⊎_elim
      (λ (here : other.0 ≡ q).
      let found = head_from pos.0 other.0 q same here within in
      (subst (λ (x : ℕ). Contains (pos.0 ∷ []) x) found.0 (head_contained pos.0 []), found.1))
      (λ (later : Contains [] q). absurd (omega (arith, later.1)))
      (contained_cases other.0 q [] contained)
  step_from (extra.Internal pos) (extra.Last other) same d rest more q contained within = absurd same
  step_from (extra.Last pos) (extra.Internal other) same d rest more q contained within = absurd same

  from_cut : (ws : List ℕ) (q : ℕ) → Contains (positions (listed (map (word_within n) ws))) q → q < n + m
      → Contains (positions (listed ws)) q × (q < n)
  from_cut [] q contained within = absurd (omega (arith, contained.1))
  from_cut (w ∷ ws) q contained within =
      step_from (extra_edge_of w) (extra_edge_of (word_within n w)) (same_within w) (listed ws) (listed (map (word_within n) ws))
      (from_cut ws) q contained within

  head_to : (one other q : ℕ) → ((one < n) × (other ≡ one)) ⊎ ((n ≤ one) × (n + m ≤ other)) → one ≡ q → q < n → other ≡ q
  head_to one other q cases is below =
      ⊎_elim
      (λ (same : (one < n) × (other ≡ one)). omega (arith, same.1, is))
      (λ (far : (n ≤ one) × (n + m ≤ other)). absurd (omega (arith, far.0, is, below)))
      cases

  step_to : (e other : ExtraEdge) → SameWithin n (n + m) e other → (d rest : DecodedParents)
      → ((q : ℕ) → Contains (positions d) q → q < n → Contains (positions rest) q)
      → (q : ℕ) → Contains (positions (extra_parent e d)) q → q < n → Contains (positions (extra_parent other rest)) q
  step_to (extra.Internal pos) (extra.Internal other) same d rest more q contained below =
      ⊎_elim
      (λ (here : pos.0 ≡ q).
      subst (λ (x : ℕ). Contains (other.0 ∷ positions rest) x) (head_to pos.0 other.0 q same here below)
      (head_contained other.0 (positions rest)))
      (λ (later : Contains (positions d) q). tail_contained other.0 q (positions rest) (more q later below))
      (contained_cases pos.0 q (positions d) contained)
  step_to (extra.Last pos) (extra.Last other) same d rest more q contained below =
      ⊎_elim
      (λ (here : pos.0 ≡ q).
      subst (λ (x : ℕ). Contains (other.0 ∷ []) x) (head_to pos.0 other.0 q same here below) (head_contained other.0 []))
      (λ (later : Contains [] q). absurd (omega (arith, later.1)))
      (contained_cases pos.0 q [] contained)
  step_to (extra.Internal pos) (extra.Last other) same d rest more q contained below = absurd same
  step_to (extra.Last pos) (extra.Internal other) same d rest more q contained below = absurd same

  to_cut : (ws : List ℕ) (q : ℕ) → Contains (positions (listed ws)) q → q < n
      → Contains (positions (listed (map (word_within n) ws))) q
  to_cut [] q contained below = absurd (omega (arith, contained.1))
  to_cut (w ∷ ws) q contained below =
      step_to (extra_edge_of w) (extra_edge_of (word_within n w)) (same_within w) (listed ws) (listed (map (word_within n) ws))
      (to_cut ws) q contained below

  drop_mapped : (f : ℕ → ℕ) (ws : List ℕ) (index : ℕ) → drop index (map f ws) ≡ map f (drop index ws)
  drop_mapped f ws zero = refl
  drop_mapped f [] (suc index) = refl
  drop_mapped f (w ∷ ws) (suc index) = drop_mapped f ws index

  pub named_from_cut : (ws : List ℕ) (index q : ℕ) → Contains (named_from (map (word_within n) ws) index) q → q < n + m
      → Contains (named_from ws index) q × (q < n)
  named_from_cut ws index q contained within =
      from_cut (drop index ws) q
      (subst (λ (xs : List ℕ). Contains (positions (listed xs)) q) (drop_mapped (word_within n) ws index) contained) within

  pub named_in_cut : (ws : List ℕ) (index q : ℕ) → Contains (named_from ws index) q → q < n
      → Contains (named_from (map (word_within n) ws) index) q
  named_in_cut ws index q contained below =
      subst (λ (xs : List ℕ). Contains (positions (listed xs)) q) (sym (drop_mapped (word_within n) ws index))
      (to_cut (drop index ws) q contained below)

  pub word_kept : (w : ℕ) → named_by (extra_edge_of w) < n → word_within n w ≡ w
  word_kept w below = cond-true _ _ _ (lt-ltb (named_by (extra_edge_of w)) n below)

get_or_mapped : (f : ℕ → ℕ) (ws : List ℕ) (i d e : ℕ) → i < length ws → get_or (map f ws) i d ≡ f (get_or ws i e)
get_or_mapped f [] i d e lt = absurd (omega (arith, lt))
get_or_mapped f (w ∷ ws) zero d e lt = refl
get_or_mapped f (w ∷ ws) (suc i) d e lt = get_or_mapped f ws i d e (omega (arith, lt))

-- The source that a base of n commits and these on top are together, where the base says something of its commits.
module _ (n layer : ℕ) (listed_for lies : ℕ → ℕ → Type 0) (top : CommitsOnTop) (says : Told → Type 0) (below : top.below ≡ n)
    (counted : (b : Told) → says b → length b.history ≡ n) where
  abbrev pub Says : Told → Type 0
  Says t = (b : Told) × says b × (t ≡ joined_with layer top b)

  abbrev pub all : ℕ
  all = n + length top.commits

  abbrev pub IsListed : ℕ → ℕ → Type 0
  IsListed p index = IsListedInJoined n listed_for top p index

  abbrev pub Lies : ℕ → ℕ → Type 0
  Lies p l = LiesInJoined n lies layer p l

  as_many : length (nodes_on_top top) ≡ length top.commits
  as_many = length-map top.commits (λ c. c.node)

  joined_many : (b : Told) → says b → length (joined_with layer top b).history ≡ n + length top.commits
  joined_many b told = omega (arith, joined_length b.history (nodes_on_top top), counted b told, as_many)

  pub told_many : (t : Told) → Says t → length t.history ≡ n + length top.commits
  told_many t told = ap (λ (x : Told). length x.history) told.2 ∙ joined_many told.0 told.1

  own_list : (b : Told) → (joined_with layer top b).lists layer ≡ top.words
  own_list b = cond-true _ _ _ (eq-eqb layer layer refl)

  -- a newer commit

  module _ (p : ℕ) (above : n ≤ p) (within : p < n + length top.commits) where
    newer_parent : (b : Told) → says b → (q : ℕ) → q < n + length top.commits
        → Contains (parents_at (nodes_on_top top) (p - n)) q → IsParent (joined_with layer top b).history p q
    newer_parent b told q there contained =
        let many = joined_many b told in
        let size = counted b told in (
          omega (arith, within, many),
          omega (arith, there, many),
          subst (λ (ps : List ℕ). Contains ps q) (sym (parents_above b.history (nodes_on_top top) p (omega (arith, above, size))))
              (subst (λ (k : ℕ). Contains (parents_at (nodes_on_top top) (p - k)) q) (sym size) contained),
        )

    parent_of_newer : (b : Told) → says b → (q : ℕ) → IsParent (joined_with layer top b).history p q
        → Contains (parents_at (nodes_on_top top) (p - n)) q
    parent_of_newer b told q parent =
        let size = counted b told in
        subst (λ (k : ℕ). Contains (parents_at (nodes_on_top top) (p - k)) q) size
        (subst (λ (ps : List ℕ). Contains ps q)
        (parents_above b.history (nodes_on_top top) p (omega (arith, above, size))) parent.2)

    in_own_layer : (b : Told) (l : ℕ) → Lies p l → (joined_with layer top b).lists l ≡ top.words
    in_own_layer b l at = ap (joined_with layer top b).lists (at.1 above) ∙ own_list b

    module _ (fields : ParentEdge × ParentEdge)
        (are : AreFieldsOnTop top (p - n) (parents_at (nodes_on_top top) (p - n)) fields) where
      are_parents : (q : ℕ) → Contains (fields_name top.words fields) q → Contains (parents_at (nodes_on_top top) (p - n)) q
      are_parents q contained = subst (λ (ps : List ℕ). Contains ps q) are.named contained

      parents_there : (q : ℕ) → Contains (parents_at (nodes_on_top top) (p - n)) q → q < n + length top.commits
      parents_there q contained = omega (arith, are.before q contained, below, above, within)

      module _ (f : ParentEdge) (whole : IsWhole top.words f)
          (names : (q : ℕ) → Contains (field_names top.words f) q → Contains (parents_at (nodes_on_top top) (p - n)) q) where
        newer_field_within : (g : ParentEdge) → f ≡ g → IsFieldWithin (n + length top.commits) (IsListed p) g
        newer_field_within edge.None is = tt
        newer_field_within (edge.GraphPosition pos) is =
            parents_there pos.0 (names pos.0
            (subst (λ (x : ParentEdge). Contains (field_names top.words x) pos.0) (sym is) (head_contained pos.0 [])))
        newer_field_within (edge.ExtraEdgeIndex index) is = (
          (λ low. absurd (omega (arith, low, above))),
          (λ _. record {
            decoded = subst (IsWhole top.words) is whole;
            parents = λ q contained.
                names q (subst (λ (x : ParentEdge). Contains (field_names top.words x) q) (sym is) contained);
          }),
        )

        newer_field_true : (b : Told) → says b → (g : ParentEdge) → f ≡ g → IsFieldTrue (joined_with layer top b) (Lies p) p g
        newer_field_true b told edge.None is = tt
        newer_field_true b told (edge.GraphPosition pos) is =
            let parent = names pos.0
            (subst (λ (x : ParentEdge). Contains (field_names top.words x) pos.0) (sym is) (head_contained pos.0 [])) in
            newer_parent b told pos.0 (parents_there pos.0 parent) parent
        newer_field_true b told (edge.ExtraEdgeIndex index) is = λ l at q contained there.
            let named : Contains (named_from top.words index) q =
            subst (λ (ws : List ℕ). Contains (named_from ws index) q) (in_own_layer b l at) contained in
            let parent = names q (subst (λ (x : ParentEdge). Contains (field_names top.words x) q) (sym is) named) in
            newer_parent b told q (parents_there q parent) parent

        newer_field_names : (b : Told) (g : ParentEdge) (q : ℕ) → Contains (field_names top.words g) q
            → FieldNames (joined_with layer top b).lists (Lies p) g q
        newer_field_names b edge.None q contained = absurd (omega (arith, contained.1))
        newer_field_names b (edge.GraphPosition pos) q contained =
            ⊎_elim
            (λ (same : pos.0 ≡ q). same)
            (λ (none : Contains [] q). absurd (omega (arith, none.1)))
            (contained_cases pos.0 q [] contained)
        newer_field_names b (edge.ExtraEdgeIndex index) q contained = λ l at.
            subst (λ (ws : List ℕ). Contains (named_from ws index) q) (sym (in_own_layer b l at)) contained

      names_first : (q : ℕ) → Contains (field_names top.words fields.0) q → Contains (parents_at (nodes_on_top top) (p - n)) q
      names_first q contained =
          are_parents q (Contains-append_left (field_names top.words fields.0) (field_names top.words fields.1) q contained)

      names_second : (q : ℕ) → Contains (field_names top.words fields.1) q → Contains (parents_at (nodes_on_top top) (p - n)) q
      names_second q contained =
          are_parents q (Contains-append_right (field_names top.words fields.0) (field_names top.words fields.1) q contained)

      newer_told : (b : Told) → says b → AreFieldsTold (joined_with layer top b) (Lies p) p fields
      newer_told b told = record {
        first = newer_field_true fields.0 are.whole.0 names_first b told fields.0 refl;
        second = newer_field_true fields.1 are.whole.1 names_second b told fields.1 refl;
        all = λ q parent.
            let contained : Contains (fields_name top.words fields) q =
            subst (λ (ps : List ℕ). Contains ps q) (sym are.named) (parent_of_newer b told q parent) in
            ⊎_elim
            (λ (first : Contains (field_names top.words fields.0) q).
            inl (newer_field_names fields.0 are.whole.0 names_first b fields.0 q first))
            (λ (second : Contains (field_names top.words fields.1) q).
            inr (newer_field_names fields.1 are.whole.1 names_second b fields.1 q second))
            (Contains-append_cases (field_names top.words fields.0) (field_names top.words fields.1) q contained);
      }

      pub newer_fields_read : AreFieldsRead (n + length top.commits) IsListed Lies Says p fields
      newer_fields_read = record {
        first = newer_field_within fields.0 are.whole.0 names_first fields.0 refl;
        second = newer_field_within fields.1 are.whole.1 names_second fields.1 refl;
        told = λ t told.
            subst (λ (x : Told). AreFieldsTold x (Lies p) p fields) (sym told.2) (newer_told told.0 told.1);
      }

    -- a word of its list

    module _ (order : AreAfterParents top) (index : ℕ) (words_of : AreWordsOf top (p - n) index) where
      pub index_there : index < length top.words
      index_there = index_within top.words index words_of.decoded

      parent_there : (q : ℕ) → Contains (parents_at (nodes_on_top top) (p - n)) q → q < n + length top.commits
      parent_there q contained = omega (arith, order (p - n) q contained, below, above, within)

      newer_word_named : (e : ExtraEdge) → extra_edge_of (get_or top.words index 0) ≡ e
          → named_by e < n + length top.commits
      newer_word_named (extra.Internal pos) is =
          parent_there pos.0 (words_of.parents pos.0
          (subst (λ (xs : List ℕ). Contains xs pos.0) (sym (named_internal top.words index pos index_there is))
          (head_contained pos.0 (named_from top.words (index + 1)))))
      newer_word_named (extra.Last pos) is =
          parent_there pos.0 (words_of.parents pos.0
          (subst (λ (xs : List ℕ). Contains xs pos.0) (sym (named_last top.words index pos index_there is))
          (head_contained pos.0 [])))

      goes_on : (pos : Position) → extra_edge_of (get_or top.words index 0) ≡ extra.Internal pos
          → AreWordsOf top (p - n) (index + 1)
      goes_on pos is = record {
        decoded =
            sym (ap (λ (d : DecodedParents). d.fault) (listed_at top.words index (extra.Internal pos) index_there is))
            ∙ words_of.decoded;
        parents = λ q contained.
            words_of.parents q (subst (λ (xs : List ℕ). Contains xs q) (sym (named_internal top.words index pos index_there is))
            (tail_contained pos.0 q (named_from top.words (index + 1)) contained));
      }

      newer_next : (e : ExtraEdge) → extra_edge_of (get_or top.words index 0) ≡ e
          → IsNextListed (length top.words) (IsListed p) index e
      newer_next (extra.Last pos) is = tt
      newer_next (extra.Internal pos) is =
          let more = goes_on pos is in (
            index_within top.words (index + 1) more.decoded,
            ((λ low. absurd (omega (arith, low, above))), (λ _. more)),
          )

      pub newer_word_read : (words l : ℕ) → words ≡ length top.words → l ≡ layer → (word : ExtraEdge)
          → word ≡ extra_edge_of (get_or top.words index 0)
          → IsWordRead (n + length top.commits) words IsListed Says p l index word
      newer_word_read words l many here word is = record {
        commit = newer_word_named word (sym is);
        next =
            subst (λ (k : ℕ). IsNextListed k (IsListed p) index word) (sym many) (newer_next word (sym is));
        told = λ t told.
            let list : t.lists l ≡ top.words =
            ap (λ (x : Told). x.lists l) told.2 ∙ ap (joined_with layer top told.0).lists here ∙ own_list told.0 in
            record {
              there = omega (arith, index_there, ap (λ (ws : List ℕ). length ws) list);
              says = is ∙ ap (λ (ws : List ℕ). extra_edge_of (get_or ws index 0)) (sym list);
            };
      }

  -- a commit of the base

  module _ (few : AreFewEnough n (length top.commits)) (layers_below : (p l : ℕ) → lies p l → l < layer)
      (p : ℕ) (low : p < n) where
    base_list : (b : Told) → says b → (l : ℕ) → lies p l
        → (joined_with layer top b).lists l ≡ map (word_within n) (b.lists l)
    base_list b told l at =
        cond-false _ _ _ (ne_eqb l layer (λ same. absurd (omega (arith, same, layers_below p l at))))
        ∙ ap (λ (k : ℕ). map (word_within k) (b.lists l)) (counted b told)

    base_field_within : (f : ParentEdge) → IsFieldWithin n (listed_for p) f
        → IsFieldWithin (n + length top.commits) (IsListed p) f
    base_field_within edge.None within = tt
    base_field_within (edge.GraphPosition pos) within = omega (arith, within)
    base_field_within (edge.ExtraEdgeIndex index) within = ((λ _. within), (λ high. absurd (omega (arith, low, high))))

    base_parent : (b : Told) → says b → (q : ℕ) → IsParent b.history p q → IsParent (joined_with layer top b).history p q
    base_parent b told q parent =
        parent_joined b.history (nodes_on_top top) p (omega (arith, low, counted b told)) q parent

    base_field_true : (b : Told) → says b → (f : ParentEdge) → IsFieldTrue b (lies p) p f
        → IsFieldTrue (joined_with layer top b) (Lies p) p f
    base_field_true b told edge.None true_of = tt
    base_field_true b told (edge.GraphPosition pos) true_of = base_parent b told pos.0 true_of
    base_field_true b told (edge.ExtraEdgeIndex index) true_of = λ l at q contained there.
        let lies_in : lies p l = at.0 low in
        let named : Contains (named_from (map (word_within n) (b.lists l)) index) q =
        subst (λ (ws : List ℕ). Contains (named_from ws index) q) (base_list b told l lies_in) contained in
        let found = named_from_cut n (length top.commits) few (b.lists l) index q named
        (omega (arith, there, joined_many b told)) in
        base_parent b told q (true_of l lies_in q found.0 (omega (arith, found.1, counted b told)))

    base_field_names : (b : Told) → says b → (f : ParentEdge) (q : ℕ) → q < n → FieldNames b.lists (lies p) f q
        → FieldNames (joined_with layer top b).lists (Lies p) f q
    base_field_names b told edge.None q there names = names
    base_field_names b told (edge.GraphPosition pos) q there names = names
    base_field_names b told (edge.ExtraEdgeIndex index) q there names = λ l at.
        let lies_in : lies p l = at.0 low in
        subst (λ (ws : List ℕ). Contains (named_from ws index) q) (sym (base_list b told l lies_in))
        (named_in_cut n (length top.commits) few (b.lists l) index q (names l lies_in) there)

    pub base_fields_read : (fields : ParentEdge × ParentEdge) → AreFieldsRead n listed_for lies says p fields
        → AreFieldsRead (n + length top.commits) IsListed Lies Says p fields
    base_fields_read fields read = record {
      first = base_field_within fields.0 read.first;
      second = base_field_within fields.1 read.second;
      told = λ t told.
          let b = told.0 in
          let of_base = read.told b told.1 in
          subst (λ (x : Told). AreFieldsTold x (Lies p) p fields) (sym told.2) (record {
            first = base_field_true b told.1 fields.0 of_base.first;
            second = base_field_true b told.1 fields.1 of_base.second;
            all = λ q parent.
                let own = parent_below b.history (nodes_on_top top) p (omega (arith, low, counted b told.1)) q parent in
                let there : q < n = omega (arith, own.1, counted b told.1) in
                ⊎_elim
                (λ (first : FieldNames b.lists (lies p) fields.0 q). inl (base_field_names b told.1 fields.0 q there first))
                (λ (second : FieldNames b.lists (lies p) fields.1 q). inr (base_field_names b told.1 fields.1 q there second))
                (of_base.all q own);
          });
    }

    base_next : (words index : ℕ) (e : ExtraEdge) → IsNextListed words (listed_for p) index e
        → IsNextListed words (IsListed p) index e
    base_next words index (extra.Last pos) next = tt
    base_next words index (extra.Internal pos) next = (next.0, ((λ _. next.1), (λ high. absurd (omega (arith, low, high)))))

    pub base_word_read : (words all_words l index : ℕ) (word : ExtraEdge) → lies p l → all_words ≡ words
        → IsWordRead n words listed_for says p l index word
        → IsWordRead (n + length top.commits) all_words IsListed Says p l index word
    base_word_read words all_words l index word at many read = record {
      commit = omega (arith, read.commit);
      next = subst (λ (k : ℕ). IsNextListed k (IsListed p) index word) (sym many) (base_next words index word read.next);
      told = λ t told.
          let b = told.0 in
          let of_base = read.told b told.1 in
          let list : t.lists l ≡ map (word_within n) (b.lists l) =
          ap (λ (x : Told). x.lists l) told.2 ∙ base_list b told.1 l at in
          let here : named_by (extra_edge_of (get_or (b.lists l) index 0)) < n =
          subst (λ (e : ExtraEdge). named_by e < n) of_base.says read.commit in
          let cut : get_or (map (word_within n) (b.lists l)) index 0 ≡ get_or (b.lists l) index 0 =
          get_or_mapped (word_within n) (b.lists l) index 0 0 of_base.there
          ∙ word_kept n (length top.commits) few (get_or (b.lists l) index 0) here in
          record {
            there = omega (arith, of_base.there, ap (λ (ws : List ℕ). length ws) list, length-map (b.lists l) (word_within n));
            says = of_base.says ∙ ap extra_edge_of (sym cut ∙ ap (λ (ws : List ℕ). get_or ws index 0) (sym list));
          };
    }

    -- the same, where what is said names the layer otherwise
    abbrev SaysAs : ℕ → Told → Type 0
    SaysAs own t = (b : Told) × says b × (t ≡ joined_with own top b)

    pub base_fields_told : (own : ℕ) → own ≡ layer → (fields : ParentEdge × ParentEdge)
        → AreFieldsRead n listed_for lies says p fields
        → AreFieldsRead (n + length top.commits) IsListed Lies (SaysAs own) p fields
    base_fields_told own same fields read =
        subst (λ (k : ℕ). AreFieldsRead (n + length top.commits) IsListed Lies (SaysAs k) p fields) (sym same)
        (base_fields_read fields read)

    pub base_word_told : (own : ℕ) → own ≡ layer → (words all_words l index : ℕ) (word : ExtraEdge) → lies p l
        → all_words ≡ words → IsWordRead n words listed_for says p l index word
        → IsWordRead (n + length top.commits) all_words IsListed (SaysAs own) p l index word
    base_word_told own same words all_words l index word at many read =
        subst (λ (k : ℕ). IsWordRead (n + length top.commits) all_words IsListed (SaysAs k) p l index word) (sym same)
        (base_word_read words all_words l index word at many read)

    pub base_words : (words own : ℕ) (l : ℕ) → lies p l → cond (l == layer) own words ≡ words
    base_words words own l at = cond-false _ _ _ (ne_eqb l layer (λ same. absurd (omega (arith, same, layers_below p l at))))
