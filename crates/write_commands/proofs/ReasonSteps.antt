-- Why the commits of a right graph make no file of one layer.
use Rattle.std.proofs.Common.{◌≡◌, ◌==◌, ◌&&◌, ℕ, ◌+◌, ◌^◌, ◌<◌, ◌≤◌, Bool, true, false, not, List, [], ◌∷◌, All}
use Rattle.std.proofs.Common.{zero, suc, Option, Some, None, option_map, length, take, slice_get, get_or}
use Rattle.std.proofs.Common.{refl, sym, ⊎_elim}
use Rattle.std.proofs.Common.{ap, subst, ◌∙◌, inl, inr, arith, eq-eqb}
use Rattle.std.specs.Prelude.{nat_le, nat_lt, is_none}
use Rattle.std.specs.List.{list_all, sum_by}
use Rattle.std.specs.Option.{option_and_then, option_map_or, option_or}
use Rattle.std.proofs.lemmas.Bool.{cases_lt, eqb-true, false_from_ne_true, lt-leb, le-ltb}
use Rattle.std.proofs.lemmas.List.Elements.{All-nil, All-cons, All-head, All-tail}
use Rattle.std.proofs.lemmas.List.{length-map}
use Rattle.std.proofs.lemmas.List.Sums.{sum_by-cons}
use Rattle.std.proofs.lemmas.Option.{same_Some, slice_get_within, slice_get-get_or, get_or_from_slice_get}
use Rattle.gix_chunk_core.specs.FirstFault.{◌when◌, ◌otherwise◌, first_below}
use Rattle.gix_chunk_core.proofs.FirstFaultLemmas.{first_below-none, first_below-none_from, first_below-none_at}
use Rattle.gix_chunk_core.proofs.FirstFaultLemmas.{first_below-least, option_or-none, otherwise-none}
use Rattle.gix_hash_core.specs.Kind.{id_len}
use Rattle.gix_hash_core.specs.declared.kind.Kind.{Kind}
use Rattle.gix_hash_core.specs.declared.kind.Kind.TheVariants.{Sha1}
use Rattle.graph_walks.specs.History.{IsParent, Node, parent_numbers, parents_at}
use Rattle.graph_walks.specs.Walks.{IsProperAncestor, IsWalk}
use Rattle.graph_format.specs.Faults.{is_null}
use Rattle.graph_format.specs.Layer.{Layer}
use Rattle.graph_format.specs.Lookup.{scan}
use Rattle.graph_format.specs.RightLayer.{IsNull}
use Rattle.graph_format.specs.StoredHistory.{history_of}
use Rattle.graph_format.specs.declared.TheConstants.{MAX_COMMITS}
use Rattle.gix_commitgraph.specs.Graph.{IsGraph, graph_ids, total}
use Rattle.gix_commitgraph.specs.Sound.{Sound}
use Rattle.gix_commitgraph.proofs.history.HistoryLemmas.{length-history}
use Rattle.gix_commitgraph.proofs.layers.GraphLemmas.{counted}
use Rattle.gix_commitgraph.proofs.layers.LayerListLemmas.{kind-first}
use Rattle.gix_commitgraph.proofs.lookup.ElementLemmas.{some-place}
use Rattle.graph_chunks.specs.GraphDates.{graph_dates_refusal, reading_fault, wrong_date}
use Rattle.graph_chunks.specs.GraphStoredDates.{dates_of, times_of}
use Rattle.graph_writer.specs.Cycles.{IsNewWalk, IsOwnAncestor, NamesCommit}
use Rattle.graph_writer.specs.NewCommits.{new_ids, HoldIds}
use Rattle.graph_writer.specs.WriteRefusal.{is_of_kind, has_ids_of_kind, own_refusal, own_refusal_at, twice_at, below_at}
use Rattle.graph_writer.specs.WriteRefusal.{parent_at, is_unknown, kind_of_id, kind_to_write, new_layer_refusal, plain_refusal}
use Rattle.graph_writer.specs.WritingRefusal.{MayRefuseLater, MayRefuseWriting, word_count, words_for}
use Rattle.graph_writer.specs.declared.commit.NewCommit.{NewCommit}
use Rattle.graph_writer.specs.declared.commit.WriteError.{WriteError}
use Rattle.graph_writer.specs.declared.commit.WriteError.TheVariants as error
use Rattle.graph_writer.proofs.positions.KnownSteps.{parent-from, position-none}
use Rattle.graph_writer.proofs.positions.NewIdSteps.{id-at, scan-holds, scan-misses, twice-from}
use Rattle.graph_writer.proofs.positions.NumberSteps.{get-take, within-take}
use Rattle.graph_writer.proofs.positions.NullSteps.{is_null-decides}
use Rattle.graph_writer.proofs.layers.RefusalSteps.{kind_of_first, none_below, plain-some}
use Rattle.write_commands.specs.GraphCommits.{AreCommitsOf}
use Rattle.write_commands.specs.MergedCommits.{MayRefuseCommitsOf}
use Rattle.write_commands.specs.MergeReasons.{IsReasonNotToMerge, StandsTwice, words_of_all}
use Rattle.write_commands.proofs.PlainSteps.{IsPlain, plain-at, size-at}

-- what nothing refuses by itself
none-of : (i : ℕ) (of_kind null no_tree late : Bool) → of_kind ≡ true → null ≡ false → no_tree ≡ false → late ≡ false
    → (error.Kind i when not of_kind
    otherwise error.NullId i when null
    otherwise error.NullTree i when no_tree
    otherwise error.Time i when late)
    ≡ None
none-of i true false false false a b c d = refl
none-of i false null no_tree late a b c d = cc
none-of i true true no_tree late a b c d = cc
none-of i true false true late a b c d = cc
none-of i true false false true a b c d = cc

not-null : (id : List ℕ) → ¬ IsNull id → is_null id ≡ false
not-null id there = false_from_ne_true (is_null id) (λ null. there ((is_null-decides id).0 null))

of-kind : (kind : Kind) (ids : List (List ℕ)) → All (λ id. length id ≡ id_len kind) ids → list_all (is_of_kind kind) ids ≡ true
of-kind kind [] all = refl
of-kind kind (id ∷ ids) all =
    let P : List ℕ → Type 0 = λ x. length x ≡ id_len kind in
    ap (λ (b : Bool). b && list_all (is_of_kind kind) ids) (eq-eqb (length id) (id_len kind) (All-head P id ids all))
    ∙ of-kind kind ids (All-tail P id ids all)

all-three : (a b c : Bool) → a ≡ true → b ≡ true → c ≡ true → (a && b && c) ≡ true
all-three a b c x y z =
    ap (λ (v : Bool). v && b && c) x ∙ ap (λ (v : Bool). true && v && c) y ∙ ap (λ (v : Bool). true && true && v) z

own-none : (kind : Kind) (i : ℕ) (commit : NewCommit) → IsPlain kind commit
    → All (λ id. length id ≡ id_len kind) commit.parents.items → own_refusal kind i commit ≡ None
own-none kind i commit plain parents =
    none-of i (has_ids_of_kind kind commit) (is_null commit.id) (is_null commit.tree) (nat_le (2 ^ 34) commit.time)
    (all-three (is_of_kind kind commit.id) (is_of_kind kind commit.tree) (list_all (is_of_kind kind) commit.parents.items)
    (eq-eqb (length commit.id) (id_len kind) plain.id_size)
    (eq-eqb (length commit.tree) (id_len kind) plain.tree_size) (of-kind kind commit.parents.items parents))
    (not-null commit.id plain.id_there) (not-null commit.tree plain.tree_there) (lt-leb (2 ^ 34) commit.time plain.time)

-- each of the ids stands somewhere
held : (all : List (List ℕ)) (positions : List ℕ) (ids : List (List ℕ)) → HoldIds all positions ids
    → All (λ id. (q : ℕ) × (slice_get all q ≡ Some id)) ids
held all [] [] h = All-nil (λ id. (q : ℕ) × (slice_get all q ≡ Some id))
held all [] (id ∷ ids) h = absurd (cc)
held all (p ∷ positions) [] h = absurd (cc)
held all (p ∷ positions) (id ∷ ids) h =
    All-cons (λ (x : List ℕ). (q : ℕ) × (slice_get all q ≡ Some x)) id ids (p, cc) (held all positions ids cc)

-- the position at which one of them stands
held-at : (all : List (List ℕ)) (positions : List ℕ) (ids : List (List ℕ)) (k : ℕ) (id : List ℕ) → HoldIds all positions ids
    → slice_get ids k ≡ Some id → (q : ℕ) × (slice_get positions k ≡ Some q) × (slice_get all q ≡ Some id)
held-at all positions [] k id h at = absurd (omega (arith, slice_get_within [] k id at))
held-at all [] (x ∷ ids) k id h at = absurd (cc)
held-at all (p ∷ positions) (x ∷ ids) zero id h at = (p, refl, cc)
held-at all (p ∷ positions) (x ∷ ids) (suc k) id h at = held-at all positions ids k id (cc) at

-- as many ids as positions that they stand at
as-many-ids : (all : List (List ℕ)) (positions : List ℕ) (ids : List (List ℕ)) → HoldIds all positions ids
    → length ids ≡ length positions
as-many-ids all positions ids h =
    sym (length-map ids (λ (id : List ℕ). Some id)) ∙ ap length (sym h) ∙ length-map positions (slice_get all)

-- commits with as many parents each as those of a history have as many words
same-words : (commits : List NewCommit) (history : List Node) → length commits ≡ length history
    → ((p : ℕ) (commit : NewCommit) → slice_get commits p ≡ Some commit
    → length commit.parents.items ≡ length (parents_at history p))
    → word_count commits ≡ sum_by words_for (parent_numbers history)
same-words [] [] as_many each = refl
same-words [] (node ∷ history) as_many each = absurd (omega (arith, as_many))
same-words (commit ∷ commits) [] as_many each = absurd (omega (arith, as_many))
same-words (commit ∷ commits) (node ∷ history) as_many each =
    sum_by-cons (λ (c : NewCommit). words_for (length c.parents.items)) commit commits
    ∙ ap (λ (n : ℕ). words_for n + word_count commits) (each 0 commit refl)
    ∙ ap (λ (n : ℕ). words_for (length node.parents) + n)
    (same-words commits history (omega (arith, as_many))
    (λ (p : ℕ) (c : NewCommit) (at : slice_get commits p ≡ Some c). each (suc p) c at))
    ∙ sym (sum_by-cons words_for (length node.parents) (parent_numbers history))

-- no dates are refused of no layers
no-dates : graph_dates_refusal [] ≡ None
unfolding graph_dates_refusal
no-dates =
    option_or-none _ _ (first_below-none (reading_fault []))
    (first_below-none (wrong_date (history_of []) (times_of []) (dates_of [])))

-- an id that a commit has is known
known : (commits : List NewCommit) (id : List ℕ) (q : ℕ) → slice_get (new_ids commits) q ≡ Some id
    → is_unknown (graph_ids []) commits id ≡ false
known commits id q here = by-cases (scan (new_ids commits) id) refl where
  by-cases : (o : Option ℕ) → scan (new_ids commits) id ≡ o → is_unknown (graph_ids []) commits id ≡ false
  by-cases None is = absurd (scan-misses (new_ids commits) id q is here)
  by-cases (Some p) is = ap (λ (o : Option ℕ). is_none o && is_none (scan (graph_ids []) id)) is

or-none : {E : Type 0} (a b r : Option E) → a ≡ None → (a otherwise b) ≡ r → b ≡ r
or-none a b r none is = ap (λ (o : Option _). option_or o b) (sym none) ∙ is

-- an error of an id that stands twice
twice-is : (commits : List NewCommit) (i : ℕ) (fault : WriteError) → twice_at commits i ≡ Some fault
    → (j : ℕ) × (id : List ℕ) × (fault ≡ error.Twice i j) × (slice_get (new_ids commits) i ≡ Some id)
    × (scan (take i (new_ids commits)) id ≡ Some j)
twice-is commits i fault h = by-id (slice_get (new_ids commits) i) refl h where
  by-place : (id : List ℕ) (o : Option ℕ) → slice_get (new_ids commits) i ≡ Some id → scan (take i (new_ids commits)) id ≡ o
      → option_map (error.Twice i) o ≡ Some fault
      → (j : ℕ) × (id : List ℕ) × (fault ≡ error.Twice i j) × (slice_get (new_ids commits) i ≡ Some id)
      × (scan (take i (new_ids commits)) id ≡ Some j)
  by-place id None at is gives = absurd (let none : None ≡ Some fault = gives in cc)
  by-place id (Some j) at is gives = (j, id, sym (same_Some (error.Twice i j) fault gives), at, is)

  by-id : (o : Option (List ℕ)) → slice_get (new_ids commits) i ≡ o
      → option_and_then (λ id. option_map (error.Twice i) (scan (take i (new_ids commits)) id)) o ≡ Some fault
      → (j : ℕ) × (id : List ℕ) × (fault ≡ error.Twice i j) × (slice_get (new_ids commits) i ≡ Some id)
      × (scan (take i (new_ids commits)) id ≡ Some j)
  by-id None at gives = absurd (let none : None ≡ Some fault = gives in cc)
  by-id (Some id) at gives = by-place id (scan (take i (new_ids commits)) id) at refl gives

module _ (layers : List Layer) (graph : IsGraph layers) (sound : Sound layers) (commits : List NewCommit)
    (are : AreCommitsOf layers commits) where
  abbrev kind : Kind
  kind = (some-place layers 0 graph.makes.some).0.kind

  alike : All (λ layer. layer.kind ≡ kind) layers
  alike k d within =
      let first = some-place layers 0 graph.makes.some in
      kind-first layers first.0 d k graph (sym (get_or_from_slice_get layers 0 first.0 first.0 first.1)) within

  commit-there : (p : ℕ) (commit : NewCommit) → slice_get commits p ≡ Some commit → p < total layers
  commit-there p commit at = omega (arith, slice_get_within commits p commit at, are.as_many)

  id-there : (q : ℕ) (id : List ℕ) → slice_get (graph_ids layers) q ≡ Some id → slice_get (new_ids commits) q ≡ Some id
  id-there q id at =
      let place =
      some-place commits q (omega (arith, slice_get_within (graph_ids layers) q id at, (counted layers).ids, are.as_many)) in
      id-at commits q place.0 place.1 ∙ sym (are.each q place.0 place.1).id ∙ at

  id-of-graph : (q : ℕ) (id : List ℕ) → slice_get (new_ids commits) q ≡ Some id → slice_get (graph_ids layers) q ≡ Some id
  id-of-graph q id at =
      let place =
      some-place commits q
      (omega (arith, slice_get_within (new_ids commits) q id at, length-map commits (λ (c : NewCommit). c.id))) in
      (are.each q place.0 place.1).id ∙ sym (id-at commits q place.0 place.1) ∙ at

  parents-there : (p : ℕ) (commit : NewCommit) → slice_get commits p ≡ Some commit
      → All (λ id. (q : ℕ) × (slice_get (graph_ids layers) q ≡ Some id)) commit.parents.items
  parents-there p commit at =
      held (graph_ids layers) (parents_at (history_of layers) p) commit.parents.items (are.each p commit at).parents

  plain : (p : ℕ) (commit : NewCommit) → slice_get commits p ≡ Some commit → IsPlain kind commit
  plain p commit at =
      plain-at layers kind graph.opened alike sound.rules.each p commit (commit-there p commit at) (are.each p commit at)

  own-fault : (i : ℕ) → i < length commits → own_refusal_at (kind_to_write [] commits) commits i ≡ None
  own-fault i within =
      let at = some-place commits i within in
      let first = some-place commits 0 (omega arith) in
      let same : kind_to_write [] commits ≡ kind =
      ap (λ (o : Option NewCommit). option_map_or (λ (c : NewCommit). kind_of_id c.id) o Sha1) first.1
      ∙ sym (kind_of_first kind first.0.id (plain 0 first.0 first.1).id_size) in
      let sizes : All (λ id. length id ≡ id_len kind) at.0.parents.items =
      λ k d lt.
      let there = parents-there i at.0 at.1 k d lt in
      size-at layers kind graph.opened alike sound.rules.each there.0 (get_or at.0.parents.items k d) there.1 in
      ap (λ (k : Kind). own_refusal_at k commits i) same
      ∙ ap (option_and_then (own_refusal kind i)) at.1
      ∙ own-none kind i at.0 (plain i at.0 at.1) sizes

  parent-fault : (i : ℕ) → i < length commits → parent_at (graph_ids []) commits i ≡ None
  parent-fault i within =
      let at = some-place commits i within in
      parent-from (graph_ids []) commits i at.0 None at.1
      (position-none (is_unknown (graph_ids []) commits) at.0.parents.items []
      (λ k lt.
      let there = parents-there i at.0 at.1 k [] lt in
      known commits (get_or at.0.parents.items k []) there.0 (id-there there.0 (get_or at.0.parents.items k []) there.1)))

  -- an id that stands twice, or no commits at all
  twice : (fault : WriteError) → first_below (twice_at commits) (length commits) ≡ Some fault → IsReasonNotToMerge layers fault
  twice fault is =
      let found = first_below-least (twice_at commits) (length commits) fault is in
      let i = found.0 in
      let says = twice-is commits i fault found.1.gives in
      let j = says.0 in
      let earlier = within-take (new_ids commits) i j says.1 (scan-holds (take i (new_ids commits)) says.1 j says.4) in
      let reason : StandsTwice layers i j = record {
        before = earlier.0;
        id = says.1;
        here = id-of-graph i says.1 says.3;
        there = id-of-graph j says.1 earlier.1;
      } in
      subst (IsReasonNotToMerge layers) (sym says.2) reason

  nothing : (empty : Bool) (fault : WriteError) → (length commits == 0) ≡ empty → (error.Nothing when empty) ≡ Some fault
      → IsReasonNotToMerge layers fault
  nothing false fault is gives = absurd (let none : None ≡ Some fault = gives in cc)
  nothing true fault is gives =
      let empty : total layers ≡ 0 = omega (arith, eqb-true (length commits) 0 is, are.as_many) in
      subst (IsReasonNotToMerge layers) (same_Some error.Nothing fault gives) empty

  later : (first : Option WriteError) (fault : WriteError) → first_below (twice_at commits) (length commits) ≡ first
      → (first otherwise
      (first_below (below_at (graph_ids []) commits) (length commits)
      otherwise error.TooManyCommits when nat_lt MAX_COMMITS (total [] + length commits)
      otherwise first_below (parent_at (graph_ids []) commits) (length commits)
      otherwise error.Nothing when length commits == 0))
      ≡ Some fault
      → IsReasonNotToMerge layers fault
  later (Some found) fault is gives = twice fault (is ∙ gives)
  later None fault is gives =
      let few : nat_lt MAX_COMMITS (total [] + length commits) ≡ false =
      le-ltb MAX_COMMITS (total [] + length commits) (omega (arith, graph.makes.few, are.as_many)) in
      nothing (length commits == 0) fault refl
      (or-none _ _ _ (first_below-none_from (parent_at (graph_ids []) commits) (length commits) parent-fault)
      (or-none _ _ _ (ap (λ (b : Bool). error.TooManyCommits when b) few)
      (or-none _ _ _ (none_below commits (length commits)) gives)))

  pub reason-of-new : (fault : WriteError) → new_layer_refusal [] commits ≡ Some fault → IsReasonNotToMerge layers fault
  unfolding new_layer_refusal
  reason-of-new fault is =
      later (first_below (twice_at commits) (length commits)) fault refl
      (or-none _ _ _
      (first_below-none_from (own_refusal_at (kind_to_write [] commits) commits) (length commits) own-fault) is)

  -- where no commit is refused as new, each id stands once
  module _ (none : new_layer_refusal [] commits ≡ None) where
    none-twice : (i : ℕ) → i < length commits → twice_at commits i ≡ None
    unfolding new_layer_refusal
    none-twice i within =
        first_below-none_at (twice_at commits) i (length commits) (otherwise-none _ _ (otherwise-none _ _ none).1).0 within

    never : (p q : ℕ) (id : List ℕ) → p < q → slice_get (new_ids commits) p ≡ Some id → slice_get (new_ids commits) q ≡ Some id
        → ⊥
    never p q id before at_p at_q = by-cases (scan (take q (new_ids commits)) id) refl where
      by-cases : (o : Option ℕ) → scan (take q (new_ids commits)) id ≡ o → ⊥
      by-cases None is = scan-misses (take q (new_ids commits)) id p is (get-take (new_ids commits) q p before ∙ at_p)
      by-cases (Some j) is =
          let within : q < length commits =
          omega (arith, slice_get_within (new_ids commits) q id at_q, length-map commits (λ (c : NewCommit). c.id)) in
          let found : Some (error.Twice q j) ≡ None = sym (twice-from commits q id (Some j) at_q is) ∙ none-twice q within in
          cc

    once : (p q : ℕ) (id : List ℕ) → slice_get (new_ids commits) p ≡ Some id → slice_get (new_ids commits) q ≡ Some id → p ≡ q
    once p q id at_p at_q =
        ⊎_elim
        (λ (before : p < q). absurd (never p q id before at_p at_q))
        (λ (not_before : q ≤ p).
        ⊎_elim
        (λ (after : q < p). absurd (never q p id after at_q at_p))
        (λ (not_after : p ≤ q). omega arith)
        (cases_lt q p))
        (cases_lt p q)

    -- a commit that another names is its parent
    parent-of : (i j : ℕ) → NamesCommit commits i j → IsParent (history_of layers) i j
    parent-of i j names =
        let k : ℕ = names.named.0 in
        let id : slice_get names.child.parents.items k ≡ Some names.parent.id =
        slice_get-get_or names.child.parents.items k names.parent.id names.named.1
        ∙ ap (λ (x : List ℕ). Some x) names.named.2 in
        let parents = parents_at (history_of layers) i in
        let found =
        held-at (graph_ids layers) parents names.child.parents.items k names.parent.id
        (are.each i names.child names.at_child).parents id in
        let same : found.0 ≡ j =
        once found.0 j names.parent.id (id-there found.0 names.parent.id found.2)
        (id-at commits j names.parent names.at_parent) in
        let size = length-history layers graph.opened in (
          omega (arith, commit-there i names.child names.at_child, size),
          omega (arith, commit-there j names.parent names.at_parent, size),
          (k, slice_get_within parents k found.0 found.1, get_or_from_slice_get parents k found.0 j found.1 ∙ same),
        )

    walk-of : (walk : List ℕ) → IsNewWalk commits walk → IsWalk (history_of layers) walk
    walk-of [] w = absurd w
    walk-of (i ∷ []) w = omega (arith, w, are.as_many, length-history layers graph.opened)
    walk-of (i ∷ j ∷ rest) w = (parent-of i j w.0, walk-of (j ∷ rest) w.1)

    cycle : (i : ℕ) → IsOwnAncestor commits i → IsProperAncestor (history_of layers) i i
    cycle i own = (
      own.walk,
      record {
        is_walk = walk-of own.walk own.is_walk;
        first = own.first;
        last = own.last;
      },
      own.long,
    )

    words-of-all : word_count commits ≡ words_of_all layers
    words-of-all =
        same-words commits (history_of layers) (are.as_many ∙ sym (length-history layers graph.opened))
        (λ (p : ℕ) (commit : NewCommit) (at : slice_get commits p ≡ Some commit).
        as-many-ids (graph_ids layers) (parents_at (history_of layers) p) commit.parents.items (are.each p commit at).parents)

    later-reason : (fault : WriteError) → MayRefuseLater [] commits fault → IsReasonNotToMerge layers fault
    later-reason (error.Kind i) h = absurd h
    later-reason (error.NullId i) h = absurd h
    later-reason (error.NullTree i) h = absurd h
    later-reason (error.Time i) h = absurd h
    later-reason (error.Twice i j) h = absurd h
    later-reason (error.Below i p) h = absurd h
    later-reason error.TooManyCommits h = absurd h
    later-reason (error.Parent i k) h = absurd h
    later-reason error.Nothing h = absurd h
    later-reason (error.Dates fault) h = absurd (let refused : None ≡ Some fault = sym no-dates ∙ h.1 in cc)
    later-reason (error.Cycle i) h = cycle i h.1
    later-reason error.TooManyLayers h = absurd (omega (arith, h.2))
    later-reason error.TooManyEdges h = omega (arith, h.2, words-of-all)
    later-reason error.OutOfMemory h = absurd h

  memory-reason : (fault : WriteError) → fault ≡ error.OutOfMemory → 0 < total layers → IsReasonNotToMerge layers fault
  memory-reason fault is some = subst (IsReasonNotToMerge layers) (sym is) some

  some-commits : plain_refusal [] commits ≡ None → 0 < total layers
  some-commits none =
      ⊎_elim
      (λ (some : 0 < length commits). omega (arith, are.as_many))
      (λ (empty : length commits ≤ 0).
      let is : (length commits == 0) ≡ true = eq-eqb (length commits) 0 (omega arith) in
      absurd (let other : true ≡ false = sym is ∙ plain-some [] commits none in cc))
      (cases_lt 0 (length commits))

  reason-of : (fault : WriteError) → MayRefuseWriting [] commits fault → IsReasonNotToMerge layers fault
  reason-of fault h =
      elim h [
        | inl new ↦
            elim new [
              | inl is ↦ reason-of-new fault is
              | inr memory ↦ memory-reason fault memory.0 (some-commits memory.1)
            ]
        | inr other ↦ later-reason other.0 fault other.1
      ]

pub reasons : (layers : List Layer) (fault : WriteError) → IsGraph layers → Sound layers → MayRefuseCommitsOf layers fault
    → IsReasonNotToMerge layers fault
reasons layers fault graph sound h =
    elim h [
      | inl refused ↦ reason-of layers graph sound refused.0 refused.1 fault refused.2
      | inr memory ↦ subst (IsReasonNotToMerge layers) (sym memory.0) memory.1
    ]
