-- A cycle among the positions of new commits is one among the commits, by the ids that they name, and the other way round.
use Rattle.std.proofs.Common.{◌≡◌, ℕ, zero, suc, ◌+◌, ◌-◌, ◌<◌, ◌≤◌, List, [], ◌∷◌, ◌++◌, map, length, Contains, slice_get}
use Rattle.std.proofs.Common.{get_or, Option, Some, None, option_map, refl, sym, ap, ◌∙◌, subst, ⊎_elim, arith}
use Rattle.std.specs.List.{range_with_len}
use Rattle.std.specs.Option.{option_map_or}
use Rattle.std.proofs.Math.ListN.{replicate}
use Rattle.std.proofs.lemmas.Bool.{cases_lt}
use Rattle.std.proofs.lemmas.List.{length-map, length-append, length-replicate}
use Rattle.std.proofs.lemmas.List.FromFn.{length-map-range_with_len}
use Rattle.std.proofs.lemmas.Option.{slice_get_within, slice_get-map, slice_get-get_or, get_or_from_slice_get}
use Rattle.graph_walks.specs.History.{Node, parents_at}
use Rattle.graph_walks.specs.Walks.{IsProperAncestor}
use Rattle.graph_walks.proofs.WalkPathLemmas.{Path, path_from_between}
use Rattle.graph_format.specs.Layer.{Layer}
use Rattle.graph_format.proofs.PieceLemmas.{get-map-range}
use Rattle.gix_commitgraph.specs.Graph.{graph_ids, total}
use Rattle.gix_commitgraph.proofs.layers.GraphLemmas.{counted}
use Rattle.gix_commitgraph.proofs.lookup.ElementLemmas.{some-place, all-at}
use Rattle.graph_levels.specs.OnTop.{HasOnTop}
use Rattle.graph_levels.specs.ParentLists.{commit_count, parent_list}
use Rattle.graph_writer.specs.Cycles.{NamesCommit, IsNewWalk, IsOwnAncestor}
use Rattle.graph_writer.specs.NewCommits.{new_ids, HoldIds}
use Rattle.graph_writer.specs.NewLayers.{IsNewLayer, ids_in_order}
use Rattle.graph_writer.specs.declared.commit.NewCommit.{NewCommit}
use Rattle.graph_writer.specs.declared.new_layer.NewLayer.{NewLayer}
use Rattle.graph_writer.proofs.positions.FirstSteps.{first-hold}
use Rattle.graph_writer.proofs.positions.KnownSteps.{get-back}

abbrev root : Node
root = record { generation = 0; parents = [] }

pub root-parents : (n : ℕ) (rest : List Node) (p : ℕ) → p < n → parents_at (replicate n root ++ rest) p ≡ []
root-parents zero rest p lt = absurd (omega arith)
root-parents (suc n) rest zero lt = refl
root-parents (suc n) rest (suc p) lt = root-parents n rest p (omega arith)

module _ (layers : List Layer) (commits : List NewCommit) (new : NewLayer) (is_new : IsNewLayer layers commits new) where
  abbrev pub base : ℕ
  base = total layers

  abbrev node : ℕ → Node
  node p = record { generation = 0; parents = parent_list new.parents p }

  -- a history of roots, with the new commits on top
  abbrev above : List Node
  above = map node (range_with_len 0 (commit_count new.parents))

  abbrev pub plain : List Node
  plain = replicate base root ++ above

  size-below : length (replicate base root) ≡ base
  size-below = length-replicate base root

  node-at : (p : ℕ) → p < length commits → slice_get plain (base + p) ≡ Some (node p)
  node-at p lt =
      ap (λ (n : ℕ). slice_get plain (n + p)) (sym size-below)
      ∙ get-back (replicate base root) above p
      ∙ get-map-range node 0 (commit_count new.parents) p (omega (arith, is_new.listed))
      ∙ ap (λ (n : ℕ). Some (node n)) (omega arith)

  pub parents-of-new : (p : ℕ) → p < length commits → parents_at plain (base + p) ≡ parent_list new.parents p
  parents-of-new p lt = ap (λ (o : Option Node). option_map_or (λ (n : Node). n.parents) o []) (node-at p lt)

  pub size-plain : length plain ≡ base + length commits
  size-plain =
      omega (
        arith,
        length-append (replicate base root) above,
        size-below,
        length-map-range_with_len node 0 (commit_count new.parents),
        is_new.listed,
      )

  pub plain-on-top : HasOnTop plain base new.parents
  plain-on-top = record {
    as_many = omega (arith, size-plain, is_new.listed);
    own = λ i lt. parents-of-new i (omega (arith, is_new.listed));
  }

  -- the number of the commit at a position
  abbrev number : ℕ → ℕ
  number q = get_or new.order.items (q - base) 0

  -- that commit, which the layer has there
  commit-at : (p : ℕ) → p < length commits → (i : ℕ) × (commit : NewCommit) × (slice_get new.order.items p ≡ Some i)
      × (slice_get commits i ≡ Some commit)
      × (slice_get (ids_in_order commits new.order.items) p ≡ Some commit.id)
  commit-at p lt =
      let at = some-place new.order.items p (omega (arith, is_new.as_many)) in
      let here = some-place commits at.0 (all-at (λ i. i < length commits) new.order.items p at.0 is_new.each at.1) in
      let id : get_or (new_ids commits) at.0 [] ≡ here.0.id =
      get_or_from_slice_get (new_ids commits) at.0 here.0.id []
      (slice_get-map (λ (c : NewCommit). c.id) commits at.0 ∙ ap (option_map (λ (c : NewCommit). c.id)) here.1) in (
        at.0,
        here.0,
        at.1,
        here.1,
        slice_get-map (λ (i : ℕ). get_or (new_ids commits) i []) new.order.items p
            ∙ ap (option_map (λ (i : ℕ). get_or (new_ids commits) i [])) at.1
            ∙ ap (λ (x : List ℕ). Some x) id,
      )

  pub id-at-position : (q : ℕ) → base ≤ q → slice_get (graph_ids layers ++ ids_in_order commits new.order.items) q
      ≡ slice_get (ids_in_order commits new.order.items) (q - base)
  id-at-position q le =
      let sum : length (graph_ids layers) + (q - base) ≡ q = omega (arith, (counted layers).ids) in
      ap (slice_get (graph_ids layers ++ ids_in_order commits new.order.items)) (sym sum)
      ∙ get-back (graph_ids layers) (ids_in_order commits new.order.items) (q - base)

  -- a parent by its position is named by its id
  names : (p q : ℕ) → p < length commits → base ≤ q → q < base + length commits → Contains (parent_list new.parents p) q
      → NamesCommit commits (number (base + p)) (number q)
  names p q lt le within (k, inside, at) =
      let child = commit-at p lt in
      let parent = commit-at (q - base) (omega arith) in
      let holds : HoldIds (graph_ids layers ++ ids_in_order commits new.order.items) (parent_list new.parents p)
      child.1.parents.items = first-hold _ _ _ (is_new.parents p child.0 child.1 child.2 child.3) in
      let all = graph_ids layers ++ ids_in_order commits new.order.items in
      let position : slice_get (parent_list new.parents p) k ≡ Some q =
      slice_get-get_or (parent_list new.parents p) k q inside ∙ ap (λ (n : ℕ). Some n) at in
      let told : slice_get (map (slice_get all) (parent_list new.parents p)) k ≡ Some (Some parent.1.id) =
      slice_get-map (slice_get all) (parent_list new.parents p) k
      ∙ ap (option_map (slice_get all)) position
      ∙ ap (λ (o : Option (List ℕ)). Some o) (id-at-position q le ∙ parent.4) in
      let named : option_map (λ (id : List ℕ). Some id) (slice_get child.1.parents.items k) ≡ Some (Some parent.1.id) =
      sym (slice_get-map (λ (id : List ℕ). Some id) child.1.parents.items k)
      ∙ ap (λ (os : List (Option (List ℕ))). slice_get os k) (sym holds)
      ∙ told in
      let id = named-some (slice_get child.1.parents.items k) parent.1.id named in
      record {
        child = child.1;
        parent = parent.1;
        at_child =
            ap (slice_get commits) (ap (λ (n : ℕ). get_or new.order.items n 0) (omega arith)
            ∙ get_or_from_slice_get new.order.items p child.0 0 child.2) ∙ child.3;
        at_parent = ap (slice_get commits) (get_or_from_slice_get new.order.items (q - base) parent.0 0 parent.2) ∙ parent.3;
        named = (
          k,
          slice_get_within child.1.parents.items k parent.1.id id,
          get_or_from_slice_get child.1.parents.items k parent.1.id parent.1.id id,
        );
      }
    where
      named-some : (o : Option (List ℕ)) (id : List ℕ) → option_map (λ (x : List ℕ). Some x) o ≡ Some (Some id) → o ≡ Some id
      named-some None id h = cc
      named-some (Some x) id h = cc

  number-within : (q : ℕ) → base ≤ q → q < base + length commits → number q < length commits
  number-within q le within =
      let at = commit-at (q - base) (omega arith) in
      omega (
        arith,
        get_or_from_slice_get new.order.items (q - base) at.0 0 at.2,
        slice_get_within commits at.0 at.1 at.3,
      )

  -- only new commits have parents
  new-child : (p y : ℕ) → Contains (parents_at plain p) y → base ≤ p
  new-child p y (k, inside, at) =
      ⊎_elim
      (λ (lt : p < base).
      let none : length (parents_at plain p) ≡ 0 = ap length (root-parents base above p lt) in absurd (omega arith))
      (λ (le : base ≤ p). le)
      (cases_lt p base)

  -- a walk that ends at a new commit has no other, and is one among the commits
  follows : (p q : ℕ) (rest : List ℕ) → Path plain p q rest → base ≤ q
      → (base ≤ p) × IsNewWalk commits (map number (p ∷ rest))
      × (slice_get (map number (p ∷ rest)) (length rest) ≡ Some (number q))
  follows p q [] w le =
      let end : p ≡ q = w.0 in
      (omega arith, number-within p (omega arith) (omega (arith, w.1, size-plain)), ap (λ (n : ℕ). Some (number n)) end)
  follows p q (y ∷ rest) w le =
      let more = follows y q rest w.1 le in
      let above_base = new-child p y w.0.2 in
      let i : ℕ = p - base in
      let sum : base + i ≡ p = omega arith in
      let inside : i < length commits = omega (arith, w.0.0, size-plain) in
      let listed : Contains (parent_list new.parents i) y =
      subst (λ (ps : List ℕ). Contains ps y) (parents-of-new i inside)
      (subst (λ (n : ℕ). Contains (parents_at plain n) y) (sym sum) w.0.2) in
      let named : NamesCommit commits (number p) (number y) =
      subst (λ (n : ℕ). NamesCommit commits (number n) (number y)) sum
      (names i y inside more.0 (omega (arith, w.0.1, size-plain)) listed) in
      (above_base, (named, more.1), more.2)

  pub own-ancestor : (p : ℕ) → base ≤ p → IsProperAncestor plain p p → IsOwnAncestor commits (number p)
  own-ancestor p le (walk, between, long) =
      let path = path_from_between plain p p walk between in
      let found = follows p p path.0 path.2 le in
      record {
        walk = map number (p ∷ path.0);
        is_walk = found.1;
        first = refl;
        last =
            ap (slice_get (map number (p ∷ path.0))) (omega (arith, length-map (p ∷ path.0) number))
            ∙ found.2;
        long = omega (arith, ap length path.1, length-map (p ∷ path.0) number);
      }

  pub on-cycle : (i p : ℕ) → slice_get new.order.items p ≡ Some i
      → ((history : List Node) → HasOnTop history base new.parents → IsProperAncestor history (base + p) (base + p))
      → IsOwnAncestor commits i
  on-cycle i p at cycle =
      let same : number (base + p) ≡ i =
      ap (λ (n : ℕ). get_or new.order.items n 0) (omega arith) ∙ get_or_from_slice_get new.order.items p i 0 at in
      subst (IsOwnAncestor commits) same (own-ancestor (base + p) (omega arith) (cycle plain plain-on-top))
