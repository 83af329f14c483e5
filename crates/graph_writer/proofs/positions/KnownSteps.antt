-- The positions of commits whose ids are known.
use Rattle.std.proofs.Common.{◌≡◌, ℕ, suc, ◌+◌, ◌<◌, ◌≤◌, Bool, true, false, List, [], ◌∷◌, ◌++◌, length, get_or}
use Rattle.std.proofs.Common.{slice_get, Option, Some, None, option_map, position, cond, sym, ap, ◌∙◌, subst, ⊎_elim, arith, ltb}
use Rattle.std.specs.List.{position_or_len}
use Rattle.std.specs.Option.{option_and_then, option_map_or}
use Rattle.std.specs.Prelude.{IfSome, IfNone}
use Rattle.std.proofs.lemmas.Bool.{cases_lt, lt-ltb, le-ltb}
use Rattle.graph_levels.specs.ParentLists.{commit_count, parent_list}
use Rattle.graph_levels.specs.declared.lists.ParentLists.{ParentLists}
use Rattle.std.proofs.lemmas.List.Sums.{position_or_len_is}
use Rattle.gix_commitgraph.specs.Graph.{graph_ids, total}
use Rattle.gix_commitgraph.proofs.layers.GraphLemmas.{counted}
use Rattle.graph_format.specs.Layer.{Layer}
use Rattle.graph_format.specs.Lookup.{scan}
use Rattle.graph_format.proofs.ScanLemmas.{scan-none}
use Rattle.std.proofs.lemmas.Option.{slice_get_within, slice_get-get_or, same_Some}
use Rattle.gix_chunk_core.specs.FirstFault.{first_below}
use Rattle.gix_chunk_core.proofs.FirstFaultLemmas.{first_below-none_from}
use Rattle.graph_writer.proofs.positions.NewIdSteps.{scan-holds}
use Rattle.graph_writer.specs.Known.{ids_below}
use Rattle.graph_writer.specs.SortedPlaces.{IsOrder}
use Rattle.graph_writer.specs.declared.resolve.Known.{Known}
use Rattle.graph_writer.specs.WriteRefusal.{is_unknown, parent_at}
use Rattle.graph_writer.specs.declared.commit.NewCommit.{NewCommit}
use Rattle.graph_writer.specs.declared.commit.WriteError.TheVariants as error

pub get-back : {X : Type 0} (xs ys : List X) (i : ℕ) → slice_get (xs ++ ys) (length xs + i) ≡ slice_get ys i
get-back [] ys i = ap (slice_get ys) (omega arith)
get-back (x ∷ xs) ys i = ap (slice_get (x ∷ (xs ++ ys))) (more (length xs) i) ∙ get-back xs ys i
  where
    more : (n i : ℕ) → suc n + i ≡ suc (n + i)
    more n i = omega arith

-- the first element that passes a test
pub position-at : {X : Type 0} (p : X → Bool) (xs : List X) (i : ℕ) (d : X) → i < length xs
    → ((k : ℕ) → k < i → p (get_or xs k d) ≡ false) → p (get_or xs i d) ≡ true → position p xs ≡ Some i
position-at p xs i d lt before here =
    let first : position_or_len p xs ≡ i = position_or_len_is p xs i d (omega arith) before (λ _. here) in
    ap (λ (n : ℕ). cond (ltb n (length xs)) (Some n) None) first ∙ ap (λ (b : Bool). cond b (Some i) None) (lt-ltb i
    (length xs) lt)

pub position-none : {X : Type 0} (p : X → Bool) (xs : List X) (d : X) → ((k : ℕ) → k < length xs → p (get_or xs k d) ≡ false)
    → position p xs ≡ None
position-none p xs d each =
    let n = length xs in
    let first : position_or_len p xs ≡ n = position_or_len_is p xs n d (omega arith) each (λ lt. absurd (omega arith)) in
    ap (λ (k : ℕ). cond (ltb k n) (Some k) None) first ∙ ap (λ (b : Bool). cond b (Some n) None) (le-ltb n n (omega arith))

-- what refuses a commit for its parents
pub parent-from : (below : List (List ℕ)) (commits : List NewCommit) (i : ℕ) (commit : NewCommit) (answer : Option ℕ)
    → slice_get commits i ≡ Some commit → position (is_unknown below commits) commit.parents.items ≡ answer
    → parent_at below commits i ≡ option_map (error.Parent i) answer
parent-from below commits i commit answer here is =
    ap (option_and_then (λ (c : NewCommit). option_map (error.Parent i) (position
    (is_unknown below commits) c.parents.items))) here
    ∙ ap (option_map (error.Parent i)) is

-- without a graph below nothing is found there
pub none-below : {X : Type 0} (f : X → List Layer) (below : Option X) (id : List ℕ) → below ≡ None
    → None ≡ scan (graph_ids (option_map_or f below [])) id
none-below f below id is =
    sym
    (ap (λ o. scan (graph_ids (option_map_or f o [])) id) is
    ∙ scan-none [] id (λ i here. absurd (omega (arith, slice_get_within [] i id here))))

-- what is found below is a position of the graph, which has the id
pub below-within : (layers : List Layer) (id : List ℕ) (p : ℕ) → scan (graph_ids layers) id ≡ Some p → p < total layers
below-within layers id p is =
    omega (arith, slice_get_within (graph_ids layers) p id (scan-holds (graph_ids layers) id p is), (counted layers).ids)

pub below-bound : (layers : List Layer) (id : List ℕ) (start n : ℕ) (answer : Option ℕ) → start ≡ total layers
    → answer ≡ scan (graph_ids layers) id → IfSome answer (λ p. p < start + n)
below-bound layers id start n None total_is is = tt
below-bound layers id start n (Some p) total_is is = omega (arith, below-within layers id p (sym is))

pub if-none : {X : Type 0} (o : Option X) (P : Type 0) → IfNone o P → o ≡ None → P
if-none None P h is = h
if-none (Some x) P h is = absurd (cc)

-- one more list of parents
pub lists-more : (P : ℕ → List ℕ → Type 0) (old new : ParentLists) (n : ℕ) (parents : List ℕ) → commit_count old ≡ n
    → ((i : ℕ) → i < commit_count old → parent_list new i ≡ parent_list old i) → parent_list new (commit_count old) ≡ parents
    → ((i : ℕ) → i < n → P i (parent_list old i)) → P n parents → (i : ℕ) → i < n + 1 → P i (parent_list new i)
lists-more P old new n parents count same last each here i lt =
    ⊎_elim
    (λ (before : i < n). subst (P i) (sym (same i (omega arith))) (each i before))
    (λ (not_before : n ≤ i).
    let number : n ≡ i = omega arith in
    subst (λ (k : ℕ). P k (parent_list new k)) number
    (subst (P n) (sym (ap (parent_list new) (sym count) ∙ last)) here))
    (cases_lt i n)

-- The parents of the commits at the places before this one are known.
abbrev pub AreFoundTo : {C : Type 0} → Known C → ℕ → Type 0
AreFoundTo known n = (p : ℕ) → p < n → (i : ℕ) → slice_get known.order.now p ≡ Some i
    → parent_at (ids_below known) known.commits.now i ≡ None

-- so are those of one more
pub found-more : {C : Type 0} (known : Known C) (n i : ℕ) → slice_get known.order.now n ≡ Some i
    → parent_at (ids_below known) known.commits.now i ≡ None → AreFoundTo known n → AreFoundTo known (n + 1)
found-more known n i at here each p lt j at_p =
    ⊎_elim
    (λ (before : p < n). each p before j at_p)
    (λ (not_before : n ≤ p).
    let place : n ≡ p = omega arith in
    let number : i ≡ j = same_Some i j (sym at ∙ ap (slice_get known.order.now) place ∙ at_p) in
    sym (ap (parent_at (ids_below known) known.commits.now) number) ∙ here)
    (cases_lt p n)

-- each commit has a place, so all parents are known
pub all-found : {C : Type 0} (known : Known C) → IsOrder known.commits.now known.order.now
    → AreFoundTo known (length known.order.now)
    → first_below (parent_at (ids_below known) known.commits.now) (length known.commits.now) ≡ None
all-found known order each =
    first_below-none_from (parent_at (ids_below known) known.commits.now) (length known.commits.now)
    (λ i lt.
    let found = order.mixed.all i lt in
    each found.0 found.1 i
    (slice_get-get_or known.order.now found.0 i found.1 ∙ ap (λ (n : ℕ). Some n) found.2))
