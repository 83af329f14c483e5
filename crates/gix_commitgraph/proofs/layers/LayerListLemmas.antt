-- laws of the layers of a graph
use Rattle.std.proofs.Common.{◌≡◌, ℕ, zero, suc, ◌+◌, ◌-◌, ◌^◌, ◌<◌, ◌≤◌, List, [], ◌∷◌, ◌++◌, length, take, Bool, true, not}
use Rattle.std.proofs.Common.{Option, Some, None, unwrap_or, option_map, get_or, slice_get, All, AllPairs, refl, sym, ap, ◌∙◌}
use Rattle.std.proofs.Common.{arith, ⊎_elim}
use Rattle.std.specs.List.{flat_map}
use Rattle.std.proofs.lemmas.Bool.{not-false, ltb-false, eqb-false, cases_lt}
use Rattle.std.proofs.lemmas.List.{take_all}
use Rattle.std.proofs.lemmas.List.FromFn.{length-map-range_with_len}
use Rattle.std.proofs.lemmas.List.Sums.{sum_by_more, sum_by-cons, sum_by-take-le}
use Rattle.std.proofs.lemmas.Option.{slice_get_within, get_or_from_slice_get, slice_get-get_or, slice_get_read, same_Some}
use denote.Enum.Bare.{sameb}
use Rattle.gix_chunk_core.specs.FirstFault.{first_below}
use Rattle.gix_chunk_core.proofs.FirstFaultLemmas.{first_below-none_at, otherwise-none, when-none}
use Rattle.gix_hash_core.specs.declared.kind.Kind.{Kind}
use Rattle.gix_hash_core.specs.declared.kind.Kind.TheVariants.{Sha1, Sha256}
use Rattle.gix_hash_core.specs.contracts.kind.Kind.{the_type}
use Rattle.gix_chunk_core.specs.FirstFault.{◌when◌}
use Rattle.graph_format.specs.Layer.{Layer}
use Rattle.gix_commitgraph.specs.GraphRefusal.{same_kind, kind_at, mismatch_after, mismatch_refusal, graph_refusal}
use Rattle.graph_format.specs.declared.error.GraphError.TheVariants.{HashMismatch}
use Rattle.graph_format.specs.Layer.{positions_from}
use Rattle.gix_commitgraph.specs.Graph.{graph_ids, graph_commits, total, start, MakesGraph, IsGraph}
use Rattle.graph_format.specs.Layer.{IsOpened}
use Rattle.graph_format.proofs.PieceLemmas.{get-map-range}

-- how many commits a layer has
abbrev pub size : Layer → ℕ
size layer = length layer.ids

-- the commits before the next layer
pub start-more : (layers : List Layer) (i : ℕ) (layer : Layer) → slice_get layers i ≡ Some layer
    → start layers (i + 1) ≡ start layers i + size layer
unfolding start
start-more layers i layer here =
    sum_by_more size layers i layer (slice_get_within layers i layer here)
    ∙ ap (λ (l : Layer). total (take i layers) + size l) (get_or_from_slice_get layers i layer layer here)

pub start-none : (layers : List Layer) → start layers 0 ≡ 0
unfolding start
start-none layers = refl

-- all commits stand before the end
pub start-all : (layers : List Layer) (n : ℕ) → length layers ≤ n → start layers n ≡ total layers
unfolding start
start-all layers n h = ap total (take_all n layers h)

pub start-fits : (layers : List Layer) (i : ℕ) → start layers i ≤ total layers
unfolding start
start-fits layers i = sum_by-take-le size layers i

pub start-cons : (layer : Layer) (layers : List Layer) (i : ℕ) → start (layer ∷ layers) (suc i) ≡ size layer + start layers i
unfolding start
start-cons layer layers i = sum_by-cons size layer (take i layers)

-- what stands in the first list, and past it in the second
pub get-front : {X : Type 0} (xs ys : List X) (i : ℕ) → i < length xs → slice_get (xs ++ ys) i ≡ slice_get xs i
get-front [] ys i h = absurd (omega (arith, h))
get-front (x ∷ xs) ys zero h = refl
get-front (x ∷ xs) ys (suc i) h = get-front xs ys i (omega (arith, h))

get-back : {X : Type 0} (xs ys : List X) (i : ℕ) → slice_get (xs ++ ys) (length xs + i) ≡ slice_get ys i
get-back [] ys i = ap (slice_get ys) (omega arith)
get-back (x ∷ xs) ys i = ap (slice_get (x ∷ (xs ++ ys))) (more (length xs) i) ∙ get-back xs ys i
  where
    more : (n i : ℕ) → suc n + i ≡ suc (n + i)
    more n i = omega arith

-- what stands at a place of the parts one after another, where each part has as many as its layer has commits
flat_map-at : {X : Type 0} (f : Layer → List X) → ((layer : Layer) → length (f layer) ≡ size layer)
    → (layers : List Layer) (i j : ℕ) (layer : Layer) → slice_get layers i ≡ Some layer → j < size layer
    → slice_get (flat_map f layers) (start layers i + j) ≡ slice_get (f layer) j
flat_map-at f long [] i j layer here h = cc
flat_map-at f long (x ∷ xs) zero j layer here h =
    let same : x ≡ layer = same_Some x layer here in
    ap (λ (n : ℕ). slice_get (f x ++ flat_map f xs) (n + j)) (start-none (x ∷ xs))
    ∙ ap (slice_get (f x ++ flat_map f xs)) (none j)
    ∙ get-front (f x) (flat_map f xs) j (omega (arith, long x, ap size same))
    ∙ ap (λ (l : Layer). slice_get (f l) j) same
  where
    none : (n : ℕ) → 0 + n ≡ n
    none n = omega arith
flat_map-at f long (x ∷ xs) (suc i) j layer here h =
    ap (slice_get (f x ++ flat_map f xs)) (omega (arith, start-cons x xs i, long x))
    ∙ get-back (f x) (flat_map f xs) (start xs i + j)
    ∙ flat_map-at f long xs i j layer here h

pub length-places : (layer : Layer) → length (positions_from layer 0) ≡ size layer
length-places layer = length-map-range_with_len (λ (pos : ℕ). (layer, pos)) 0 (length layer.ids - 0) ∙ omega arith

-- the id and the commit at a position of a layer
pub graph_ids-at : (layers : List Layer) (i j : ℕ) (layer : Layer) → slice_get layers i ≡ Some layer → j < size layer
    → slice_get (graph_ids layers) (start layers i + j) ≡ slice_get layer.ids j
graph_ids-at layers i j layer here h = flat_map-at (λ l. l.ids) (λ l. refl) layers i j layer here h

pub graph_commits-at : (layers : List Layer) (i j : ℕ) (layer : Layer) → slice_get layers i ≡ Some layer → j < size layer
    → slice_get (graph_commits layers) (start layers i + j) ≡ Some (layer, j)
graph_commits-at layers i j layer here h =
    flat_map-at (λ l. positions_from l 0) length-places layers i j layer here h
    ∙ get-map-range (λ (pos : ℕ). (layer, pos)) 0 (length layer.ids - 0) j (omega (arith, h))
    ∙ ap (λ (n : ℕ). Some (layer, n)) (omega arith)

-- the kind of a layer
pub kind_at-is : (layers : List Layer) (i : ℕ) (layer : Layer) → slice_get layers i ≡ Some layer → kind_at layers i ≡ layer.kind
unfolding kind_at
kind_at-is layers i layer here = ap (λ (o : Option Layer). unwrap_or (option_map (λ (l : Layer). l.kind) o) Sha1) here

-- the test of the code
same_kind-tested : (a b : Kind) → sameb the_type a b ≡ same_kind a b
same_kind-tested Sha1 Sha1 = refl
same_kind-tested Sha1 Sha256 = refl
same_kind-tested Sha256 Sha1 = refl
same_kind-tested Sha256 Sha256 = refl

pub same_kind-alike : (a b : Kind) → same_kind a b ≡ true → a ≡ b
same_kind-alike Sha1 Sha1 e = refl
same_kind-alike Sha1 Sha256 e = cc
same_kind-alike Sha256 Sha1 e = cc
same_kind-alike Sha256 Sha256 e = refl

-- whether a layer and the one after it are of two kinds
pub mismatch-is : (layers : List Layer) (i : ℕ) (layer next : Layer) (a b : Kind) (differ : Bool)
    → slice_get layers i ≡ Some layer → slice_get layers (i + 1) ≡ Some next → a ≡ layer.kind → b ≡ next.kind
    → differ ≡ not (sameb the_type a b) → mismatch_after layers i ≡ (HashMismatch (i + 1) when differ)
mismatch-is layers i layer next a b differ here there first second e =
    let same : same_kind (kind_at layers i) (kind_at layers (i + 1)) ≡ sameb the_type a b =
    ap (λ (k : Kind). same_kind k (kind_at layers (i + 1))) (kind_at-is layers i layer here ∙ sym first)
    ∙ ap (same_kind a) (kind_at-is layers (i + 1) next there ∙ sym second)
    ∙ sym (same_kind-tested a b) in
    ap (λ (x : Bool). HashMismatch (i + 1) when x) (ap not same ∙ sym e)

-- where no layer is of another kind than the one before it, all are of one kind
kinds-by : (layers : List Layer) → first_below (mismatch_after layers) (length layers - 1) ≡ None → (i k : ℕ)
    → i + k < length layers → kind_at layers i ≡ kind_at layers (i + k)
kinds-by layers none i zero h = ap (kind_at layers) (omega arith)
kinds-by layers none i (suc k) h =
    let agree : mismatch_after layers (i + k) ≡ None =
    first_below-none_at (mismatch_after layers) (i + k) (length layers - 1) none (omega arith) in
    kinds-by layers none i k (omega arith)
    ∙ same_kind-alike _ _ (not-false _ (when-none (HashMismatch (i + k + 1)) _ agree))
    ∙ ap (kind_at layers) (omega arith)

pub kinds-alike : (layers : List Layer) → mismatch_refusal layers ≡ None
    → AllPairs (λ layer later. layer.kind ≡ later.kind) layers
unfolding mismatch_refusal
kinds-alike layers none = λ i j d before within.
    let first : kind_at layers i ≡ (get_or layers i d).kind = kind_at-is layers i _ (slice_get-get_or layers i d (omega arith)) in
    let second : kind_at layers j ≡ (get_or layers j d).kind = kind_at-is layers j _ (slice_get-get_or layers j d within) in
    sym first ∙ kinds-by layers none i (j - i) (omega arith) ∙ ap (kind_at layers) (omega arith) ∙ second

-- layers that no condition refuses make a graph
graph-made : (layers : List Layer) → graph_refusal layers ≡ None → MakesGraph layers
unfolding graph_refusal
graph-made layers none =
    let some = otherwise-none _ _ none in
    let few = otherwise-none _ _ some.1 in
    record {
      some = positive _ (eqb-false _ _ (when-none _ _ some.0));
      few = ltb-false _ _ (when-none _ _ few.0);
      alike = kinds-alike layers few.1;
    }
  where
    positive : (n : ℕ) → (n ≡ 0 → ⊥) → 0 < n
    positive n h = omega arith

pub graph-accepted : (layers : List Layer) → graph_refusal layers ≡ None → All IsOpened layers → IsGraph layers
graph-accepted layers none opened = record { makes = graph-made layers none; opened = opened }

-- the kind of the first layer is that of all
pub kind-first : (layers : List Layer) (first d : Layer) (k : ℕ) → IsGraph layers → first ≡ get_or layers 0 first
    → k < length layers → (get_or layers k d).kind ≡ first.kind
kind-first layers first d k graph is within = ⊎_elim
    (λ (after : 0 < k). sym (graph.makes.alike 0 k d after within) ∙ head)
    (λ (none : k ≤ 0). ap (λ (n : ℕ). (get_or layers n d).kind) (omega arith) ∙ head)
    (cases_lt 0 k)
  where
    head : (get_or layers 0 d).kind ≡ first.kind
    head =
        let here : slice_get layers 0 ≡ Some first = slice_get_read layers (length layers) 0 first refl graph.makes.some is in
        ap (λ (l : Layer). l.kind) (get_or_from_slice_get layers 0 first d here)

pub ruleset kind_laws = (kind-first)

-- the commits of a graph up to the end of a layer are few
pub counted-fits : (layers : List Layer) (i before : ℕ) (layer : Layer) → IsGraph layers → before ≡ start layers i
    → slice_get layers i ≡ Some layer → before + size layer < 2 ^ 32
counted-fits layers i before layer graph counted here =
    omega (arith, graph.makes.few, counted, start-more layers i layer here, start-fits layers (i + 1))

pub graph_commits-counted : (layers : List Layer) (i before j : ℕ) (layer : Layer) → before ≡ start layers i
    → slice_get layers i ≡ Some layer → j < size layer → slice_get (graph_commits layers) (before + j) ≡ Some (layer, j)
graph_commits-counted layers i before j layer counted here h =
    ap (λ (n : ℕ). slice_get (graph_commits layers) (n + j)) counted ∙ graph_commits-at layers i j layer here h

pub graph_ids-counted : (layers : List Layer) (i before j : ℕ) (layer : Layer) (id : List ℕ) → before ≡ start layers i
    → slice_get layers i ≡ Some layer → slice_get layer.ids j ≡ Some id → slice_get (graph_ids layers) (before + j) ≡ Some id
graph_ids-counted layers i before j layer id counted here holds =
    ap (λ (n : ℕ). slice_get (graph_ids layers) (n + j)) counted
    ∙ graph_ids-at layers i j layer here (slice_get_within layer.ids j id holds)
    ∙ holds
