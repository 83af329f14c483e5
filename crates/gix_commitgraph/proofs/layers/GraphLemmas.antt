-- what the words of a graph mean
use Rattle.std.proofs.Common.{◌≡◌, ℕ, zero, suc, ◌+◌, ◌-◌, ◌<◌, ◌≤◌, Bool, true, false, not, List, [], ◌∷◌, length, take, Option}
use Rattle.std.proofs.Common.{Some, None, is_some, position, get_or, slice_get, All, MatchOption, nat_lt, cond, refl, sym, ap}
use Rattle.std.proofs.Common.{subst, ◌∙◌, arith, ⊎_elim}
use Rattle.std.specs.List.{position_or_len}
use Rattle.std.proofs.lemmas.Bool.{cases_lt, cases_eq, lt-ltb, le-ltb, ltb-false, eq-eqb, ne_eqb, not-false}
use Rattle.std.proofs.lemmas.List.{take-take}
use Rattle.std.proofs.lemmas.List.Concat.{length-flat_map}
use Rattle.std.proofs.lemmas.List.Quantifiers.{position-Some}
use Rattle.std.proofs.lemmas.List.Sums.{sum_by-cons, sum_by-take-le, fails_before_first}
use Rattle.std.proofs.lemmas.Option.{slice_get_within, slice_get-get_or, same_Some}
use Rattle.gix_chunk_core.specs.FirstFault.{first_below}
use Rattle.gix_chunk_core.proofs.FirstFaultLemmas.{first_below-none_at, when-none}
use Rattle.gix_chunk_core.specs.FirstFault.{◌when◌, ◌otherwise◌}
use Rattle.gix_hash_core.specs.declared.kind.Kind.{Kind}
use Rattle.gix_hash_core.specs.declared.kind.Kind.TheVariants.{Sha1, Sha256}
use Rattle.graph_format.specs.Layer.{Layer}
use Rattle.graph_format.specs.Lookup.{Found, scan}
use Rattle.graph_format.specs.LookupLaw.{IsFirst}
use Rattle.gix_commitgraph.specs.Graph.{graph_ids, graph_commits, total, start, MakesGraph}
use Rattle.gix_commitgraph.specs.GraphLookup.{answer_at, first_answer}
use Rattle.gix_commitgraph.specs.GraphLaw.{LiesIn, LiesInOne, ComesFromLayer, AreCounted, IsInOrder, AreScanned, IsRefusal}
use Rattle.gix_commitgraph.specs.GraphLaw.{IsJudged}
use Rattle.gix_commitgraph.specs.GraphRefusal.{same_kind, kind_at, mismatch_after, mismatch_refusal, graph_refusal}
use Rattle.graph_format.specs.declared.TheConstants.{MAX_COMMITS}
use Rattle.graph_format.specs.declared.error.GraphError.{GraphError}
use Rattle.graph_format.specs.declared.error.GraphError.TheVariants.{NoFiles, TooManyCommits, HashMismatch}
use Rattle.gix_commitgraph.proofs.layers.LayerListLemmas.{size, same_kind-alike, kinds-alike, start-none, start-more, start-cons}
use Rattle.gix_commitgraph.proofs.layers.LayerListLemmas.{graph_ids-at, graph_commits-at}
use Rattle.gix_commitgraph.proofs.layers.PositionLemmas.{length-graph_commits}
use Rattle.graph_format.proofs.ScanLemmas.{scan-first, scan-found, scan-none}
use Rattle.gix_commitgraph.proofs.lookup.ElementLemmas.{all-at}
use Rattle.gix_commitgraph.proofs.lookup.GraphLookupLemmas.{answer_at-get_or, first_answer-at, first_answer-none}

-- what stands past the last layer
no_layer : Layer
no_layer = record { kind = Sha1; bases = []; fan = []; ids = []; records = []; edges = None; checksum = []; body = []; path = [] }

-- later layers start later
pub start-later : (layers : List Layer) (i k : ℕ) → i ≤ k → start layers i ≤ start layers k
unfolding start
start-later layers i k h = omega (arith, sum_by-take-le size (take k layers) i, ap total (take-take i k layers h))

-- some layer has the position
lies-in : (layers : List Layer) (pos : ℕ) → pos < total layers → (i : ℕ) × (layer : Layer) × LiesIn layers pos i layer
lies-in [] pos h = absurd (omega (arith, h))
lies-in (x ∷ xs) pos h = ⊎_elim
    (λ (here : pos < size x). (
      0,
      x,
      record {
        there = refl;
        from = omega (arith, start-none (x ∷ xs));
        below = omega (arith, start-more (x ∷ xs) 0 x refl, start-none (x ∷ xs));
      },
    ))
    (λ (past : size x ≤ pos).
    let rest = lies-in xs (pos - size x) (omega (arith, sum_by-cons size x xs)) in (
      suc rest.0,
      rest.1,
      record {
        there = rest.2.there;
        from = omega (arith, start-cons x xs rest.0, rest.2.from);
        below = omega (
          arith,
          start-more (x ∷ xs) (suc rest.0) rest.1 rest.2.there,
          start-cons x xs rest.0,
          start-more xs rest.0 rest.1 rest.2.there,
          rest.2.below,
        );
      },
    ))
    (cases_lt pos (size x))

only-one : (layers : List Layer) (pos i k : ℕ) (layer other : Layer) → LiesIn layers pos i layer → LiesIn layers pos k other
    → k ≡ i
only-one layers pos i k layer other first second = ⊎_elim
    (λ (before : k < i). absurd (omega (arith, start-later layers (k + 1) i (omega arith), first.from, second.below)))
    (λ (not_before : i ≤ k). ⊎_elim
    (λ (after : i < k). absurd (omega (arith, start-later layers (i + 1) k (omega arith), second.from, first.below)))
    (λ (not_after : k ≤ i). omega arith)
    (cases_lt i k))
    (cases_lt k i)

pub lies-in_one : (layers : List Layer) (pos : ℕ) → pos < total layers → LiesInOne layers pos
lies-in_one layers pos h =
    let place = lies-in layers pos h in
    record {
      index = place.0;
      layer = place.1;
      lies = place.2;
      only = λ i other lies. only-one layers pos place.0 i place.1 other place.2 lies;
    }

-- how far a position lies in its layer
lies-within : (layers : List Layer) (pos i : ℕ) (layer : Layer) → LiesIn layers pos i layer → pos - start layers i < size layer
lies-within layers pos i layer lies = omega (arith, lies.from, lies.below, start-more layers i layer lies.there)

pub place-in : (layers : List Layer) (pos i : ℕ) (layer : Layer) → LiesIn layers pos i layer → ComesFromLayer layers pos i layer
place-in layers pos i layer lies =
    let whole : pos ≡ start layers i + (pos - start layers i) = omega (arith, lies.from) in
    record {
      id = ap (slice_get (graph_ids layers)) whole
          ∙ graph_ids-at layers i (pos - start layers i) layer lies.there (lies-within layers pos i layer lies);
      commit = ap (slice_get (graph_commits layers)) whole
          ∙ graph_commits-at layers i (pos - start layers i) layer lies.there (lies-within layers pos i layer lies);
    }

-- each commit lies in the layer that it is given with
pub commit-lies : (layers : List Layer) (p pos : ℕ) (layer : Layer) → slice_get (graph_commits layers) p ≡ Some (layer, pos)
    → (i : ℕ) × LiesIn layers p i layer × (pos ≡ p - start layers i)
commit-lies layers p pos layer here =
    let within : p < total layers =
    omega (arith, slice_get_within (graph_commits layers) p (layer, pos) here, length-graph_commits layers) in
    let place = lies-in layers p within in
    let same : (place.1, p - start layers place.0) ≡ (layer, pos) =
    same_Some _ _ (sym (place-in layers p place.0 place.1 place.2).commit ∙ here) in (
      place.0,
      subst (LiesIn layers p place.0) (ap (λ (at : Layer × ℕ). at.0) same) place.2,
      sym (ap (λ (at : Layer × ℕ). at.1) same),
    )

pub counted : (layers : List Layer) → AreCounted layers
counted layers = record {
  ids = length-flat_map (λ layer. layer.ids) layers;
  commits = length-graph_commits layers;
  stops = λ i layer there. start-more layers i layer there;
}

-- where an ordered layer answers none it has no such id
nowhere-from : (layer : Layer) (id : List ℕ) → IsInOrder layer → Found layer id None → (i : ℕ) → slice_get layer.ids i ≡ Some id
    → ⊥
nowhere-from layer id ordered found i here =
    let P : Option ℕ → Type 0 = λ o. IsFirst layer.ids id o in
    let first : P None = subst P (sym (found.scanned ordered.0 ordered.1)) (scan-first layer.ids id) in
    first i here

-- and where it answers a position it has none before that
none-before : (layer : Layer) (id : List ℕ) (pos : ℕ) → IsInOrder layer → Found layer id (Some pos) → (i : ℕ) → i < pos
    → slice_get layer.ids i ≡ Some id → ⊥
none-before layer id pos ordered found i h here =
    let P : Option ℕ → Type 0 = λ o. IsFirst layer.ids id o in
    let first : P (Some pos) = subst P (sym (found.scanned ordered.0 ordered.1)) (scan-first layer.ids id) in
    first.1 i h here

unanswered : (o : Option ℕ) → is_some o ≡ false → o ≡ None
unanswered None h = refl
unanswered (Some x) h = cc

answered : (o : Option ℕ) → is_some o ≡ true → (x : ℕ) × (o ≡ Some x)
answered None h = cc
answered (Some x) h = (x, refl)

-- the layer of an id's position, by its answer
layer-of_id : (layers : List Layer) (id : List ℕ) (pos : ℕ) → slice_get (graph_ids layers) pos ≡ Some id → (i : ℕ)
    × (layer : Layer) × LiesIn layers pos i layer × (slice_get layer.ids (pos - start layers i) ≡ Some id)
layer-of_id layers id pos here =
    let within : pos < total layers =
    omega (arith, slice_get_within (graph_ids layers) pos id here, length-flat_map (λ (layer : Layer). layer.ids) layers) in
    let place = lies-in layers pos within in
    (place.0, place.1, place.2, sym (place-in layers pos place.0 place.1 place.2).id ∙ here)

scanned-none : (layers : List Layer) (id : List ℕ) (answers : List (Option ℕ)) → All IsInOrder layers
    → length answers ≡ length layers
    → ((i : ℕ) (layer : Layer) → slice_get layers i ≡ Some layer → Found layer id (answer_at answers i))
    → ((k : ℕ) → k < length answers → answer_at answers k ≡ None) → first_answer layers answers ≡ scan (graph_ids layers) id
scanned-none layers id answers ordered one_each each nowhere =
    first_answer-none layers answers nowhere
    ∙ sym (scan-none (graph_ids layers) id (λ pos here.
    let place = layer-of_id layers id pos here in
    let inside : place.0 < length layers = slice_get_within layers place.0 place.1 place.2.there in
    let P : Option ℕ → Type 0 = λ o. Found place.1 id o in
    nowhere-from place.1 id (all-at IsInOrder layers place.0 place.1 ordered place.2.there)
    (subst P (nowhere place.0 (omega (arith, one_each))) (each place.0 place.1 place.2.there)) (pos - start layers place.0)
    place.3))

scanned-some : (layers : List Layer) (id : List ℕ) (answers : List (Option ℕ)) (at pos : ℕ) → All IsInOrder layers
    → length answers ≡ length layers
    → ((i : ℕ) (layer : Layer) → slice_get layers i ≡ Some layer → Found layer id (answer_at answers i)) → at < length answers
    → answer_at answers at ≡ Some pos → ((k : ℕ) → k < at → answer_at answers k ≡ None)
    → first_answer layers answers ≡ scan (graph_ids layers) id
scanned-some layers id answers at pos ordered one_each each within here before =
    let inside : at < length layers = omega (arith, one_each) in
    let layer = get_or layers at no_layer in
    let there : slice_get layers at ≡ Some layer = slice_get-get_or layers at no_layer inside in
    let P : Option ℕ → Type 0 = λ o. Found layer id o in
    let found : Found layer id (Some pos) = subst P here (each at layer there) in
    let fits : pos < size layer = slice_get_within layer.ids pos id found.holds in
    first_answer-at layers answers at pos within here before
    ∙ sym (scan-found (graph_ids layers) id (start layers at + pos) (graph_ids-at layers at pos layer there fits ∙ found.holds)
    (λ i earlier stands.
    let place = layer-of_id layers id i stands in
    let k = place.0 in
    ⊎_elim
    (λ (lower : k < at).
    let Q : Option ℕ → Type 0 = λ o. Found place.1 id o in
    nowhere-from place.1 id (all-at IsInOrder layers k place.1 ordered place.2.there)
    (subst Q (before k lower) (each k place.1 place.2.there)) (i - start layers k) place.3)
    (λ (not_lower : at ≤ k). ⊎_elim
    (λ (higher : at < k).
    omega (arith, earlier, fits, place.2.from, start-more layers at layer there, start-later layers (at + 1) k (omega arith)))
    (λ (not_higher : k ≤ at).
    let same : k ≡ at = omega arith in
    let one : place.1 ≡ layer = same_Some place.1 layer (sym place.2.there ∙ ap (slice_get layers) same ∙ there) in
    let at_start : start layers k ≡ start layers at = ap (start layers) same in
    none-before layer id pos (all-at IsInOrder layers at layer ordered there) found (i - start layers k)
    (omega (arith, earlier, place.2.from, at_start))
    (ap (λ (l : Layer). slice_get l.ids (i - start layers k)) (sym one) ∙ place.3))
    (cases_lt at k))
    (cases_lt k at)))

-- by the first answer that is a position
scanned-by : (layers : List Layer) (id : List ℕ) (answers : List (Option ℕ)) (first : Option ℕ) → position is_some answers ≡ first
    → All IsInOrder layers → length answers ≡ length layers
    → ((i : ℕ) (layer : Layer) → slice_get layers i ≡ Some layer → Found layer id (answer_at answers i))
    → first_answer layers answers ≡ scan (graph_ids layers) id
scanned-by layers id answers None e ordered one_each each =
    scanned-none layers id answers ordered one_each each (λ k h.
    let past : length answers ≤ position_or_len is_some answers = ltb-false _ _ (none-from_cond _ _ e) in
    answer_at-get_or answers k ∙ unanswered (get_or answers k None) (fails_before_first is_some answers k None (omega arith)))
  where
    none-from_cond : (b : Bool) (n : ℕ) → cond b (Some n) None ≡ None → b ≡ false
    none-from_cond true n h = cc
    none-from_cond false n h = refl
scanned-by layers id answers (Some at) e ordered one_each each =
    let is = position-Some is_some answers at None e in
    let value = answered (get_or answers at None) is.1 in
    scanned-some layers id answers at value.0 ordered one_each each is.0 (answer_at-get_or answers at ∙ value.1)
    (λ k h. answer_at-get_or answers k ∙ unanswered (get_or answers k None) (is.2 k h))

-- where all layers are ordered, an answer is that of a plain scan
pub scanned : (layers : List Layer) → AreScanned layers
scanned layers ordered id answer found = found.first
    ∙ scanned-by layers id found.answers (position is_some found.answers) refl ordered found.one_each found.each

-- the least number at which something is given first
first-least : {X : Type 0} (f : ℕ → Option X) (n : ℕ) (x : X) → first_below f n ≡ Some x → (i : ℕ) × (i < n) × (f i ≡ Some x)
    × (first_below f i ≡ None)
unfolding first_below
first-least f zero x h = cc
first-least f (suc n) x h =
    elim (first_below f n) as (λ o. first_below f n ≡ o → (i : ℕ) × (i < suc n) × (f i ≡ Some x) × (first_below f i ≡ None)) [
      | None ↦ λ e. (n, omega arith, rw e at h, e)
      | Some y ↦ λ e. let below = first-least f n x (e ∙ rw e at h) in (below.0, omega arith, below.2, below.3)
    ] refl

when-some : (fault : GraphError) (test : Bool) (e : GraphError) → (fault when test) ≡ Some e → (test ≡ true) × (fault ≡ e)
when-some fault true e h = (refl, same_Some fault e h)
when-some fault false e h = cc

differ-from : (a b : Kind) → not (same_kind a b) ≡ true → a ≡ b → ⊥
differ-from Sha1 Sha1 h e = cc
differ-from Sha1 Sha256 h e = cc
differ-from Sha256 Sha1 h e = cc
differ-from Sha256 Sha256 h e = cc

-- what the first mismatch says
mismatch-judged : (layers : List Layer) (e : GraphError) → total layers ≤ MAX_COMMITS
    → first_below (mismatch_after layers) (length layers - 1) ≡ Some e → IsRefusal layers e
mismatch-judged layers e few h =
    let at = first-least (mismatch_after layers) (length layers - 1) e h in
    let i = at.0 in
    let test = when-some (HashMismatch (i + 1)) _ e at.2 in
    let P : GraphError → Type 0 = λ x. IsRefusal layers x in
    subst P test.1 (
      few,
      record {
        after_one = omega arith;
        within = omega (arith, at.1);
        differs = λ same. differ-from _ _ test.0 (ap (kind_at layers) (omega arith) ∙ sym same);
        least = λ k some below.
            let agree : mismatch_after layers (k - 1) ≡ None =
            first_below-none_at (mismatch_after layers) (k - 1) i at.3 (omega arith) in
            sym (same_kind-alike _ _ (not-false _ (when-none (HashMismatch (k - 1 + 1)) _ agree))
            ∙ ap (kind_at layers) (omega arith));
      },
    )

mismatches-judged : (layers : List Layer) (o : Option GraphError) → mismatch_refusal layers ≡ o → 0 < length layers
    → total layers ≤ MAX_COMMITS → MatchOption o (MakesGraph layers) (IsRefusal layers)
unfolding mismatch_refusal
mismatches-judged layers None h some few = record { some = some; few = few; alike = kinds-alike layers h }
mismatches-judged layers (Some e) h some few = mismatch-judged layers e few h

no-elements : (layers : List Layer) → length layers ≡ 0 → layers ≡ []
no-elements [] h = refl
no-elements (x ∷ xs) h = absurd (omega (arith, h))

pub judged : (layers : List Layer) → IsJudged layers
unfolding graph_refusal
judged layers =
    let P : Option GraphError → Type 0 = λ o. MatchOption o (MakesGraph layers) (IsRefusal layers) in
    let many = TooManyCommits (total layers) when nat_lt MAX_COMMITS (total layers) in
    let all : Bool → Option GraphError = λ b. (NoFiles when b) otherwise many otherwise mismatch_refusal layers in
    let rest : Bool → Option GraphError = λ b. (TooManyCommits (total layers) when b) otherwise mismatch_refusal layers in
    ⊎_elim
    (λ (none : length layers ≡ 0).
    subst (λ (b : Bool). P (all b)) (sym (eq-eqb (length layers) 0 none)) (no-elements layers none))
    (λ (some : length layers ≡ 0 → ⊥). subst (λ (b : Bool). P (all b)) (sym (ne_eqb (length layers) 0 some)) (⊎_elim
    (λ (more : MAX_COMMITS < total layers).
    subst (λ (b : Bool). P (rest b)) (sym (lt-ltb MAX_COMMITS (total layers) more)) (refl, more))
    (λ (few : total layers ≤ MAX_COMMITS).
    subst (λ (b : Bool). P (rest b)) (sym (le-ltb MAX_COMMITS (total layers) few))
    (mismatches-judged layers (mismatch_refusal layers) refl (omega arith) few))
    (cases_lt MAX_COMMITS (total layers))))
    (cases_eq (length layers) 0)
