-- laws of the lookup of an id in several layers
use Rattle.std.proofs.Common.{◌≡◌, ℕ, ◌+◌, ◌<◌, ◌≤◌, Bool, false, if◌then◌else◌, cond, List, map, length, Option, Some, None}
use Rattle.std.proofs.Common.{IfSome, unwrap_or, option_map, is_some, position, eqb, ltb, get_or, slice_get, refl, sym, ap, ◌∙◌}
use Rattle.std.proofs.Common.{arith, subst, ⊎_elim}
use Rattle.std.specs.Option.{option_and_then}
use Rattle.std.specs.List.{range_with_len, position_or_len}
use Rattle.std.proofs.lemmas.Bool.{cases_lt, cases_eq, lt-ltb, le-ltb, eq-eqb, ne_eqb}
use Rattle.std.proofs.lemmas.List.FromFn.{length-map-range_with_len}
use Rattle.std.proofs.lemmas.List.Sums.{position_or_len_is}
use Rattle.std.proofs.lemmas.Option.{slice_get_within, unwrap_or-slice_get, same_Some}
use Rattle.graph_format.specs.Layer.{Layer}
use Rattle.graph_format.specs.Lookup.{Found, scan}
use Rattle.graph_format.specs.LookupLaw.{IsFirst}
use Rattle.gix_commitgraph.specs.Graph.{start}
use Rattle.gix_commitgraph.specs.GraphLookup.{FoundIn, answer_at, first_answer}
use Rattle.graph_format.proofs.PieceLemmas.{get-map-range}
use Rattle.graph_format.proofs.ScanLemmas.{scan-first}

holds-from_first : (ids : List (List ℕ)) (id : List ℕ) (answer : Option ℕ) → IsFirst ids id answer → IfSome answer (λ pos.
    slice_get ids pos ≡ Some id)
holds-from_first ids id None h = tt
holds-from_first ids id (Some pos) h = h.0

-- a plain scan is an answer
found-scan : (layer : Layer) (id : List ℕ) → Found layer id (scan layer.ids id)
found-scan layer id = record {
  holds = holds-from_first layer.ids id (scan layer.ids id) (scan-first layer.ids id);
  scanned = λ ascend exact. refl;
}

answer_at-is : (answers : List (Option ℕ)) (i : ℕ) (answer : Option ℕ) → slice_get answers i ≡ Some answer
    → answer_at answers i ≡ answer
unfolding answer_at
answer_at-is answers i answer h = ap (λ (o : Option (Option ℕ)). unwrap_or o None) h

pub answer_at-get_or : (answers : List (Option ℕ)) (i : ℕ) → answer_at answers i ≡ get_or answers i None
unfolding answer_at
answer_at-get_or answers i = unwrap_or-slice_get answers i None

none-is_some : (o : Option ℕ) → o ≡ None → is_some o ≡ false
none-is_some o h = ap is_some h

-- the first answer that is a position, where it stands at i
pub first_answer-at : (layers : List Layer) (answers : List (Option ℕ)) (i pos : ℕ) → i < length answers
    → answer_at answers i ≡ Some pos → ((k : ℕ) → k < i → answer_at answers k ≡ None)
    → first_answer layers answers ≡ Some (start layers i + pos)
unfolding first_answer
first_answer-at layers answers i pos within here before =
    let first : position_or_len is_some answers ≡ i =
    position_or_len_is is_some answers i None (omega arith)
    (λ k h. ap is_some (sym (answer_at-get_or answers k) ∙ before k h))
    (λ _. ap is_some (sym (answer_at-get_or answers i) ∙ here)) in
    let place : position is_some answers ≡ Some i =
    ap (λ (n : ℕ). cond (ltb n (length answers)) (Some n) None) first
    ∙ ap (λ (b : Bool). cond b (Some i) None) (lt-ltb i (length answers) within) in
    ap (option_and_then (λ (n : ℕ). option_map (λ (p : ℕ). start layers n + p) (answer_at answers n))) place
    ∙ ap (option_map (λ (p : ℕ). start layers i + p)) here

-- none of the answers is a position
pub first_answer-none : (layers : List Layer) (answers : List (Option ℕ))
    → ((k : ℕ) → k < length answers → answer_at answers k ≡ None) → first_answer layers answers ≡ None
unfolding first_answer
first_answer-none layers answers nowhere =
    let all = length answers in
    let first : position_or_len is_some answers ≡ all =
    position_or_len_is is_some answers all None (omega arith)
    (λ k h. ap is_some (sym (answer_at-get_or answers k) ∙ nowhere k h))
    (λ h. absurd (omega arith)) in
    let place : position is_some answers ≡ None =
    ap (λ (n : ℕ). cond (ltb n all) (Some n) None) first
    ∙ ap (λ (b : Bool). cond b (Some all) None) (le-ltb all all (omega arith)) in
    ap (option_and_then (λ (n : ℕ). option_map (λ (p : ℕ). start layers n + p) (answer_at answers n))) place

-- No layer below this one finds the id.
pub record IsMissed (layers : List Layer) (id : List ℕ) (count : ℕ) : Type 0 where
  pub each : (i : ℕ) (layer : Layer) → i < count → slice_get layers i ≡ Some layer → Found layer id None

pub missed-none : (layers : List Layer) (id : List ℕ) → IsMissed layers id 0
missed-none layers id = record { each = λ i layer h here. absurd (omega (arith, h)) }

pub missed-more : (layers : List Layer) (id : List ℕ) (count : ℕ) (layer : Layer) → IsMissed layers id count
    → slice_get layers count ≡ Some layer → Found layer id None → IsMissed layers id (count + 1)
missed-more layers id count layer missed here found = record {
  each = λ i other h there. ⊎_elim
      (λ (below : i < count). missed.each i other below there)
      (λ (at : count ≤ i).
      let same : layer ≡ other = same_Some layer other (sym here ∙ ap (slice_get layers) (omega arith) ∙ there) in
      let P : Layer → Type 0 = λ l. Found l id None in
      subst P same found)
      (cases_lt i count);
}

-- an answer of each layer: none below this one, its position, and a plain scan of those above
answers_by : List Layer → List ℕ → ℕ → ℕ → ℕ → Option ℕ
answers_by layers id at pos i =
    if ltb i at then None else
    (if eqb i at then Some pos else option_and_then (λ (layer : Layer). scan layer.ids id) (slice_get layers i))

below-at : (layers : List Layer) (id : List ℕ) (at pos i : ℕ) → i < at → answers_by layers id at pos i ≡ None
unfolding answers_by
below-at layers id at pos i h = rw (lt-ltb i at h) refl

there-at : (layers : List Layer) (id : List ℕ) (at pos : ℕ) → answers_by layers id at pos at ≡ Some pos
unfolding answers_by
there-at layers id at pos = rw (le-ltb at at (omega arith), eq-eqb at at refl) refl

above-at : (layers : List Layer) (id : List ℕ) (at pos i : ℕ) (layer : Layer) → at < i → slice_get layers i ≡ Some layer
    → answers_by layers id at pos i ≡ scan layer.ids id
unfolding answers_by
above-at layers id at pos i layer h here =
    rw (le-ltb i at (omega arith), ne_eqb i at (λ e. omega arith)) (ap (option_and_then (λ (l : Layer). scan l.ids id)) here)

-- the first layer that finds the id decides
pub found_in-at : (layers : List Layer) (id : List ℕ) (at pos : ℕ) (layer : Layer) → IsMissed layers id at
    → slice_get layers at ≡ Some layer → Found layer id (Some pos) → FoundIn layers id (Some (start layers at + pos))
found_in-at layers id at pos layer missed here found =
    let answer = answers_by layers id at pos in
    let all = length layers in
    let listed = map answer (range_with_len 0 all) in
    let counted : length listed ≡ all = length-map-range_with_len answer 0 all in
    let value : (i : ℕ) → i < all → answer_at listed i ≡ answer i = λ i h.
    answer_at-is listed i (answer i) (get-map-range answer 0 all i h ∙ ap (λ (n : ℕ). Some (answer n)) (omega arith)) in
    let within : at < all = slice_get_within layers at layer here in
    record {
      answers = listed;
      one_each = counted;
      each = λ i other there.
          let inside : i < all = slice_get_within layers i other there in
          let P : Option ℕ → Type 0 = λ o. Found other id o in
          subst P (sym (value i inside)) (⊎_elim
          (λ (below : i < at). subst P (sym (below-at layers id at pos i below)) (missed.each i other below there))
          (λ (not_below : at ≤ i). ⊎_elim
          (λ (same : i ≡ at).
          let one : layer ≡ other = same_Some layer other (sym here ∙ ap (slice_get layers) (sym same) ∙ there) in
          let Q : Layer → Type 0 = λ l. Found l id (Some pos) in
          let R : ℕ → Type 0 = λ n. Found other id (answers_by layers id at pos n) in
          subst R (sym same) (subst P (sym (there-at layers id at pos)) (subst Q one found)))
          (λ (apart : i ≡ at → ⊥). subst P (sym (above-at layers id at pos i other (omega arith) there)) (found-scan other id))
          (cases_eq i at))
          (cases_lt i at));
      first = sym (first_answer-at layers listed at pos (omega arith) (value at within ∙ there-at layers id at pos)
          (λ k h. value k (omega arith) ∙ below-at layers id at pos k h));
    }

-- no layer finds it
pub found_in-none : (layers : List Layer) (id : List ℕ) (count : ℕ) → IsMissed layers id count → length layers ≤ count
    → FoundIn layers id None
found_in-none layers id count missed long =
    let answer : ℕ → Option ℕ = λ _. None in
    let all = length layers in
    let listed = map answer (range_with_len 0 all) in
    let counted : length listed ≡ all = length-map-range_with_len answer 0 all in
    let value : (i : ℕ) → i < all → answer_at listed i ≡ None = λ i h.
    answer_at-is listed i None (get-map-range answer 0 all i h) in
    record {
      answers = listed;
      one_each = counted;
      each = λ i other there.
          let inside : i < all = slice_get_within layers i other there in
          let P : Option ℕ → Type 0 = λ o. Found other id o in
          subst P (sym (value i inside)) (missed.each i other (omega arith) there);
      first = sym (first_answer-none layers listed (λ k h. value k (omega arith)));
    }

pub found_in-counted : (layers : List Layer) (id : List ℕ) (at before pos : ℕ) (layer : Layer) → before ≡ start layers at
    → IsMissed layers id at → slice_get layers at ≡ Some layer → Found layer id (Some pos)
    → FoundIn layers id (Some (before + pos))
found_in-counted layers id at before pos layer counted missed here found =
    let P : ℕ → Type 0 = λ n. FoundIn layers id (Some (n + pos)) in
    subst P (sym counted) (found_in-at layers id at pos layer missed here found)
