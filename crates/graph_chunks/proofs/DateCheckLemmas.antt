-- the check of the dates of a graph
use Rattle.std.proofs.Common.{◌≡◌, ◌==◌, ℕ, ◌+◌, ◌<◌, not, max, Bool, true, false, List, map, length, All}
use Rattle.std.proofs.Common.{Option, Some, None, option_map, get_or, slice_get, refl, sym, ap, subst, ◌∙◌, arith}
use Rattle.std.specs.Option.{option_or}
use Rattle.std.proofs.lemmas.Bool.{eqb-true}
use Rattle.std.proofs.lemmas.Option.{slice_get-map, slice_get_within, get_or_from_slice_get}
use Rattle.gix_chunk_core.specs.FirstFault.{◌when◌, first_below}
use Rattle.gix_chunk_core.proofs.FirstFaultLemmas.{first_below-none_more, first_below-found, first_below-none_at, then_some-none}
use Rattle.graph_walks.specs.Counts.{greatest}
use Rattle.graph_walks.specs.History.{parents_at}
use Rattle.graph_walks.specs.Dates.{number_at, expected_date, AreRight}
use Rattle.graph_format.specs.Layer.{Layer, IsOpened, record_at}
use Rattle.graph_format.specs.Parents.{position_of, parents_of}
use Rattle.graph_format.specs.StoredHistory.{history_of}
use Rattle.gix_commitgraph.specs.Graph.{graph_commits, start, stop, total}
use Rattle.gix_commitgraph.specs.Sound.{Sound}
use Rattle.gix_commitgraph.proofs.history.HistoryLemmas.{parents-at, length-history}
use Rattle.gix_commitgraph.proofs.history.KnownParentLemmas.{known-decoded, known-within}
use Rattle.gix_commitgraph.proofs.layers.PositionLemmas.{length-graph_commits}
use Rattle.gix_commitgraph.proofs.layers.LayerListLemmas.{graph_commits-counted, start-all, start-more, start-fits}
use Rattle.gix_commitgraph.proofs.layers.LayerStartLemmas.{layer-kept}
use Rattle.graph_layer.specs.Commit.{commit_layer, commit_pos, commit_record, commit_parents}
use Rattle.graph_layer.specs.declared.file.commit.Commit.{Commit}
use Rattle.graph_chunks.specs.GraphStoredDates.{times_of, dates_of}
use Rattle.graph_chunks.specs.GraphDates.{reading_fault, wrong_date, graph_dates_refusal, FollowAllParents}
use Rattle.graph_chunks.specs.declared.dates.DatesError.{DatesError}
use Rattle.graph_chunks.specs.Latest.{latest_of}
use Rattle.graph_chunks.specs.declared.dates.DatesError.TheVariants.{Date}

-- the time of the commit at a position
time-at : (layers : List Layer) (p j : ℕ) (layer : Layer) → slice_get (graph_commits layers) p ≡ Some (layer, j)
    → (record_at layer j).time ≡ number_at (times_of layers) p
unfolding times_of
time-at layers p j layer here =
    let time : (Layer × ℕ) → ℕ = λ c. (record_at c.0 c.1).time in
    let at : slice_get (map time (graph_commits layers)) p ≡ Some (record_at layer j).time =
    slice_get-map time (graph_commits layers) p ∙ ap (option_map time) here in
    sym (get_or_from_slice_get (map time (graph_commits layers)) p (record_at layer j).time 0 at)

-- what is wrong with the date of a commit that was read, whose position of the graph is n
abbrev pub read_fault : List ℕ → ℕ → Commit → Option DatesError
read_fault dates n commit =
    let expected = max (commit_record commit).time (1 + latest_of dates (commit_parents commit)) in
    Date (position_of n) expected when not (number_at dates n == expected)

pub dates-right : (layers : List Layer) (dates : List ℕ) → All IsOpened layers → length dates ≡ total layers
    → first_below (wrong_date (history_of layers) (times_of layers) dates) (total layers) ≡ None
    → AreRight (history_of layers) (times_of layers) dates
dates-right layers dates opened many none =
    let counted = length-history layers opened in
    record {
      as_many = omega arith;
      expected = λ p within.
          let here =
          first_below-none_at (wrong_date (history_of layers) (times_of layers) dates) p (total layers) none (omega arith) in
          eqb-true _ _ (not_false _ (then_some-none _ _ here));
    } where
      not_false : (b : Bool) → not b ≡ false → b ≡ true
      not_false true h = refl
      not_false false h = cc

-- the commit at a place of a layer, before which so many commits stand, at its position of the graph
pub record IsPlace (layers : List Layer) (before place : ℕ) (layer : Layer) : Type 0 where
  pub commit : slice_get (graph_commits layers) (before + place) ≡ Some (layer, place)
  pub below : before + place < total layers

pub is_place : (layers files : List Layer) (i before place : ℕ) (layer : Layer) → files ≡ layers → i < length layers
    → before ≡ start layers i → layer ≡ get_or files i layer → place < length layer.ids → IsPlace layers before place layer
is_place layers files i before place layer same within counted is inside =
    let here = layer-kept layers files i layer same within is in
    record {
      commit = graph_commits-counted layers i before place layer counted here inside;
      below = omega (arith, counted, inside, start-more layers i layer here, start-fits layers (i + 1));
    }

-- no fault in all layers is none in the graph
pub none_found : (layers : List Layer) (dates : List ℕ) (n : ℕ) → n ≡ length layers
    → first_below (wrong_date (history_of layers) (times_of layers) dates) (start layers n) ≡ None
    → first_below (wrong_date (history_of layers) (times_of layers) dates) (total layers) ≡ None
none_found layers dates n all =
    subst (λ (end : ℕ). first_below (wrong_date (history_of layers) (times_of layers) dates) end ≡ None)
    (start-all layers n (omega (arith, all)))

-- the end of a layer is the start of the next one
pub stop-is : (layers files : List Layer) (i before : ℕ) (layer : Layer) → files ≡ layers → i < length layers
    → before ≡ start layers i → layer ≡ get_or files i layer → before + length layer.ids ≡ stop layers i
stop-is layers files i before layer same within counted is =
    omega (arith, counted, start-more layers i layer (layer-kept layers files i layer same within is))

-- the date that is expected of a commit that was read
pub expected-of : (layers : List Layer) (dates : List ℕ) (p place expected : ℕ) (layer : Layer) (commit : Commit)
    → All IsOpened layers → slice_get (graph_commits layers) p ≡ Some (layer, place) → commit_layer commit ≡ layer
    → commit_pos commit ≡ place
    → expected ≡ max (commit_record commit).time (1 + latest_of dates (commit_parents commit))
    → expected ≡ expected_date (history_of layers) (times_of layers) dates p
unfolding expected_date
expected-of layers dates p place expected layer commit opened there in_layer at is =
    let here : slice_get (graph_commits layers) p ≡ Some (commit_layer commit, commit_pos commit) =
    there ∙ ap (λ (l : Layer). Some (l, place)) (sym in_layer) ∙ ap (λ (n : ℕ). Some (commit_layer commit, n)) (sym at) in
    let time = time-at layers p (commit_pos commit) (commit_layer commit) here in
    let told = parents-at layers p (commit_pos commit) (commit_layer commit) opened here in
    let latest = ap (λ (ps : List ℕ). greatest (map (number_at dates) ps)) told in
    omega (arith, is, time, latest)

-- what is wrong with the date of the commit at a place is what the graph says of it
fault-at : (layers : List Layer) (dates : List ℕ) (before place n : ℕ) (layer : Layer) (commit : Commit) → All IsOpened layers
    → IsPlace layers before place layer → commit_layer commit ≡ layer → commit_pos commit ≡ place → n ≡ before + place
    → read_fault dates n commit ≡ wrong_date (history_of layers) (times_of layers) dates (before + place)
fault-at layers dates before place n layer commit opened there in_layer at is =
    let expected = max (commit_record commit).time (1 + latest_of dates (commit_parents commit)) in
    ap (λ (p : ℕ). read_fault dates p commit) is
    ∙ ap (λ (d : ℕ). Date (position_of (before + place)) d when not (number_at dates (before + place) == d))
    (expected-of layers dates (before + place) place expected layer commit opened there.commit in_layer at refl)

pub date-fine : (layers : List Layer) (dates : List ℕ) (before place n : ℕ) (layer : Layer) (commit : Commit)
    → All IsOpened layers → IsPlace layers before place layer → commit_layer commit ≡ layer → commit_pos commit ≡ place
    → n ≡ before + place → first_below (wrong_date (history_of layers) (times_of layers) dates) (before + place) ≡ None
    → read_fault dates n commit ≡ None
    → first_below (wrong_date (history_of layers) (times_of layers) dates) (before + (place + 1)) ≡ None
date-fine layers dates before place n layer commit opened there in_layer at is none fine =
    let fault = wrong_date (history_of layers) (times_of layers) dates in
    let next : before + place + 1 ≡ before + (place + 1) = omega arith in
    subst (λ (m : ℕ). first_below fault m ≡ None) next
    (first_below-none_more fault (before + place) none
    (sym (fault-at layers dates before place n layer commit opened there in_layer at is) ∙ fine))

pub date-found : (layers : List Layer) (dates : List ℕ) (before place n : ℕ) (layer : Layer) (commit : Commit)
    (error : DatesError) → All IsOpened layers → IsPlace layers before place layer → commit_layer commit ≡ layer
    → commit_pos commit ≡ place → n ≡ before + place
    → first_below (wrong_date (history_of layers) (times_of layers) dates) (before + place) ≡ None
    → read_fault dates n commit ≡ Some error
    → first_below (wrong_date (history_of layers) (times_of layers) dates) (total layers) ≡ Some error
date-found layers dates before place n layer commit error opened there in_layer at is none found =
    first_below-found (wrong_date (history_of layers) (times_of layers) dates) (before + place) (total layers) error none
    (sym (fault-at layers dates before place n layer commit opened there in_layer at is) ∙ found) there.below

-- in a right graph the dates follow from all parents
pub follow-all : (layers : List Layer) (dates : List ℕ) → All IsOpened layers → Sound layers
    → AreRight (history_of layers) (times_of layers) dates → FollowAllParents layers dates
unfolding expected_date
follow-all layers dates opened sound right p j layer here =
    let parents = (parents_of (record_at layer j) layer.edges).positions in
    let told = parents-at layers p j layer opened here in
    let many : total layers ≡ length dates = sym (right.as_many ∙ length-history layers opened) in
    let within : p < length (history_of layers) =
    omega (
      arith,
      slice_get_within (graph_commits layers) p (layer, j) here,
      length-graph_commits layers,
      length-history layers opened,
    ) in
    let time = time-at layers p j layer here in
    let latest = ap (λ (ps : List ℕ). greatest (map (number_at dates) ps)) told in
    record {
      decoded = known-decoded layers p j layer opened sound here;
      dated = subst (λ (ps : List ℕ). All (λ q. q < length dates) ps) told
          (subst (λ (n : ℕ). All (λ q. q < n) (parents_at (history_of layers) p)) many (known-within layers p opened sound));
      follows = omega (arith, right.expected p within, time, latest);
    }

pub refusal-reading : (layers : List Layer) (error : DatesError)
    → first_below (reading_fault layers) (length layers) ≡ Some error → graph_dates_refusal layers ≡ Some error
unfolding graph_dates_refusal
refusal-reading layers error found =
    ap (λ o. option_or o (first_below (wrong_date (history_of layers) (times_of layers) (dates_of layers)) (total layers))) found

pub refusal-date : (layers : List Layer) (dates : List ℕ) (error : DatesError) → dates ≡ dates_of layers
    → first_below (reading_fault layers) (length layers) ≡ None
    → first_below (wrong_date (history_of layers) (times_of layers) dates) (total layers) ≡ Some error
    → graph_dates_refusal layers ≡ Some error
unfolding graph_dates_refusal
refusal-date layers dates error same read found =
    ap (λ o. option_or o (first_below (wrong_date (history_of layers) (times_of layers) (dates_of layers)) (total layers))) read
    ∙ ap (λ (ds : List ℕ). first_below (wrong_date (history_of layers) (times_of layers) ds) (total layers)) (sym same)
    ∙ found

pub refusal-none : (layers : List Layer) (dates : List ℕ) → dates ≡ dates_of layers
    → first_below (reading_fault layers) (length layers) ≡ None
    → first_below (wrong_date (history_of layers) (times_of layers) dates) (total layers) ≡ None
    → graph_dates_refusal layers ≡ None
unfolding graph_dates_refusal
refusal-none layers dates same read none =
    ap (λ o. option_or o (first_below (wrong_date (history_of layers) (times_of layers) (dates_of layers)) (total layers))) read
    ∙ ap (λ (ds : List ℕ). first_below (wrong_date (history_of layers) (times_of layers) ds) (total layers)) (sym same)
    ∙ none

pub ruleset refusal_laws = (refusal-reading, refusal-date, refusal-none)
