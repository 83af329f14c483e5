-- The corrected dates of a graph with a new layer on top can be read, and nothing refuses them.
use Rattle.std.proofs.Common.{◌≡◌, ℕ, ◌+◌, ◌*◌, ◌%◌, ◌^◌, ◌<◌, ◌≤◌, Bool, false, List, [], ◌∷◌, ◌++◌, length, All, get_or}
use Rattle.std.proofs.Common.{slice_get}
use Rattle.std.proofs.Common.{Option, Some, None, not, option_map, refl, sym, ap, ◌∙◌, ⊎_elim, arith}
use Rattle.std.specs.Prelude.{is_none, codes, unwrap_or}
use Rattle.std.specs.Option.{option_and_then}
use Rattle.std.proofs.Math.Nat.{mul-mod_right}
use Rattle.std.proofs.lemmas.Bool.{cases_lt, eq-eqb, lt-ltb}
use Rattle.std.proofs.lemmas.List.{length-map, length_push}
use Rattle.std.proofs.lemmas.List.FromFn.{get_or-map-range_with_len}
use Rattle.gix_chunk_core.specs.FirstFault.{◌when◌, ◌otherwise◌}
use Rattle.gix_chunk_core.proofs.FirstFaultLemmas.{first_below-none_at, first_below-none_from, otherwise-none}
use Rattle.graph_walks.specs.Dates.{number_at, expected_date, AreRight}
use Rattle.graph_format.specs.Format.{Record, chunk_of}
use Rattle.graph_format.specs.Layer.{Layer, IsOpened, bytes_of}
use Rattle.graph_format.specs.OptionalChunks.{offset_of, date_of, stored_dates, offsets_in, overflow_in, times_in, dates_in}
use Rattle.graph_format.specs.Parents.{position_of}
use Rattle.graph_format.specs.StoredHistory.{history_of}
use Rattle.gix_commitgraph.specs.Graph.{start, total}
use Rattle.gix_commitgraph.proofs.history.HistoryLemmas.{length-history}
use Rattle.gix_commitgraph.proofs.layers.LayerListLemmas.{get-front}
use Rattle.graph_chunks.specs.GraphDates.{in_graph, reading_fault, wrong_date, graph_dates_refusal}
use Rattle.graph_chunks.specs.GraphStoredDates.{layer_dates_refusal, times_of, dates_of}
use Rattle.graph_chunks.specs.StoredDates.{date_fault, dates_refusal}
use Rattle.graph_chunks.specs.declared.dates.DatesError.TheVariants as error
use Rattle.graph_chunks.proofs.DateCheckLemmas.{refusal-none}
use Rattle.graph_encoder.specs.Chunks.{unless_empty}
use Rattle.graph_encoder.specs.DateOffsets.{offset_words, large_offsets}
use Rattle.graph_encoder.specs.ExtraEdges.{top_bit}
use Rattle.graph_encoder.specs.Written.{words_bytes, longs_bytes}
use Rattle.graph_encoder.proofs.OffsetLemmas.{length-longs_bytes, length-offset_words, offset_of-written}
use Rattle.graph_encoder.proofs.Pieces.{length-words_bytes}
use Rattle.graph_encoder.proofs.PossibleChunks.{unless_empty-bytes}
use Rattle.graph_writer.proofs.positions.KnownSteps.{get-back}
use Rattle.graph_writer.proofs.layers.TopSteps.{start-front}

-- nothing is refused where no test holds
none-of-two : {E : Type 0} (e f : E) (a b : Bool) → a ≡ false → b ≡ false → (e when a otherwise f when b) ≡ None
none-of-two e f a b h k = rw (h, k) refl

none-of-three : {E : Type 0} (e f : E) (a b : Bool) (o : Option E) → a ≡ false → b ≡ false → o ≡ None
    → (e when a otherwise f when b otherwise o) ≡ None
none-of-three e f a b o h k n = rw (h, k, n) refl

module _ (layer : Layer) (offsets : List ℕ) (sized : length offsets ≡ length layer.records) (few : length offsets < top_bit)
    (fit : All (λ offset. offset < 2 ^ 64) offsets)
    (first : chunk_of (bytes_of layer) (codes "GDA2") ≡ Some (words_bytes (offset_words offsets)))
    (second : chunk_of (bytes_of layer) (codes "GDO2") ≡ unless_empty (longs_bytes (large_offsets offsets)))
    (early : (p : ℕ) → p < length layer.records → number_at (dates_in layer) p < 2 ^ 63) where
  abbrev words : List ℕ
  words = words_bytes (offset_words offsets)

  abbrev longs : List ℕ
  longs = longs_bytes (large_offsets offsets)

  abbrev times : List ℕ
  times = times_in layer

  length-times : length times ≡ length offsets
  length-times = length-map layer.records (λ (r : Record). r.time) ∙ sym sized

  offsets-in : offsets_in layer ≡ words
  offsets-in = ap (λ (o : Option (List ℕ)). unwrap_or o []) first

  overflow-in : overflow_in layer ≡ longs
  overflow-in = ap (λ (o : Option (List ℕ)). unwrap_or o []) second ∙ unless_empty-bytes (longs_bytes (large_offsets offsets))

  date-in : (p : ℕ) → p < length times → number_at (dates_in layer) p ≡ date_of words longs times p
  unfolding dates_in stored_dates
  date-in p lt =
      ap (λ (ws : List ℕ). number_at (stored_dates ws (overflow_in layer) times) p) offsets-in
      ∙ ap (λ (ls : List ℕ). number_at (stored_dates words ls times) p) overflow-in
      ∙ get_or-map-range_with_len (date_of words longs times) 0 (length times) p p 0 lt (omega arith)

  no-fault : (p : ℕ) → p < length times → date_fault words longs times p ≡ None
  no-fault p lt =
      let found : offset_of words longs p ≡ Some (get_or offsets p 0) =
      offset_of-written offsets p (omega (arith, lt, length-times)) few fit in
      let small : date_of words longs times p < 2 ^ 63 =
      omega (arith, date-in p lt, early p (omega (arith, lt, length-times, sized))) in
      none-of-two _ _ _ _ (ap is_none found) (ap not (lt-ltb (date_of words longs times p) (2 ^ 63) small))

  none-by-chunks : dates_refusal words longs times ≡ None
  unfolding dates_refusal
  none-by-chunks =
      none-of-three _ _ _ _ _
      (ap not
      (eq-eqb (length words) (4 * length times)
      (omega (arith, length-words_bytes (offset_words offsets), length-offset_words offsets, length-times))))
      (ap not
      (eq-eqb (length longs % 8) 0
      (ap (λ (n : ℕ). n % 8) (length-longs_bytes (large_offsets offsets))
      ∙ mul-mod_right 8 (length (large_offsets offsets)))))
      (first_below-none_from (date_fault words longs times) (length times) no-fault)

  pub readable : layer_dates_refusal layer ≡ None
  unfolding layer_dates_refusal
  readable =
      ap (λ (ws : List ℕ). dates_refusal ws (overflow_in layer) times) offsets-in
      ∙ ap (λ (ls : List ℕ). dates_refusal words ls times) overflow-in
      ∙ none-by-chunks

module _ (layers : List Layer) (layer : Layer) (none : graph_dates_refusal layers ≡ None)
    (read : layer_dates_refusal layer ≡ None) where
  abbrev all : List Layer
  all = layers ++ layer ∷ []

  reading-below : (i : ℕ) → i < length layers → reading_fault all i ≡ None
  unfolding graph_dates_refusal
  reading-below i before =
      ap (λ (n : ℕ). option_map (in_graph i n) (option_and_then layer_dates_refusal (slice_get all i)))
      (start-front layers layer i (omega (arith, before)))
      ∙ ap (λ (o : Option Layer). option_map (in_graph i (start layers i)) (option_and_then layer_dates_refusal o))
      (get-front layers (layer ∷ []) i before)
      ∙ first_below-none_at (reading_fault layers) i (length layers) (otherwise-none _ _ none).0 before

  reading-top : (i : ℕ) → i ≡ length layers → reading_fault all i ≡ None
  reading-top i last =
      let at : slice_get all i ≡ Some layer =
      ap (slice_get all) (let same : i ≡ length layers + 0 = omega (arith, last) in same)
      ∙ get-back layers (layer ∷ []) 0 in
      ap (λ (o : Option Layer). option_map (in_graph i (start all i)) (option_and_then layer_dates_refusal o)) at
      ∙ ap (option_map (in_graph i (start all i))) read

  pub none-refused : All IsOpened all → AreRight (history_of all) (times_of all) (dates_of all) → graph_dates_refusal all ≡ None
  none-refused opened right =
      refusal-none all (dates_of all) refl
      (first_below-none_from (reading_fault all) (length all)
      (λ i lt.
      ⊎_elim
      (λ (before : i < length layers). reading-below i before)
      (λ (not_before : length layers ≤ i).
      reading-top i (omega (arith, lt, not_before, length_push layers layer)))
      (cases_lt i (length layers))))
      (first_below-none_from (wrong_date (history_of all) (times_of all) (dates_of all)) (total all)
      (λ p lt.
      ap
      (λ (b : Bool).
      error.Date (position_of p) (expected_date (history_of all) (times_of all) (dates_of all) p) when not b)
      (eq-eqb (number_at (dates_of all) p) (expected_date (history_of all) (times_of all) (dates_of all) p)
      (right.expected p (omega (arith, lt, length-history all opened))))))
