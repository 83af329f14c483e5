-- A graph of one layer: its commits, its times and its dates are those of the layer.
use Rattle.std.proofs.Common.{◌≡◌, ℕ, zero, suc, ◌<◌, List, [], ◌∷◌, ◌++◌, map, length, take, drop, slice_get}
use Rattle.std.proofs.Common.{Option, Some, None, option_map}
use Rattle.std.proofs.Common.{refl, sym, ap, ◌∙◌, arith, subst}
use Rattle.std.specs.Prelude.{All, unwrap_or}
use Rattle.std.proofs.lemmas.List.{append-nil, ext_get_or, length-map, take-append-drop}
use Rattle.std.proofs.lemmas.List.Elements.{All-cons, All-nil}
use Rattle.std.proofs.lemmas.Option.{get_or_from_slice_get, none-some, slice_get-map}
use Rattle.graph_chunks.specs.GraphStoredDates.{times_of, dates_of}
use Rattle.graph_encoder.proofs.GitLayout.{there}
use Rattle.graph_format.specs.Faults.{id_at}
use Rattle.graph_format.specs.Format.{Record, table_of}
use Rattle.graph_format.specs.Layer.{Layer, IsLayer, IsOpened, bytes_of, no_record, record_at}
use Rattle.graph_format.specs.Lookup.{scan}
use Rattle.graph_format.specs.OptionalChunks.{dates_in, times_in}
use Rattle.gix_commitgraph.specs.Distinct.{AreDistinct}
use Rattle.gix_commitgraph.specs.Graph.{graph_commits, graph_ids}
use Rattle.gix_commitgraph.specs.GraphLaw.{IsInOrder}
use Rattle.gix_commitgraph.specs.Sound.{Sound}
use Rattle.gix_commitgraph.proofs.layers.LayerListLemmas.{graph_commits-at, start-none}
use Rattle.gix_commitgraph.proofs.layers.PositionLemmas.{length-graph_commits}
use Rattle.gix_commitgraph.proofs.lookup.DistinctLemmas.{AreNew, distinct-from}

pub all_of_one : (P : Layer → Type 0) (layer : Layer) → P layer → All P (layer ∷ [])
all_of_one P layer is = All-cons P layer [] is (All-nil P)

-- the layer of bytes is that of an opened file
pub opened_from : (bytes path : List ℕ) (layer : Layer) → IsLayer bytes path layer → IsOpened layer
opened_from bytes path layer is =
    let whole : bytes ≡ bytes_of layer =
    sym (take-append-drop (table_of bytes).end bytes)
    ∙ ap (λ (front : List ℕ). front ++ drop (table_of bytes).end bytes) (sym is.body)
    ∙ ap (λ (rest : List ℕ). layer.body ++ rest) (sym is.checksum) in
    subst (λ (p : List ℕ). IsLayer (bytes_of layer) p layer) (sym is.origin)
    (subst (λ (b : List ℕ). IsLayer b path layer) whole is)

-- nothing stands before a layer alone
new_alone : (layer : Layer) → AreNew (layer ∷ [])
unfolding scan
new_alone layer = record { each = none }
  where
    none : (i : ℕ) (l : Layer) → slice_get (layer ∷ []) i ≡ Some l → (pos : ℕ) → pos < length l.ids
        → scan (graph_ids (take i (layer ∷ []))) (id_at l pos) ≡ None
    none zero l here pos within = refl
    none (suc i) l here pos within = absurd (none-some l here)

-- ids that ascend are distinct
pub distinct_alone : (layer : Layer) → Sound (layer ∷ []) → AreDistinct (layer ∷ [])
distinct_alone layer sound =
    let right = sound.rules.each 0 layer (omega arith) in
    distinct-from (layer ∷ []) (all_of_one IsInOrder layer (right.ascending, right.fan)) (new_alone layer)

module _ (layer : Layer) (counted : length layer.records ≡ length layer.ids) where
  pub commit_alone : (p : ℕ) → p < length layer.ids → slice_get (graph_commits (layer ∷ [])) p ≡ Some (layer, p)
  commit_alone p within =
      ap (slice_get (graph_commits (layer ∷ []))) (omega (arith, start-none (layer ∷ [])))
      ∙ graph_commits-at (layer ∷ []) 0 p layer refl within

  pub record_there : (p : ℕ) (r : Record) → slice_get layer.records p ≡ Some r → record_at layer p ≡ r
  unfolding record_at
  record_there p r here = ap (λ (o : Option Record). unwrap_or o no_record) here

  pub times_alone : times_of (layer ∷ []) ≡ times_in layer
  unfolding times_of
  times_alone =
      let time_of : Layer × ℕ → ℕ = λ place. (record_at place.0 place.1).time in
      let commits = graph_commits (layer ∷ []) in
      let size : length commits ≡ length layer.ids = length-graph_commits (layer ∷ []) ∙ omega arith in
      ext_get_or 0 (map time_of commits) (times_in layer)
      (length-map commits time_of ∙ size ∙ sym counted ∙ sym (length-map layer.records (λ (r : Record). r.time)))
      (λ p lt.
      let within : p < length layer.ids = omega (arith, lt, length-map commits time_of, size) in
      let r = there layer.records p (omega (arith, within, counted)) in
      get_or_from_slice_get (map time_of commits) p (record_at layer p).time 0
      (slice_get-map time_of commits p ∙ ap (option_map time_of) (commit_alone p within))
      ∙ ap (λ (x : Record). x.time) (record_there p r.0 r.1)
      ∙ sym
      (get_or_from_slice_get (times_in layer) p r.0.time 0
      (slice_get-map (λ (x : Record). x.time) layer.records p ∙ ap (option_map (λ (x : Record). x.time)) r.1)))

pub dates_alone : (layer : Layer) → dates_of (layer ∷ []) ≡ dates_in layer
unfolding dates_of
dates_alone layer = append-nil (dates_in layer)
