-- Two files that are laid out so and match one stream are the same bytes.
use Rattle.std.proofs.Common.{◌≡◌, ℕ, ◌+◌, ◌<◌, List, [], ◌∷◌, map, length, slice_get, Option, Some, None, option_map}
use Rattle.std.proofs.Common.{refl, sym, ap, ◌∙◌, arith, subst}
use Rattle.std.specs.Prelude.{All, IfSome, MatchOption, slice_index}
use Rattle.std.specs.List.{zip}
use Rattle.std.proofs.lemmas.List.{append-nil, ext_get_or, length-map, same_lists}
use Rattle.std.proofs.lemmas.Option.{get_or_from_slice_get, same_Some, slice_get-map, slice_get_within}
use Rattle.graph_chunks.specs.GraphStoredDates.{times_of, dates_of}
use Rattle.graph_encoder.specs.DateOffsets.{offsets_of}
use Rattle.graph_encoder.specs.Plan.{IsPlan, AreOffsets}
use Rattle.graph_encoder.specs.Said.{SaysCommit, SaysPlan, planned_parents}
use Rattle.graph_encoder.specs.SamePlans.{said_commit}
use Rattle.graph_encoder.specs.Written.{ids_of, planned_file}
use Rattle.graph_encoder.specs.declared.plan.FilePlan.{FilePlan}
use Rattle.graph_encoder.specs.declared.plan.PlanCommit.{PlanCommit}
use Rattle.graph_encoder.proofs.GitLayout.{laid-again, some-and, there}
use Rattle.graph_encoder.proofs.LaidOut.{laid-out}
use Rattle.graph_encoder.proofs.PlannedLayer.{planned_file-read}
use Rattle.graph_encoder.proofs.SamePlans.{same-file-by}
use Rattle.graph_format.specs.Format.{Record}
use Rattle.graph_format.specs.Layer.{Layer, IsOpened, record_at}
use Rattle.graph_format.specs.OptionalChunks.{HasDates, dates_in, times_in}
use Rattle.graph_format.specs.Parents.{DecodedParents}
use Rattle.graph_format.specs.StoredHistory.{history_of}
use Rattle.graph_format.specs.declared.Position.{Position}
use Rattle.graph_walks.specs.Dates.{AreRight}
use Rattle.graph_walks.specs.History.{generation_at, parents_at}
use Rattle.graph_walks.proofs.DateLemmas.{one_list}
use Rattle.gix_commitgraph.specs.Graph.{total}
use Rattle.gix_commitgraph.proofs.history.HistoryLemmas.{generation-at, parents-at}
use Rattle.graph_objects.specs.OneGraph.{HaveTheSameCommits, IsOneGraph}
use Rattle.graph_objects.specs.Stream.{IsStreamOf}
use Rattle.graph_objects.proofs.SameCommitLemmas.{one_stream}
use Rattle.graph_objects.proofs.SameGraphLemmas.{one_graph}
use Rattle.graph_laws.specs.OneFile.{AgreeBesides, IsLaidOut, IsRightAlone}
use Rattle.graph_laws.proofs.OneLayerLemmas.{all_of_one, commit_alone, dates_alone, distinct_alone, opened_from, record_there}
use Rattle.graph_laws.proofs.OneLayerLemmas.{times_alone}

positions_of : (positions : List ℕ) → map (λ (pos : Position). pos.0) (planned_parents positions).positions ≡ positions
positions_of [] = refl
positions_of (p ∷ positions) = ap (λ (ps : List ℕ). p ∷ ps) (positions_of positions)

-- offsets follow from the times and the dates
same_offsets : (times one other : List ℕ) → length one ≡ length times → length other ≡ length times
    → map (λ (pair : ℕ × ℕ). pair.0 + pair.1) (zip times one) ≡ map (λ (pair : ℕ × ℕ). pair.0 + pair.1) (zip times other)
    → one ≡ other
same_offsets [] [] [] size also same = refl
same_offsets [] (a ∷ one) other size also same = absurd (omega (arith, size))
same_offsets [] [] (b ∷ other) size also same = absurd (omega (arith, also))
same_offsets (t ∷ times) [] other size also same = absurd (omega (arith, size))
same_offsets (t ∷ times) (a ∷ one) [] size also same = absurd (omega (arith, also))
same_offsets (t ∷ times) (a ∷ one) (b ∷ other) size also same =
    let first : t + a ≡ t + b = cc in
    let rest : map (λ (pair : ℕ × ℕ). pair.0 + pair.1) (zip times one)
    ≡ map (λ (pair : ℕ × ℕ). pair.0 + pair.1) (zip times other) = cc in
    let equal : a ≡ b = omega (arith, first) in
    ap (λ (n : ℕ). n ∷ one) equal
    ∙ ap (λ (ns : List ℕ). b ∷ ns) (same_offsets times one other (omega (arith, size)) (omega (arith, also)) rest)

-- what one layer of a graph alone, and its plan, say of a commit
module _ (layer : Layer) (plan : FilePlan) (opened : IsOpened layer) (says : SaysPlan plan layer) where
  counted : length layer.records ≡ length layer.ids
  counted =
      says.count ∙ sym (length-map plan.commits.items (λ (c : PlanCommit). c.id)) ∙ ap length (sym says.ids)

  id_said : (p : ℕ) (c : PlanCommit) → slice_get plan.commits.items p ≡ Some c → slice_get layer.ids p ≡ Some c.id
  id_said p c here =
      ap (λ (ids : List (List ℕ)). slice_get ids p) says.ids
      ∙ slice_get-map (λ (x : PlanCommit). x.id) plan.commits.items p
      ∙ ap (option_map (λ (x : PlanCommit). x.id)) here

  record_said : (p : ℕ) (c : PlanCommit) → slice_get plan.commits.items p ≡ Some c
      → (index : ℕ) × SaysCommit layer.edges index c (record_at layer p)
  record_said p c here =
      let found = some-and _ _ (says.commits p c here) in
      let same : record_at layer p ≡ found.0 = record_there layer counted p found.0 found.1 in
      (_, subst (SaysCommit layer.edges _ c) (sym same) found.2)

  generation_said : (p : ℕ) (c : PlanCommit) → slice_get plan.commits.items p ≡ Some c
      → generation_at (history_of (layer ∷ [])) p ≡ c.generation
  generation_said p c here =
      let at = commit_alone layer counted p (slice_get_within layer.ids p c.id (id_said p c here)) in
      generation-at (layer ∷ []) p p layer (all_of_one IsOpened layer opened) at ∙ (record_said p c here).1.generation

  parents_said : (p : ℕ) (c : PlanCommit) → slice_get plan.commits.items p ≡ Some c
      → parents_at (history_of (layer ∷ [])) p ≡ c.parents.items
  parents_said p c here =
      let at = commit_alone layer counted p (slice_get_within layer.ids p c.id (id_said p c here)) in
      parents-at (layer ∷ []) p p layer (all_of_one IsOpened layer opened) at
      ∙ ap (λ (d : DecodedParents). map (λ (pos : Position). pos.0) d.positions) (record_said p c here).1.parents
      ∙ positions_of c.parents.items

  time_said : (p : ℕ) (c : PlanCommit) → slice_get plan.commits.items p ≡ Some c → slice_get (times_in layer) p ≡ Some c.time
  time_said p c here =
      let found = some-and _ _ (says.commits p c here) in
      slice_get-map (λ (r : Record). r.time) layer.records p
      ∙ ap (option_map (λ (r : Record). r.time)) found.1
      ∙ ap (λ (n : ℕ). Some n) found.2.time

module _ (layer also : Layer) (plan too : FilePlan) (opened : IsOpened layer) (also_opened : IsOpened also)
    (fits : IsPlan plan) (too_fits : IsPlan too) (says : SaysPlan plan layer) (too_says : SaysPlan too also)
    (right : IsRightAlone layer) (also_right : IsRightAlone also) (agree : AgreeBesides layer also)
    (commits : HaveTheSameCommits (layer ∷ []) (also ∷ [])) (graph : IsOneGraph (layer ∷ []) (also ∷ [])) where
  same_ids : layer.ids ≡ also.ids
  same_ids = sym (append-nil layer.ids) ∙ graph.ids ∙ append-nil also.ids

  same_size : length plan.commits.items ≡ length too.commits.items
  same_size = sym says.count ∙ counted layer plan opened says ∙ ap length same_ids
      ∙ sym (counted also too also_opened too_says) ∙ too_says.count

  same_commit : (p : ℕ) (c d : PlanCommit) → slice_get plan.commits.items p ≡ Some c → slice_get too.commits.items p ≡ Some d
      → said_commit c ≡ said_commit d
  same_commit p c d here likewise =
      let mine = id_said layer plan opened says p c here in
      let theirs = id_said also too also_opened too_says p d likewise in
      let id : c.id ≡ d.id =
      same_Some c.id d.id (sym mine ∙ ap (λ (ids : List (List ℕ)). slice_get ids p) same_ids ∙ theirs) in
      let generation : c.generation ≡ d.generation =
      sym (generation_said layer plan opened says p c here)
      ∙ ap (λ h. generation_at h p) graph.history
      ∙ generation_said also too also_opened too_says p d likewise in
      let parents : c.parents.items ≡ d.parents.items =
      sym (parents_said layer plan opened says p c here)
      ∙ ap (λ h. parents_at h p) graph.history
      ∙ parents_said also too also_opened too_says p d likewise in
      let time : c.time ≡ d.time =
      same_Some c.time d.time
      (sym (time_said layer plan opened says p c here)
      ∙ ap (λ (ts : List ℕ). slice_get ts p) agree.times
      ∙ time_said also too also_opened too_says p d likewise) in
      let within : p < length layer.ids = slice_get_within layer.ids p c.id mine in
      let at = commit_alone layer (counted layer plan opened says) p within in
      let at_too = commit_alone also (counted also too also_opened too_says) p (slice_get_within also.ids p d.id theirs) in
      let tree_of : Layer × ℕ → List ℕ = λ place. (record_at place.0 place.1).tree in
      let trees = (commits.each p (omega (arith, within))).tree in
      let tree : c.tree ≡ d.tree =
      sym (record_said layer plan opened says p c here).1.tree
      ∙ same_Some _ _ (sym (ap (option_map tree_of) at) ∙ trees ∙ ap (option_map tree_of) at_too)
      ∙ (record_said also too also_opened too_says p d likewise).1.tree in
      rw (id, tree, parents, generation, time) refl

  same_commits : map said_commit plan.commits.items ≡ map said_commit too.commits.items
  same_commits =
      same_lists (map said_commit plan.commits.items) (map said_commit too.commits.items)
      (length-map plan.commits.items said_commit ∙ same_size ∙ sym (length-map too.commits.items said_commit))
      (λ p x lt.
      let within : p < length plan.commits.items = omega (arith, lt, length-map plan.commits.items said_commit) in
      let c = there plan.commits.items p within in
      let d = there too.commits.items p (omega (arith, within, same_size)) in
      get_or_from_slice_get (map said_commit plan.commits.items) p (said_commit c.0) x
      (slice_get-map said_commit plan.commits.items p ∙ ap (option_map said_commit) c.1)
      ∙ same_commit p c.0 d.0 c.1 d.1
      ∙ sym
      (get_or_from_slice_get (map said_commit too.commits.items) p (said_commit d.0) x
      (slice_get-map said_commit too.commits.items p ∙ ap (option_map said_commit) d.1)))

  same_dates : HasDates layer → HasDates also → dates_in layer ≡ dates_in also
  same_dates has has_too =
      let times : times_of (also ∷ []) ≡ times_of (layer ∷ []) =
      times_alone also (counted also too also_opened too_says) ∙ sym agree.times
      ∙ sym (times_alone layer (counted layer plan opened says)) in
      let mine = right.dates has in
      let theirs = also_right.dates has_too in
      let moved : AreRight (history_of (layer ∷ [])) (times_of (layer ∷ [])) (dates_of (also ∷ [])) =
      subst (λ ts. AreRight (history_of (layer ∷ [])) ts (dates_of (also ∷ []))) times
      (subst (λ h. AreRight h (times_of (also ∷ [])) (dates_of (also ∷ []))) (sym graph.history) theirs) in
      let all : dates_of (layer ∷ []) ≡ dates_of (also ∷ []) =
      ext_get_or 0 (dates_of (layer ∷ [])) (dates_of (also ∷ [])) (mine.as_many ∙ sym moved.as_many)
      (λ p lt. one_list (history_of (layer ∷ [])) (times_of (layer ∷ [])) (dates_of (layer ∷ [])) (dates_of (also ∷ [])) p mine
      moved) in
      sym (dates_alone layer) ∙ all ∙ dates_alone also

  same_offsets_of : (one two : Option (List ℕ)) → IfSome one (AreOffsets (length plan.commits.items))
      → IfSome two (AreOffsets (length too.commits.items))
      → MatchOption one (HasDates layer → ⊥) (λ offsets.
      HasDates layer × (dates_in layer ≡ map (λ pair. pair.0 + pair.1) (zip (times_in layer) offsets)))
      → MatchOption two (HasDates also → ⊥) (λ offsets.
      HasDates also × (dates_in also ≡ map (λ pair. pair.0 + pair.1) (zip (times_in also) offsets)))
      → one ≡ two
  same_offsets_of None None fit fits_too said told = refl
  same_offsets_of None (Some two) fit fits_too said told = absurd (said (agree.dated.1 told.0))
  same_offsets_of (Some one) None fit fits_too said told = absurd (told (agree.dated.0 said.0))
  same_offsets_of (Some one) (Some two) fit fits_too said told =
      let times : length (times_in layer) ≡ length plan.commits.items =
      length-map layer.records (λ (r : Record). r.time) ∙ says.count in
      let theirs : dates_in also ≡ map (λ (pair : ℕ × ℕ). pair.0 + pair.1) (zip (times_in layer) two) =
      told.1 ∙ ap (λ (ts : List ℕ). map (λ (pair : ℕ × ℕ). pair.0 + pair.1) (zip ts two)) (sym agree.times) in
      ap (λ (offsets : List ℕ). Some offsets)
      (same_offsets (times_in layer) one two (fit.count ∙ sym times) (fits_too.count ∙ sym same_size ∙ sym times)
      (sym said.1 ∙ same_dates said.0 told.0 ∙ theirs))

  same_bases : plan.bases.items ≡ too.bases.items
  same_bases =
      sym says.bases ∙ right.sound.rules.bases 0 layer refl ∙ sym (also_right.sound.rules.bases 0 also refl) ∙ too_says.bases

  pub same_planned : planned_file plan ≡ planned_file too
  same_planned =
      same-file-by plan too (sym says.kind ∙ agree.kind ∙ too_says.kind) same_bases same_commits
      (same_offsets_of (offsets_of plan) (offsets_of too) fits.offsets too_fits.offsets says.dates too_says.dates)
      (sym says.index ∙ agree.index ∙ too_says.index) (sym says.filters ∙ agree.filters ∙ too_says.filters)

pub one_file : (file path other other_path bytes : List ℕ) (layer other_layer : Layer) → IsLaidOut file path layer
    → IsLaidOut other other_path other_layer → IsRightAlone layer → IsRightAlone other_layer → AgreeBesides layer other_layer
    → IsStreamOf (layer ∷ []) 0 (total (layer ∷ [])) bytes
    → IsStreamOf (other_layer ∷ []) 0 (total (other_layer ∷ [])) bytes → file ≡ other
one_file file path other other_path bytes layer also laid laid_too right also_right agree first second =
    let opened = opened_from file path layer laid.read in
    let also_opened = opened_from other other_path also laid_too.read in
    let alike : All (λ l. l.kind ≡ layer.kind) (layer ∷ []) = all_of_one (λ l. l.kind ≡ layer.kind) layer refl in
    let also_alike : All (λ l. l.kind ≡ layer.kind) (also ∷ []) =
    all_of_one (λ l. l.kind ≡ layer.kind) also (sym agree.kind) in
    let commits = one_stream (layer ∷ []) (also ∷ []) layer.kind alike also_alike bytes first second in
    let graph =
    one_graph (layer ∷ []) (also ∷ []) layer.kind bytes (all_of_one IsOpened layer opened)
    (all_of_one IsOpened also also_opened) alike also_alike (distinct_alone layer right.sound) first second right.sound
    also_right.sound in
    laid-again file path layer laid.plan laid.read laid.layout laid.says
    ∙ same_planned layer also laid.plan laid_too.plan opened also_opened laid.fits laid_too.fits laid.says laid_too.says right
    also_right agree commits graph
    ∙ sym (laid-again other other_path also laid_too.plan laid_too.read laid_too.layout laid_too.says)

-- the file of a plan is laid out so
pub planned : (plan : FilePlan) (path : List ℕ) → IsPlan plan → All (λ id. slice_index id 0 < 256) (ids_of plan.commits.items)
    → ((i : ℕ) → slice_index (planned_file plan) i < 256) → (layer : Layer) × IsLaidOut (planned_file plan) path layer
planned plan path fits ids bytes =
    let read = planned_file-read plan path fits ids in (
      read.0,
      record {
        read = read.1;
        layout = laid-out plan path read.0 fits ids bytes read.1;
        plan = plan;
        fits = fits;
        says = read.2;
      },
    )
