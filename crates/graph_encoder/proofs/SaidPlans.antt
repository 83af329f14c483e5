-- A file that is that of a plan is that of each plan that its layer says.
use Rattle.std.proofs.Common.{◌≡◌, ℕ, ◌+◌, ◌<◌, List, [], ◌∷◌, map, length, slice_get, slice_index, All, Option, Some, None, refl}
use Rattle.std.proofs.Common.{option_map}
use Rattle.std.proofs.Common.{IsSomeAnd, sym, ap, ◌∙◌, subst, arith}
use Rattle.std.specs.Prelude.{IfSome, MatchOption}
use Rattle.std.specs.List.{zip}
use Rattle.std.proofs.lemmas.List.{length-map, same_lists}
use Rattle.std.proofs.lemmas.Option.{slice_get-map, slice_get-get_or, get_or_from_slice_get, same_Some}
use Rattle.graph_format.specs.Format.{Record}
use Rattle.graph_format.specs.Layer.{Layer, IsLayer}
use Rattle.graph_format.specs.OptionalChunks.{HasDates, times_in, dates_in}
use Rattle.graph_format.specs.Parents.{DecodedParents}
use Rattle.graph_format.specs.declared.Position.{Position}
use Rattle.graph_format.proofs.DecidedFileLemmas.{only}
use Rattle.graph_encoder.specs.DateOffsets.{offsets_of}
use Rattle.graph_encoder.specs.Plan.{IsPlan, AreOffsets}
use Rattle.graph_encoder.specs.Said.{SaysPlan, SaysCommit, planned_parents}
use Rattle.graph_encoder.specs.SamePlans.{said_commit}
use Rattle.graph_encoder.specs.Written.{ids_of, planned_file}
use Rattle.graph_encoder.specs.declared.plan.FilePlan.{FilePlan}
use Rattle.graph_encoder.specs.declared.plan.PlanCommit.{PlanCommit}
use Rattle.graph_encoder.proofs.PlannedLayer.{planned_file-read}
use Rattle.graph_encoder.proofs.SamePlans.{same-file-by}

positions-of : (positions : List ℕ) → map (λ (pos : Position). pos.0) (planned_parents positions).positions ≡ positions
positions-of [] = refl
positions-of (p ∷ positions) = ap (λ (ps : List ℕ). p ∷ ps) (positions-of positions)

-- offsets follow from the times and the dates
same-offsets : (times one other : List ℕ) → length one ≡ length times → length other ≡ length times
    → map (λ (pair : ℕ × ℕ). pair.0 + pair.1) (zip times one) ≡ map (λ (pair : ℕ × ℕ). pair.0 + pair.1) (zip times other)
    → one ≡ other
same-offsets [] [] [] size also same = refl
same-offsets [] (a ∷ one) other size also same = absurd (omega (arith, size))
same-offsets [] [] (b ∷ other) size also same = absurd (omega (arith, also))
same-offsets (t ∷ times) [] other size also same = absurd (omega (arith, size))
same-offsets (t ∷ times) (a ∷ one) [] size also same = absurd (omega (arith, also))
same-offsets (t ∷ times) (a ∷ one) (b ∷ other) size also same =
    let first : t + a ≡ t + b = cc in
    let rest : map (λ (pair : ℕ × ℕ). pair.0 + pair.1) (zip times one)
    ≡ map (λ (pair : ℕ × ℕ). pair.0 + pair.1) (zip times other) = cc in
    let equal : a ≡ b = omega (arith, first) in
    ap (λ (n : ℕ). n ∷ one) equal
    ∙ ap (λ (ns : List ℕ). b ∷ ns) (same-offsets times one other (omega (arith, size)) (omega (arith, also)) rest)

module _ (layer : Layer) (plan other : FilePlan) (is_plan : IsPlan plan) (is_other : IsPlan other)
    (says : SaysPlan plan layer) (also : SaysPlan other layer) where
  same-size : length plan.commits.items ≡ length other.commits.items
  same-size = sym says.count ∙ also.count

  there : (xs : List PlanCommit) (p : ℕ) → p < length xs → (c : PlanCommit) × (slice_get xs p ≡ Some c)
  there [] p lt = absurd (omega (arith, lt))
  there (c ∷ xs) p lt = (_, slice_get-get_or (c ∷ xs) p c lt)

  same-commit : (p : ℕ) (c d : PlanCommit) → slice_get plan.commits.items p ≡ Some c → slice_get other.commits.items p ≡ Some d
      → said_commit c ≡ said_commit d
  same-commit p c d here likewise =
      by-record _ _ (slice_get layer.records p) (says.commits p c here) (also.commits p d likewise)
    where
      id : c.id ≡ d.id
      id =
          same_Some c.id d.id
          (sym
          (slice_get-map (λ (x : PlanCommit). x.id) plan.commits.items p
          ∙ ap (option_map (λ (x : PlanCommit). x.id)) here)
          ∙ ap (λ (ids : List (List ℕ)). slice_get ids p) (sym says.ids ∙ also.ids)
          ∙ slice_get-map (λ (x : PlanCommit). x.id) other.commits.items p
          ∙ ap (option_map (λ (x : PlanCommit). x.id)) likewise)

      by-record : (i j : ℕ) (o : Option Record) → IsSomeAnd o (SaysCommit layer.edges i c)
          → IsSomeAnd o (SaysCommit layer.edges j d) → said_commit c ≡ said_commit d
      by-record i j None one two = absurd one
      by-record i j (Some r) one two =
          let tree : c.tree ≡ d.tree = sym one.tree ∙ two.tree in
          let decoded : planned_parents c.parents.items ≡ planned_parents d.parents.items = sym one.parents ∙ two.parents in
          let parents : c.parents.items ≡ d.parents.items =
          sym (positions-of c.parents.items)
          ∙ ap (λ (x : DecodedParents). map (λ (pos : Position). pos.0) x.positions) decoded
          ∙ positions-of d.parents.items in
          let generation : c.generation ≡ d.generation = sym one.generation ∙ two.generation in
          let time : c.time ≡ d.time = sym one.time ∙ two.time in
          rw (id, tree, parents, generation, time) refl

  same-commits : map said_commit plan.commits.items ≡ map said_commit other.commits.items
  same-commits =
      same_lists (map said_commit plan.commits.items) (map said_commit other.commits.items)
      (length-map plan.commits.items said_commit ∙ same-size ∙ sym (length-map other.commits.items said_commit))
      (λ p x lt.
      let within : p < length plan.commits.items = omega (arith, lt, length-map plan.commits.items said_commit) in
      let c = there plan.commits.items p within in
      let d = there other.commits.items p (omega (arith, within, same-size)) in
      get_or_from_slice_get (map said_commit plan.commits.items) p (said_commit c.0) x
      (slice_get-map said_commit plan.commits.items p ∙ ap (option_map said_commit) c.1)
      ∙ same-commit p c.0 d.0 c.1 d.1
      ∙ sym
      (get_or_from_slice_get (map said_commit other.commits.items) p (said_commit d.0) x
      (slice_get-map said_commit other.commits.items p ∙ ap (option_map said_commit) d.1)))

  same-dates : (one two : Option (List ℕ)) → IfSome one (AreOffsets (length plan.commits.items))
      → IfSome two (AreOffsets (length other.commits.items))
      → MatchOption one (HasDates layer → ⊥) (λ offsets.
      HasDates layer × (dates_in layer ≡ map (λ pair. pair.0 + pair.1) (zip (times_in layer) offsets)))
      → MatchOption two (HasDates layer → ⊥) (λ offsets.
      HasDates layer × (dates_in layer ≡ map (λ pair. pair.0 + pair.1) (zip (times_in layer) offsets)))
      → one ≡ two
  same-dates None None fit fits said told = refl
  same-dates None (Some two) fit fits said told = absurd (said told.0)
  same-dates (Some one) None fit fits said told = absurd (told said.0)
  same-dates (Some one) (Some two) fit fits said told =
      let times : length (times_in layer) ≡ length plan.commits.items =
      length-map layer.records (λ (r : Record). r.time) ∙ says.count in
      ap (λ (offsets : List ℕ). Some offsets)
      (same-offsets (times_in layer) one two (fit.count ∙ sym times) (fits.count ∙ sym same-size ∙ sym times)
      (sym said.1 ∙ told.1))

  pub one-file : planned_file plan ≡ planned_file other
  one-file =
      same-file-by plan other (sym says.kind ∙ also.kind) (sym says.bases ∙ also.bases) same-commits
      (same-dates (offsets_of plan) (offsets_of other) is_plan.offsets is_other.offsets says.dates also.dates)
      (sym says.index ∙ also.index) (sym says.filters ∙ also.filters)

pub encoded-again : (path : List ℕ) (layer : Layer) (first plan : FilePlan) → IsPlan first
    → All (λ id. slice_index id 0 < 256) (ids_of first.commits.items) → IsLayer (planned_file first) path layer → IsPlan plan
    → SaysPlan plan layer → planned_file first ≡ planned_file plan
encoded-again path layer first plan fits ids here is_plan says =
    let read = planned_file-read first path fits ids in
    let same : read.0 ≡ layer = only (planned_file first) path read.0 read.1 ∙ sym (only (planned_file first) path layer here) in
    one-file layer first plan fits is_plan (subst (SaysPlan first) same read.2) says
