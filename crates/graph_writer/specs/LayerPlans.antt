-- The plan of a layer: all that its file has, as it follows from the layers below, the commits that are handed in and their
-- filters ("OID Lookup", "Commit Data", "Generation Data", "Bloom Filter Index", "Bloom Filter Data", "Base Graphs List").
use Rattle.std.specs.Prelude.{◌≡◌, ◌+◌, ◌++◌, ℕ, List, [], ◌∷◌, Option, None, Some, IsSomeAnd, MatchOption, All, length, map}
use Rattle.std.specs.Prelude.{slice_get}
use Rattle.std.specs.List.{flat_map, zip}
use Rattle.std.specs.Option.{option_map_or}
use Rattle.graph_chunks.specs.GraphStoredDates.{times_of, dates_of}
use Rattle.graph_encoder.specs.DateOffsets.{offsets_of}
use Rattle.graph_encoder.specs.Written.{ids_of}
use Rattle.graph_encoder.specs.declared.filters.PlanFilters.{PlanFilters}
use Rattle.graph_encoder.specs.declared.plan.FilePlan.{FilePlan}
use Rattle.graph_encoder.specs.declared.plan.PlanCommit.{PlanCommit}
use Rattle.graph_format.specs.Layer.{Layer}
use Rattle.graph_format.specs.Lookup.{scan}
use Rattle.graph_format.specs.OptionalChunks.{HasDates}
use Rattle.graph_format.specs.Order.{AreAscending}
use Rattle.graph_format.specs.StoredHistory.{history_of}
use Rattle.graph_walks.specs.Dates.{AreRight}
use Rattle.graph_walks.specs.History.{Node}
use Rattle.graph_walks.specs.Walks.{CountWalks}
use Rattle.gix_commitgraph.specs.Graph.{graph_ids}
use Rattle.graph_writer.specs.NewCommits.{new_ids, AreFirst}
use Rattle.graph_writer.specs.NewFilters.{new_filter, filter_numbers}
use Rattle.graph_writer.specs.WriteRefusal.{kind_to_write}
use Rattle.graph_writer.specs.declared.commit.NewCommit.{NewCommit}
use Rattle.graph_writer.specs.declared.filters.NewFilters.{NewFilters}

-- the ids of the layers below, and then those of the plan
abbrev pub graph_ids_with : List Layer → FilePlan → List (List ℕ)
graph_ids_with layers plan = graph_ids layers ++ ids_of plan.commits.items

-- their history
abbrev pub history_with : List Layer → FilePlan → List Node
history_with layers plan =
    history_of layers ++ map (λ c. record { generation = c.generation; parents = c.parents.items }) plan.commits.items

-- the times of the plan, and all times
abbrev pub planned_times : FilePlan → List ℕ
planned_times plan = map (λ c. c.time) plan.commits.items

abbrev pub times_with : List Layer → FilePlan → List ℕ
times_with layers plan = times_of layers ++ planned_times plan

-- the corrected dates, where those of the plan are its times and these offsets together
abbrev pub dates_with : List Layer → FilePlan → List ℕ → List ℕ
dates_with layers plan offsets = dates_of layers ++ map (λ pair. pair.0 + pair.1) (zip (planned_times plan) offsets)

-- The plan has of a commit what was handed in: its id, its tree, its time, and each parent by the first position of its id.
pub record PlansCommit (all : List (List ℕ)) (commit : NewCommit) (planned : PlanCommit) : Type 0 where
  pub id : planned.id ≡ commit.id
  pub tree : planned.tree ≡ commit.tree
  pub parents : AreFirst all planned.parents.items commit.parents.items
  pub time : planned.time ≡ commit.time

-- There is an offset for each commit of the plan, and with them all corrected dates are right.
pub record AreRightOffsets (layers : List Layer) (plan : FilePlan) (offsets : List ℕ) : Type 0 where
  pub as_many : length offsets ≡ length plan.commits.items
  pub right : AreRight (history_with layers plan) (times_with layers plan) (dates_with layers plan offsets)

-- the filter that was handed in with the commit of an id
abbrev pub filter_for : List NewCommit → NewFilters → List ℕ → List ℕ
filter_for commits filters id = option_map_or (new_filter filters) (scan (new_ids commits) id) []

-- where each of some lists ends, if they stand one after another from an offset on
abbrev pub ends_from : ℕ → List (List ℕ) → List ℕ
ends_from offset [] = []
ends_from offset (list ∷ lists) = (offset + length list) ∷ ends_from (offset + length list) lists

-- The plan has the filters of its commits, one after another, and the numbers that were handed in with them.
pub record PlansFilters (commits : List NewCommit) (filters : NewFilters) (ids : List (List ℕ)) (planned : PlanFilters)
    : Type 0 where
  pub numbers : planned.numbers ≡ filter_numbers filters
  pub ends : planned.ends.items ≡ ends_from 0 (map (filter_for commits filters) ids)
  pub bytes : planned.bytes.items ≡ flat_map (filter_for commits filters) ids

-- The plan is the one for a layer with these commits and filters on top of these layers.
pub record IsPlanFor (layers : List Layer) (commits : List NewCommit) (handed : Option NewFilters) (plan : FilePlan)
    : Type 0 where
  pub kind : plan.kind ≡ kind_to_write layers commits
  pub bases : plan.bases.items ≡ map (λ below. below.checksum) layers
  -- it has each commit that was handed in, and no other, in the order of ids
  pub ascending : AreAscending (ids_of plan.commits.items)
  pub all : (i : ℕ) (commit : NewCommit) → slice_get commits i ≡ Some commit
      → (p : ℕ) × IsSomeAnd (slice_get plan.commits.items p) (PlansCommit (graph_ids_with layers plan) commit)
  pub only : (p : ℕ) (planned : PlanCommit) → slice_get plan.commits.items p ≡ Some planned
      → (i : ℕ) × IsSomeAnd (slice_get commits i) (λ commit. PlansCommit (graph_ids_with layers plan) commit planned)
  -- each generation number counts the commits of the longest walk along parents, up to the cap
  pub generations : CountWalks (history_with layers plan)
  -- it has offsets exactly where all layers below have corrected dates
  pub dates : MatchOption (offsets_of plan) (¬ All HasDates layers)
      (λ offsets. All HasDates layers × AreRightOffsets layers plan offsets)
  pub filters : MatchOption handed (plan.filters ≡ None)
      (λ filters. IsSomeAnd plan.filters (PlansFilters commits filters (ids_of plan.commits.items)))
