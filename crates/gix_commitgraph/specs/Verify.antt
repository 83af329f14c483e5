-- what the check of a graph looks for, in an order that is this project's own, and what it answers
use Rattle.std.specs.Prelude.{◌≡◌, ◌==◌, ◌+◌, ◌∷◌, [], ℕ, List, false, not, if◌then◌else◌, nat_lt, bytes_eq, slice_get, unwrap_or}
use Rattle.std.specs.Prelude.{length, map, take, drop, Option, Some, None, option_map, Result, Ok, Err}
use Rattle.std.specs.BTreeMap.{get, IsUnchanged}
use Rattle.std.specs.List.{flat_map, range_with_len, enumerate_from}
use Rattle.std.specs.Ordering.{nat_cmp}
use Rattle.gix_chunk_core.specs.FirstFault.{◌when◌, ◌otherwise◌, first_below}
use Rattle.graph_format.specs.Layer.{Layer, record_at}
use Rattle.graph_format.specs.Parents.{position_of, parents_of, items_of}
use Rattle.graph_format.specs.Lookup.{scan}
use Rattle.gix_commitgraph.specs.Graph.{graph_ids, start, stop}
use Rattle.graph_format.specs.Faults.{layer_fault, id_at, id_fault, tree_fault}
use Rattle.graph_format.specs.Points.{Point, check, call, first_some, Cause, refused, by_processor, no_memory}
use Rattle.graph_walks.specs.Counts.{count_of}
use Rattle.graph_walks.specs.History.{Node, generation_at, generations, parent_numbers}
use Rattle.graph_format.specs.StoredHistory.{history_of}
use Rattle.graph_walks.specs.Generations.{expected_generation, longest_path}
use Rattle.graph_format.specs.declared.Position.{Position}
use Rattle.graph_format.specs.declared.parents.ParentError.{ParentError}
use Rattle.gix_commitgraph.specs.declared.verify.VerifyOptions.{VerifyOptions}
use Rattle.gix_commitgraph.specs.declared.verify.VerifyError.{VerifyError}
use Rattle.gix_commitgraph.specs.declared.verify.VerifyError.TheVariants as error
use Rattle.gix_commitgraph.specs.declared.verify.Outcome.{Outcome}

-- the base id at place j of a layer, and no bytes where it has none there
abbrev pub base_at : Layer → ℕ → List ℕ
base_at layer j = unwrap_or (slice_get layer.bases j) []

-- the checksum of layer j, and no bytes where there is no such layer
abbrev pub checksum_at : List Layer → ℕ → List ℕ
checksum_at layers j = unwrap_or (slice_get (map (λ layer. layer.checksum) layers) j) []

module _ {E : Type 0} where
  -- the base id at place j of a layer that is to be layer i: the checksum of layer j ("Base Graphs List")
  abbrev pub base_refusal : List Layer → ℕ → Layer → ℕ → Option (VerifyError E)
  base_refusal layers i layer j = error.BaseId i j when not (bytes_eq (base_at layer j) (checksum_at layers j))

  -- all of its base ids: one for each layer before it
  abbrev pub base_ids_refusal : List Layer → ℕ → Layer → Option (VerifyError E)
  base_ids_refusal layers i layer =
      error.BaseCount i when not (length layer.bases == i) otherwise first_below (base_refusal layers i layer) i

  -- one item of the parents of the commit at p, whose layer ends before stop
  abbrev pub item_refusal : ℕ → ℕ → Result Position ParentError → Option (VerifyError E)
  item_refusal p stop (Ok parent) = error.ParentOutOfRange (position_of p) parent when not (nat_lt parent.0 stop)
  item_refusal p stop (Err fault) = Some (error.Parent (position_of p) fault)

  -- the parents of the commit at a position of layer i, one after another
  abbrev pub parents_refusal : List Layer → ℕ → Layer → ℕ → Option (VerifyError E)
  parents_refusal layers i layer pos =
      first_some
      (map (item_refusal (start layers i + pos) (stop layers i)) (items_of (parents_of (record_at layer pos) layer.edges)))

  -- the generation number of the commit at p
  abbrev pub generation_refusal : List Node → ℕ → Option (VerifyError E)
  generation_refusal history p =
      error.Generation (position_of p) (expected_generation history p)
      when not (generation_at history p == expected_generation history p)

  -- the id of the commit at a position of layer i stands in an earlier layer too. The least position that holds it is named
  abbrev pub duplicate_refusal : List Layer → ℕ → Layer → ℕ → Option (VerifyError E)
  duplicate_refusal layers i layer pos =
      option_map (λ earlier. error.DuplicateId (position_of (start layers i + pos)) (position_of earlier))
      (scan (graph_ids (take i layers)) (id_at layer pos))

  -- the ids of the commit at a position of layer i: its own, where the options ask for it that no earlier layer has it, and the
  -- root tree's
  abbrev pub commit_ids_refusal : VerifyOptions → List Layer → ℕ → Layer → ℕ → Option (VerifyError E)
  commit_ids_refusal options layers i layer pos =
      option_map (error.Commit (position_of (start layers i + pos))) (id_fault layer pos)
      otherwise (if options.distinct_ids then duplicate_refusal layers i layer pos else None)
      otherwise option_map (error.Commit (position_of (start layers i + pos))) (tree_fault layer pos)

  -- the commit at a position of layer i: its ids, its parents, its generation number, the processor
  abbrev pub commit_points : VerifyOptions → List Layer → ℕ → Layer → ℕ → List (Point (VerifyError E))
  commit_points options layers i layer pos =
      check (commit_ids_refusal options layers i layer pos)
      ∷ check (parents_refusal layers i layer pos)
      ∷ check (generation_refusal (history_of layers) (start layers i + pos))
      ∷ call (start layers i + pos)
      ∷ []

  -- layer i: its base ids, the layer as a whole, and then each commit
  abbrev pub layer_points : VerifyOptions → List Layer → ℕ → Layer → List (Point (VerifyError E))
  layer_points options layers i layer =
      check (base_ids_refusal layers i layer)
      ∷ check (option_map (error.Layer i) (layer_fault layer))
      ∷ flat_map (commit_points options layers i layer) (range_with_len 0 (length layer.ids))

  -- the layers from layer i on
  abbrev pub layer_points_from : VerifyOptions → List Layer → ℕ → List (Point (VerifyError E))
  layer_points_from options layers i = flat_map (λ e. layer_points options layers e.0 e.1) (enumerate_from i (drop i layers))

  -- the number of layers, and then each from layer i on
  abbrev pub points_from : VerifyOptions → List Layer → ℕ → List (Point (VerifyError E))
  points_from options layers i = check (error.TooManyFiles when nat_lt 256 (length layers)) ∷ layer_points_from options layers i

  -- the number of layers, and then each layer
  abbrev pub points_with : VerifyOptions → List Layer → List (Point (VerifyError E))
  points_with options layers = points_from options layers 0

  -- where nothing is asked for besides
  abbrev pub graph_points : List Layer → List (Point (VerifyError E))
  graph_points layers = points_with (record { distinct_ids = false }) layers

  -- why the check stopped
  abbrev pub cause_of : VerifyError E → Cause (VerifyError E) E
  cause_of (error.Processor pos e) = by_processor pos.0 e
  cause_of error.OutOfMemory = no_memory
  cause_of x = refused x

-- The statistics of some commits.
pub record Summarizes (history : List Node) (outcome : Outcome) : Type 0 where
  pub longest_path_length : outcome.longest_path_length ≡ longest_path (generations history)
  pub num_commits : outcome.num_commits ≡ length history
  pub parent_counts : (k : ℕ) → get nat_cmp outcome.parent_counts k ≡ count_of (parent_numbers history) k

-- A second outcome that is equal in each field: its counts are the same, in the same order.
pub record IsCopy (outcome copy : Outcome) : Type 0 where
  pub longest_path_length : copy.longest_path_length ≡ outcome.longest_path_length
  pub num_commits : copy.num_commits ≡ outcome.num_commits
  pub parent_counts : IsUnchanged outcome.parent_counts copy.parent_counts
