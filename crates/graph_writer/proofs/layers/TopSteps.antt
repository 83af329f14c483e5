-- A layer on top of others: its ids, its commits and its history come after theirs.
use Rattle.std.proofs.Common.{◌≡◌, ℕ, ◌+◌, ◌<◌, ◌≤◌, min, max, List, [], ◌∷◌, ◌++◌, map, length, drop, All, slice_get}
use Rattle.std.proofs.Common.{Option, Some, refl, sym, ap, ◌∙◌, subst, arith}
use Rattle.std.specs.List.{flat_map}
use Rattle.std.specs.Option.{option_map_or}
use Rattle.std.proofs.lemmas.Grind.{flat_map-append}
use Rattle.std.proofs.lemmas.List.{append-nil, get_or_append_left, map-append, take-append-drop, take-append-le}
use Rattle.std.proofs.lemmas.List.Elements.{All-head, All-tail}
use Rattle.graph_walks.specs.Counts.{greatest}
use Rattle.graph_walks.specs.Dates.{number_at, expected_date}
use Rattle.graph_walks.specs.Generations.{expected_generation}
use Rattle.graph_walks.specs.History.{Node, generation_at, parents_at}
use Rattle.graph_walks.specs.declared.TheConstants.{GENERATION_NUMBER_MAX}
use Rattle.graph_format.specs.Format.{table_of}
use Rattle.graph_format.specs.Layer.{Layer, IsLayer, IsOpened, bytes_of, positions_from, record_at}
use Rattle.graph_format.specs.OptionalChunks.{dates_in}
use Rattle.graph_chunks.specs.GraphStoredDates.{times_of, dates_of}
use Rattle.graph_format.specs.StoredHistory.{layer_history, history_of}
use Rattle.gix_commitgraph.specs.Graph.{graph_ids, graph_commits, start, total}
use Rattle.gix_commitgraph.proofs.layers.LayerListLemmas.{get-front}
use Rattle.graph_writer.proofs.positions.KnownSteps.{get-back}

-- what a list of layers gives one after another, with one more layer
parts-top : {X : Type 0} (f : Layer → List X) (layers : List Layer) (layer : Layer)
    → flat_map f (layers ++ layer ∷ []) ≡ flat_map f layers ++ f layer
parts-top f layers layer =
    flat_map-append f layers (layer ∷ []) ∙ ap (λ xs. flat_map f layers ++ xs) (append-nil (f layer))

pub ids-top : (layers : List Layer) (layer : Layer) → graph_ids (layers ++ layer ∷ []) ≡ graph_ids layers ++ layer.ids
ids-top layers layer = parts-top (λ l. l.ids) layers layer

pub commits-top : (layers : List Layer) (layer : Layer)
    → graph_commits (layers ++ layer ∷ []) ≡ graph_commits layers ++ positions_from layer 0
commits-top layers layer = parts-top (λ l. positions_from l 0) layers layer

pub history-top : (layers : List Layer) (layer : Layer)
    → history_of (layers ++ layer ∷ []) ≡ history_of layers ++ layer_history layer
unfolding history_of
history-top layers layer = parts-top layer_history layers layer

pub start-front : (layers : List Layer) (layer : Layer) (i : ℕ) → i ≤ length layers
    → start (layers ++ layer ∷ []) i ≡ start layers i
unfolding start
start-front layers layer i le = ap total (take-append-le i layers (layer ∷ []) le)

pub times-top : (layers : List Layer) (layer : Layer) → times_of (layers ++ layer ∷ [])
    ≡ times_of layers ++ map (λ place. (record_at place.0 place.1).time) (positions_from layer 0)
unfolding times_of
times-top layers layer =
    let time_of : Layer × ℕ → ℕ = λ place. (record_at place.0 place.1).time in
    ap (map time_of) (commits-top layers layer) ∙ map-append time_of (graph_commits layers) (positions_from layer 0)

pub dates-top : (layers : List Layer) (layer : Layer) → dates_of (layers ++ layer ∷ []) ≡ dates_of layers ++ dates_in layer
unfolding dates_of
dates-top layers layer = parts-top dates_in layers layer

-- the layer of bytes is that of an opened file
pub opened-from : (bytes path : List ℕ) (layer : Layer) → IsLayer bytes path layer → IsOpened layer
opened-from bytes path layer is =
    let whole : bytes ≡ bytes_of layer =
    sym (take-append-drop (table_of bytes).end bytes)
    ∙ ap (λ (front : List ℕ). front ++ drop (table_of bytes).end bytes) (sym is.body)
    ∙ ap (λ (rest : List ℕ). layer.body ++ rest) (sym is.checksum) in
    subst (λ (p : List ℕ). IsLayer (bytes_of layer) p layer) (sym is.origin)
    (subst (λ (b : List ℕ). IsLayer b path layer) whole is)

-- what the first commits of a history say
module _ (a b : List Node) where
  pub generation-front : (p : ℕ) → p < length a → generation_at (a ++ b) p ≡ generation_at a p
  generation-front p within =
      ap (λ (o : Option Node). option_map_or (λ (node : Node). node.generation) o 0) (get-front a b p within)

  pub parents-front : (p : ℕ) → p < length a → parents_at (a ++ b) p ≡ parents_at a p
  parents-front p within =
      ap (λ (o : Option Node). option_map_or (λ (node : Node). node.parents) o []) (get-front a b p within)

  generations-front : (ps : List ℕ) → All (λ p. p < length a) ps → map (generation_at (a ++ b)) ps ≡ map (generation_at a) ps
  generations-front [] within = refl
  generations-front (p ∷ ps) within =
      ap (λ (n : ℕ). n ∷ map (generation_at (a ++ b)) ps) (generation-front p (All-head (λ q. q < length a) p ps within))
      ∙ ap (λ (ns : List ℕ). generation_at a p ∷ ns) (generations-front ps (All-tail (λ q. q < length a) p ps within))

  -- what is expected of one of them, whose parents are among them
  pub expected-front : (p : ℕ) → p < length a → All (λ q. q < length a) (parents_at a p)
      → expected_generation (a ++ b) p ≡ expected_generation a p
  unfolding expected_generation
  expected-front p within parents =
      ap (λ (ps : List ℕ). min GENERATION_NUMBER_MAX (1 + greatest (map (generation_at (a ++ b)) ps))) (parents-front p within)
      ∙ ap (λ (ns : List ℕ). min GENERATION_NUMBER_MAX (1 + greatest ns)) (generations-front (parents_at a p) parents)

  -- the same of dates
  module _ (times dates more_times more_dates : List ℕ) (timed : length times ≡ length a) (dated : length dates ≡ length a) where
    pub number-front : (p : ℕ) → p < length a → number_at (dates ++ more_dates) p ≡ number_at dates p
    number-front p within = get_or_append_left dates more_dates 0 p (omega arith)

    numbers-front : (ps : List ℕ) → All (λ p. p < length a) ps
        → map (number_at (dates ++ more_dates)) ps ≡ map (number_at dates) ps
    numbers-front [] within = refl
    numbers-front (p ∷ ps) within =
        ap (λ (n : ℕ). n ∷ map (number_at (dates ++ more_dates)) ps) (number-front p (All-head (λ q. q < length a) p ps within))
        ∙ ap (λ (ns : List ℕ). number_at dates p ∷ ns) (numbers-front ps (All-tail (λ q. q < length a) p ps within))

    pub date-front : (p : ℕ) → p < length a → All (λ q. q < length a) (parents_at a p)
        → expected_date (a ++ b) (times ++ more_times) (dates ++ more_dates) p ≡ expected_date a times dates p
    unfolding expected_date
    date-front p within parents =
        ap (λ (t : ℕ). max t (1 + greatest (map (number_at (dates ++ more_dates)) (parents_at (a ++ b) p))))
        (get_or_append_left times more_times 0 p (omega arith))
        ∙ ap (λ (ps : List ℕ). max (number_at times p) (1 + greatest (map (number_at (dates ++ more_dates)) ps)))
        (parents-front p within)
        ∙ ap (λ (ns : List ℕ). max (number_at times p) (1 + greatest ns)) (numbers-front (parents_at a p) parents)

  -- what the commits after them say
  pub node-back : (i : ℕ) (node : Node) → slice_get b i ≡ Some node → slice_get (a ++ b) (length a + i) ≡ Some node
  node-back i node here = get-back a b i ∙ here
