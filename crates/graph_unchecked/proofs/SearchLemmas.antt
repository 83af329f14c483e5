-- what a search over parts of a known tree answers
use Rattle.std.proofs.Common.{◌≡◌, ℕ, ◌*◌, ◌<◌, ◌≤◌, List, All, Bool, IsTrue, Option, Some, None, Result, Ok, Err, IfOk, Vec}
use Rattle.std.proofs.Common.{length, inl, inr, refl, sym, ap, subst}
use Rattle.std.specs.Global.{Global}
use Rattle.graph_folder.specs.Tree.{Tree}
use Rattle.graph_walks.specs.Dates.{AreRight}
use Rattle.graph_walks.specs.History.{Node}
use Rattle.graph_walks.specs.Walks.{CountWalks, Reaches}
use Rattle.graph_format.specs.Layer.{Layer}
use Rattle.graph_format.specs.OptionalChunks.{HasDates}
use Rattle.graph_format.specs.StoredHistory.{history_of}
use Rattle.graph_format.specs.declared.Position.{Position}
use Rattle.gix_commitgraph.specs.Graph.{IsGraph, total}
use Rattle.gix_commitgraph.specs.IdWalks.{ids_at}
use Rattle.commit_search.specs.Ranks.{FallsAlongParents, Ranking, by_date, by_generation}
use Rattle.commit_search.specs.Source.{Told}
use Rattle.commit_search.specs.WalkAnswer.{IsAnswer, IsAnyAnswer}
use Rattle.commit_search.specs.Positions.{numbers_of}
use Rattle.commit_search.specs.declared.Reached.{Reached}
use Rattle.graph_bases.specs.Bases.{IsCommonAncestor}
use Rattle.graph_bases.specs.Comparison.{IsComparisonBy, IsComparisonIn}
use Rattle.graph_bases.specs.declared.bases.Comparison.{Comparison}
use Rattle.graph_chunks.specs.GraphStoredDates.{dates_of, times_of}
use Rattle.graph_history.specs.GraphComparison.{IsComparisonOfBy}
use Rattle.graph_parts.specs.OfTree.{AreOfTree}
use Rattle.graph_parts.specs.Shown.{AreGraphParts, Shows, files_of}
use Rattle.graph_parts.specs.declared.parts.GraphParts.{GraphParts}
use Rattle.graph_parts.proofs.TreeLemmas.{same-shown, shown-seen}
use Rattle.graph_unchecked.specs.PartSearches.{AreBasesUnchecked, IsStepsUnchecked}
use Rattle.graph_unchecked.specs.PartSource.{PartsTell, ReadsOn, past_all_layers, told_dates, told_with_dates}
use Rattle.graph_unchecked.specs.Unchecked.{IsComparedUnchecked, IsToldUnchecked, IsWalkUnchecked}
use Rattle.graph_unchecked.proofs.DatedLemmas.{dates-past}

-- the layers that were shown before are shown after
pub shows-after : (known : Option Tree) (tree : Tree) → known ≡ Some tree → (old new : GraphParts) (layers : List Layer)
    → files_of new ≡ files_of old → AreOfTree known new → Shows known old layers → Shows known new layers
shows-after known tree is old new layers same of shows =
    let at = shown-seen known tree is new of in
    let one : at.0 ≡ layers = same-shown known tree is new old at.0 layers same at.1 shows in
    subst (Shows known new) one at.1

-- and tell
pub tells-after : (known : Option Tree) (tree : Tree) → known ≡ Some tree → (old new : GraphParts) (layers : List Layer)
    → files_of new ≡ files_of old → AreOfTree known new → Shows known old layers → IsGraph layers
    → PartsTell known new (told_with_dates layers)
tells-after known tree is old new layers same of shows graph = record {
  layers = layers;
  shows = shows-after known tree is old new layers same of shows;
  graph = graph;
  told = refl;
}

-- more was read by a search
pub reads-after : (known now : Option Tree) → now ≡ known → (old new later : GraphParts) → AreGraphParts new
    → files_of new ≡ files_of old → AreOfTree now new → ((t : Told) → PartsTell now new t → PartsTell known old t)
    → later ≡ new → ReadsOn known old later
reads-after known now is old new later right same of kept ends =
    let reads : ReadsOn known old new =
    record {
      right = right;
      same = same;
      of = λ before. subst (λ (k : Option Tree). AreOfTree k new) is of;
      kept = subst (λ (k : Option Tree). (t : Told) → PartsTell k new t → PartsTell known old t) is kept;
    } in
    subst (ReadsOn known old) (sym ends) reads

module _ (known : Option Tree) (new : GraphParts) (layers : List Layer) (tells : PartsTell known new (told_with_dates layers))
    (first : ℕ) where
  told-unchecked : (second : ℕ) (found : Bool)
      → ((t : Told) → PartsTell known new t → IsTrue found → Reaches t.history second first)
      → ((t : Told) → PartsTell known new t → CountWalks t.history → Reaches t.history second first → IsTrue found)
      → IsToldUnchecked layers first second found
  told-unchecked second found there all = record {
    there = there (told_with_dates layers) tells;
    all = all (told_with_dates layers) tells;
  }

  pub told-answered : {E : Type 0} (second : ℕ) (r : Result Bool E)
      → IfOk r (λ found. (t : Told) → PartsTell known new t → IsTrue found → Reaches t.history second first)
      → IfOk r (λ found. (t : Told) → PartsTell known new t → CountWalks t.history → Reaches t.history second first
      → IsTrue found) → IfOk r (IsToldUnchecked layers first second)
  told-answered second (Ok found) there all = told-unchecked second found there all
  told-answered second (Err e) there all = tt

  pub steps-unchecked : (second : ℕ) (reached : Reached)
      → ((t : Told) → PartsTell known new t → IsAnyAnswer t.history first second reached)
      → ((t : Told) → PartsTell known new t → CountWalks t.history → IsAnswer t.history first second reached)
      → IsStepsUnchecked layers first second reached.walk
  steps-unchecked second reached answer right = record {
    there = (answer (told_with_dates layers) tells).walk;
    shortest = λ counts. (right (told_with_dates layers) tells counts).walk;
    none = λ counts. (right (told_with_dates layers) tells counts).none;
  }

  -- a comparison of the history is one of the graph
  in-graph : (others : List ℕ) (ranking : Ranking) (found : Comparison)
      → All (λ (base : Position). base.0 < total layers) found.bases.positions.items
      → IsComparisonBy (history_of layers) ranking first others found → IsComparisonOfBy layers ranking first others found
  in-graph others ranking found within is =
      record { bases = is.bases; within = within; visits = is.visits; ahead = is.ahead; behind = is.behind }

  pub bases-unchecked : {E : Type 0} (others : List ℕ) (count : ℕ) → count ≡ total layers → (r : Result Comparison E)
      → IfOk r (λ found. All (λ (base : Position). base.0 < count) found.bases.positions.items)
      → IfOk r (λ found. found.bases.visits ≤ 3 * count)
      → IfOk r (λ found. (t : Told) → PartsTell known new t
      → All (λ (base : Position). IsCommonAncestor t.history first others base.0) found.bases.positions.items)
      → IfOk r (λ found. (t : Told) → PartsTell known new t → CountWalks t.history
      → IsComparisonIn t.history first others found) → IfOk r (AreBasesUnchecked layers first others)
  bases-unchecked others count is (Ok found) within visits common exact =
      let inside = subst (λ (n : ℕ). All (λ (base : Position). base.0 < n) found.bases.positions.items) is within in
      record {
        within = inside;
        common = common (told_with_dates layers) tells;
        visits = subst (λ (n : ℕ). found.bases.visits ≤ 3 * n) is visits;
        exact = λ counts dated. (
          by_generation (history_of layers),
          inl refl,
          in-graph others (by_generation (history_of layers)) found inside (exact (told_with_dates layers) tells counts),
        );
      }
  bases-unchecked others count is (Err e) within visits common exact = tt

  -- in the order of the dates
  pub bases-by-dates : {E : Type 0} (others : List ℕ) (count : ℕ) → count ≡ total layers → All HasDates layers
      → length layers ≤ past_all_layers
      → ((history : List Node) (times dates : List ℕ) → AreRight history times dates → FallsAlongParents history (by_date dates))
      → (r : Result Comparison E)
      → IfOk r (λ found. All (λ (base : Position). base.0 < count) found.bases.positions.items)
      → IfOk r (λ found. found.bases.visits ≤ 3 * count)
      → IfOk r (λ found. (t : Told) → PartsTell known new t
      → All (λ (base : Position). IsCommonAncestor t.history first others base.0) found.bases.positions.items)
      → IfOk r (λ found. (t : Told) → PartsTell known new t → FallsAlongParents t.history (told_dates t)
      → IsComparisonBy t.history (told_dates t) first others found) → IfOk r (AreBasesUnchecked layers first others)
  bases-by-dates others count is all few law (Ok found) within visits common exact =
      let inside = subst (λ (n : ℕ). All (λ (base : Position). base.0 < n) found.bases.positions.items) is within in
      record {
        within = inside;
        common = common (told_with_dates layers) tells;
        visits = subst (λ (n : ℕ). found.bases.visits ≤ 3 * n) is visits;
        exact = λ counts dated.
            let are = dated all in
            let same : told_dates (told_with_dates layers) ≡ by_date (dates_of layers) = ap by_date (dates-past layers few) in
            let along : FallsAlongParents (history_of layers) (told_dates (told_with_dates layers)) =
            subst (FallsAlongParents (history_of layers)) (sym same)
            (law (history_of layers) (times_of layers) (dates_of layers) are.right) in (
              told_dates (told_with_dates layers),
              inr (dates_of layers, are, same),
              in-graph others (told_dates (told_with_dates layers)) found inside (exact (told_with_dates layers) tells along),
            );
      }
  bases-by-dates others count is all few law (Err e) within visits common exact = tt

-- the same with the ids of the commits
pub walk-of-ids : (layers : List Layer) (first second : ℕ) (walk : Vec Position Global) (ids : Vec (List ℕ) Global)
    → IsStepsUnchecked layers first second (Some walk) → ids.items ≡ ids_at layers (numbers_of walk.items)
    → IsWalkUnchecked layers first second (Some ids)
walk-of-ids layers first second walk ids steps are = record {
  there = (numbers_of walk.items, steps.there, are);
  shortest = λ counts. (numbers_of walk.items, steps.shortest counts, are);
  none = λ counts. tt;
}

pub no-walk : (layers : List Layer) (first second : ℕ) → IsStepsUnchecked layers first second None
    → IsWalkUnchecked layers first second None
no-walk layers first second steps = record { there = tt; shortest = λ counts. tt; none = steps.none }

pub bases-with-ids : (layers : List Layer) (first : ℕ) (others : List ℕ) (comparison : Comparison) (ids : Vec (List ℕ) Global)
    → AreBasesUnchecked layers first others comparison
    → ids.items ≡ ids_at layers (numbers_of comparison.bases.positions.items)
    → IsComparedUnchecked layers first others (record { comparison = comparison; base_ids = ids })
bases-with-ids layers first others comparison ids bases are = record {
  common = bases.common;
  visits = bases.visits;
  exact = bases.exact;
  ids = are;
}
