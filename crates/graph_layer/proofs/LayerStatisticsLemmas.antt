-- laws of the statistics of a layer
use Rattle.std.proofs.Common.{◌≡◌, ◌==◌, ℕ, zero, suc, ◌+◌, ◌<◌, ◌≤◌, true, false, cond, if◌then◌else◌, List, [], ◌∷◌, ◌++◌, map}
use Rattle.std.proofs.Common.{length, take, max, min, count_by, slice_get, unwrap_or, Some, refl, sym, ap, ◌∙◌, subst, ⊎_elim}
use Rattle.std.proofs.Common.{arith}
use Rattle.std.proofs.lemmas.List.{map-append, length-map, length-take-le, take_all}
use Rattle.std.proofs.lemmas.List.Sums.{fold-append}
use Rattle.std.proofs.lemmas.Bool.Decides.{nat_tests}
use Rattle.std.proofs.lemmas.Bool.{cases_eq}
use Rattle.graph_format.specs.Format.{Record}
use Rattle.graph_format.specs.Layer.{Layer, record_at, no_record}
use Rattle.graph_walks.specs.Counts.{greatest, least, count_of, above_zero}
use Rattle.graph_walks.specs.History.{Node, generations, parent_numbers}
use Rattle.graph_format.specs.StoredHistory.{node_of, layer_history}
use Rattle.graph_format.specs.Parents.{parents_of}
use Rattle.graph_format.specs.Layer.{IsOpened}
use Rattle.graph_layer.specs.Traverse.{SummarizesLayer, FileStats}
use Rattle.graph_layer.specs.declared.file.verify.Outcome.{Outcome}
use Rattle.graph_layer.specs.declared.file.verify.statistics.Statistics.{Statistics}
use Rattle.graph_layer.specs.LayerStatistics.{AreLayerStatistics}
use Rattle.graph_layer.specs.ParentCounts.{counted}
use Rattle.graph_format.proofs.LayerHistoryLemmas.{opened_is_paired, length-layer_history}

nodes-more : (f : Record → Node) (records : List Record) (n : ℕ) → n < length records
    → take (n + 1) (map f records) ≡ take n (map f records) ++ f (unwrap_or (slice_get records n) no_record) ∷ []
nodes-more f [] n h = absurd (omega (arith, h))
nodes-more f (r ∷ records) zero h = refl
nodes-more f (r ∷ records) (suc n) h =
    let more : suc n + 1 ≡ suc (n + 1) = omega arith in
    rw more (ap (λ nodes. f r ∷ nodes) (nodes-more f records n (omega (arith, h))))

-- one more commit of a layer
history-more : (layer : Layer) (n : ℕ) → n < length layer.records
    → take (n + 1) (layer_history layer) ≡ take n (layer_history layer) ++ node_of layer (record_at layer n) ∷ []
unfolding layer_history record_at
history-more layer n h = nodes-more (node_of layer) layer.records n h

length-history : (layer : Layer) (n : ℕ) → n ≤ length layer.records → length (take n (layer_history layer)) ≡ n
unfolding layer_history
length-history layer n h = length-take-le n (map (node_of layer) layer.records) (rw length-map (omega (arith, h)))

greatest-more : (numbers : List ℕ) (n : ℕ) → greatest (numbers ++ n ∷ []) ≡ max (greatest numbers) n
greatest-more numbers n = fold-append max 0 numbers (n ∷ [])

least-first : (numbers : List ℕ) (n : ℕ) → length numbers ≡ 0 → least (numbers ++ n ∷ []) ≡ n
least-first [] n h = refl
least-first (m ∷ numbers) n h = absurd (omega (arith, h))

least-more : (numbers : List ℕ) (n : ℕ) → 0 < length numbers → least (numbers ++ n ∷ []) ≡ min (least numbers) n
least-more [] n h = absurd (omega (arith, h))
least-more (m ∷ numbers) n h = fold-append min m numbers (n ∷ [])

above_zero-next : (n : ℕ) → above_zero (n + 1) ≡ Some (unwrap_or (above_zero n) 0 + 1)
above_zero-next zero = refl
above_zero-next (suc n) = let next : suc n + 1 ≡ suc (suc n) = omega arith in rw next refl

-- how often one more number stands among numbers
count-more : (numbers : List ℕ) (n k : ℕ) → count_by (λ m. m == k) (numbers ++ n ∷ [])
    ≡ count_by (λ m. m == k) numbers + cond (n == k) 1 0
count-more numbers n k = fold-append (λ a m. a + cond (m == k) 1 0) 0 numbers (n ∷ [])

count_of-same : (numbers : List ℕ) (n : ℕ) → count_of (numbers ++ n ∷ []) n ≡ Some (unwrap_or (count_of numbers n) 0 + 1)
count_of-same numbers n =
    let test : (n == n) ≡ true = grind (arith, nat_tests) in
    ap above_zero (count-more numbers n n ∙ rw test refl) ∙ above_zero-next (count_by (λ m. m == n) numbers)

count_of-other : (numbers : List ℕ) (n k : ℕ) → (k ≡ n → ⊥) → count_of (numbers ++ n ∷ []) k ≡ count_of numbers k
count_of-other numbers n k apart =
    let test : (n == k) ≡ false = grind (arith, nat_tests) in
    ap above_zero (count-more numbers n k ∙ rw test (omega arith))

-- The statistics with one more commit, of this generation number and with so many parents.
pub record IsMore (generation parents : ℕ) (before after : Statistics) : Type 0 where
  pub max_generation : after.max_generation ≡ max before.max_generation generation
  pub first : before.num_commits ≡ 0 → after.min_generation ≡ generation
  pub later : 0 < before.num_commits → after.min_generation ≡ min before.min_generation generation
  pub max_parents : after.max_parents ≡ max before.max_parents parents
  pub num_commits : after.num_commits ≡ before.num_commits + 1
  pub parent_counts : (k : ℕ) → counted after.parent_counts k
      ≡ (if k == parents then Some (unwrap_or (counted before.parent_counts parents) 0 + 1) else counted before.parent_counts k)

module _ (layer : Layer) (n : ℕ) (inside : n < length layer.records) where
  generations-more : generations (take (n + 1) (layer_history layer))
      ≡ generations (take n (layer_history layer)) ++ (record_at layer n).generation ∷ []
  generations-more = ap generations (history-more layer n inside)
      ∙ map-append (λ node. node.generation) (take n (layer_history layer)) (node_of layer (record_at layer n) ∷ [])

  -- how many parents the commit has
  abbrev parents : ℕ
  parents = length (node_of layer (record_at layer n)).parents

  parent_numbers-more : parent_numbers (take (n + 1) (layer_history layer))
      ≡ parent_numbers (take n (layer_history layer)) ++ parents ∷ []
  parent_numbers-more = ap parent_numbers (history-more layer n inside)
      ∙ map-append (λ node. length node.parents) (take n (layer_history layer)) (node_of layer (record_at layer n) ∷ [])

  -- the numbers of the commits before it
  abbrev before_it : List Node
  before_it = take n (layer_history layer)

  counted_before : length before_it ≡ n
  counted_before = length-history layer n (omega (arith, inside))

  counted_with : length (take (n + 1) (layer_history layer)) ≡ n + 1
  counted_with = length-history layer (n + 1) (omega (arith, inside))

  count_generations : length (generations before_it) ≡ n
  count_generations = length-map before_it (λ node. node.generation) ∙ counted_before

  summarized : (before after : Statistics) → AreLayerStatistics before_it before
      → IsMore (record_at layer n).generation parents before after
      → AreLayerStatistics (take (n + 1) (layer_history layer)) after
  summarized before after summary more =
      let generation = (record_at layer n).generation in
      record {
        max_generation = more.max_generation ∙ ap (λ m. max m generation) summary.max_generation
            ∙ sym (ap greatest generations-more ∙ greatest-more (generations before_it) generation);
        min_generation = ⊎_elim
            (λ (none : n ≡ 0).
            more.first (summary.num_commits ∙ counted_before ∙ none)
            ∙ sym (ap least generations-more ∙ least-first (generations before_it) generation (count_generations ∙ none)))
            (λ (some : n ≡ 0 → ⊥).
            more.later (omega (arith, some, summary.num_commits, counted_before))
            ∙ ap (λ m. min m generation) summary.min_generation
            ∙ sym (ap least generations-more
            ∙ least-more (generations before_it) generation (omega (arith, some, count_generations))))
            (cases_eq n 0);
        max_parents = more.max_parents ∙ ap (λ m. max m parents) summary.max_parents
            ∙ sym (ap greatest parent_numbers-more ∙ greatest-more (parent_numbers before_it) parents);
        num_commits = more.num_commits ∙ ap (λ m. m + 1) (summary.num_commits ∙ counted_before) ∙ sym counted_with;
        parent_counts = λ k. ⊎_elim
            (λ (same : k ≡ parents).
            let test : (k == parents) ≡ true = grind (arith, nat_tests) in
            rw test at (more.parent_counts k) ∙ ap (λ o. Some (unwrap_or o 0 + 1)) (summary.parent_counts parents)
            ∙ sym (ap (λ numbers. count_of numbers k) parent_numbers-more
            ∙ rw same (count_of-same (parent_numbers before_it) parents)))
            (λ (apart : k ≡ parents → ⊥).
            let test : (k == parents) ≡ false = grind (arith, nat_tests) in
            rw test at (more.parent_counts k) ∙ summary.parent_counts k
            ∙ sym (ap (λ numbers. count_of numbers k) parent_numbers-more
            ∙ count_of-other (parent_numbers before_it) parents k apart))
            (cases_eq k parents);
      }

  -- the statistics with one more commit
  pub statistics-more : (before after : Statistics) (count : ℕ)
      → count ≡ length (parents_of (record_at layer n) layer.edges).positions
      → AreLayerStatistics before_it before → IsMore (record_at layer n).generation count before after
      → AreLayerStatistics (take (n + 1) (layer_history layer)) after
  statistics-more before after count is summary more =
      let positions = (parents_of (record_at layer n) layer.edges).positions in
      let counted : count ≡ parents = is ∙ sym (length-map positions (λ pos. pos.0)) in
      summarized before after summary (subst (λ (m : ℕ). IsMore (record_at layer n).generation m before after) counted more)

-- with each commit of an opened layer, the statistics are those of the layer
pub stats_of_all : (layer : Layer) (n : ℕ) (outcome : Outcome) → IsOpened layer → n ≡ length layer.ids
    → SummarizesLayer (take n (layer_history layer)) outcome → FileStats layer outcome
stats_of_all layer n outcome opened is summary =
    let paired = opened_is_paired layer opened in
    let all : take n (layer_history layer) ≡ layer_history layer =
    take_all n (layer_history layer) (omega (arith, is, paired, length-layer_history layer)) in
    record {
      num_commits = summary.num_commits ∙ length-history layer n (omega (arith, is, paired)) ∙ is;
      commits = subst (λ (history : List Node). SummarizesLayer history outcome) all summary;
    }
