-- How many extra words a new layer has, by the commits that are handed in.
use Rattle.std.proofs.Common.{◌≡◌, ℕ, suc, ◌+◌, ◌<◌, List, [], ◌∷◌, ◌++◌, map, length, slice_get, get_or, Some}
use Rattle.std.proofs.Common.{Bool, ◌-◌, option_map, refl, sym, ap, ◌∙◌, arith}
use Rattle.std.specs.Prelude.{if◌then◌else◌}
use Rattle.std.specs.List.{flat_map, sum, range_with_len}
use Rattle.std.proofs.lemmas.Bool.{lt-ltb}
use Rattle.std.proofs.lemmas.List.{length-map, same_lists}
use Rattle.std.proofs.lemmas.List.Concat.{length-flat_map}
use Rattle.std.proofs.lemmas.List.FromFn.{length-map-range_with_len}
use Rattle.std.proofs.lemmas.List.Sums.{sum-map}
use Rattle.std.proofs.lemmas.Option.{slice_get-map, get_or_from_slice_get}
use Rattle.graph_format.specs.Layer.{Layer}
use Rattle.graph_format.proofs.PieceLemmas.{get-map-range}
use Rattle.gix_commitgraph.specs.Graph.{graph_ids}
use Rattle.gix_commitgraph.proofs.lookup.ElementLemmas.{some-place, all-at}
use Rattle.graph_encoder.specs.ExtraEdges.{extra_words, listed_words}
use Rattle.graph_levels.specs.ParentLists.{commit_count, parent_list}
use Rattle.graph_writer.specs.NewCommits.{HoldIds}
use Rattle.graph_writer.specs.NewLayers.{IsNewLayer, ids_in_order}
use Rattle.graph_writer.specs.WritingRefusal.{words_for, word_count}
use Rattle.graph_writer.specs.declared.commit.NewCommit.{NewCommit}
use Rattle.graph_writer.specs.declared.new_layer.NewLayer.{NewLayer}
use Rattle.graph_writer.proofs.positions.FirstSteps.{first-hold}
use Rattle.graph_writer.proofs.filter_lists.SumSteps.{sum-all}

-- the parents of the commits, one list for each
abbrev pub lists_of : NewLayer → List (List ℕ)
lists_of new = map (parent_list new.parents) (range_with_len 0 (commit_count new.parents))

length-listed : (parent : ℕ) (more : List ℕ) → length (listed_words parent more) ≡ length more + 1
length-listed parent [] = refl
length-listed parent (next ∷ more) =
    ap (λ (n : ℕ). suc n) (length-listed next more) ∙ omega arith

words-of-many : (n : ℕ) → 2 < n → words_for n ≡ n - 1
words-of-many n many = ap (λ (b : Bool). if b then n - 1 else 0) (lt-ltb 2 n many)

-- the words of a commit are counted by its parents
length-words : (parents : List ℕ) → length (extra_words parents) ≡ words_for (length parents)
length-words [] = refl
length-words (first ∷ []) = refl
length-words (first ∷ second ∷ []) = refl
length-words (first ∷ second ∷ third ∷ more) =
    omega (
      arith,
      length-listed second (third ∷ more),
      words-of-many (length (first ∷ second ∷ third ∷ more)) (omega arith),
    )

-- as many positions as ids
as-many-ids : (all : List (List ℕ)) (positions : List ℕ) (ids : List (List ℕ)) → HoldIds all positions ids
    → length positions ≡ length ids
as-many-ids all positions ids hold =
    sym (length-map positions (slice_get all))
    ∙ ap length hold
    ∙ length-map ids (λ (id : List ℕ). Some id)

module _ (layers : List Layer) (commits : List NewCommit) (new : NewLayer) (is_new : IsNewLayer layers commits new) where
  -- the words of a commit, by its number
  abbrev words_at : ℕ → ℕ
  words_at i = get_or (map (λ (c : NewCommit). words_for (length c.parents.items)) commits) i 0

  abbrev words_in : List ℕ → ℕ
  words_in parents = length (extra_words parents)

  words-there : (i : ℕ) (commit : NewCommit) → slice_get commits i ≡ Some commit
      → words_at i ≡ words_for (length commit.parents.items)
  words-there i commit here =
      get_or_from_slice_get (map (λ (c : NewCommit). words_for (length c.parents.items)) commits) i
      (words_for (length commit.parents.items)) 0
      (slice_get-map (λ (c : NewCommit). words_for (length c.parents.items)) commits i
      ∙ ap (option_map (λ (c : NewCommit). words_for (length c.parents.items))) here)

  each-words : map words_in (lists_of new) ≡ map words_at new.order.items
  each-words =
      same_lists (map words_in (lists_of new)) (map words_at new.order.items)
      (length-map (lists_of new) words_in
      ∙ length-map-range_with_len (parent_list new.parents) 0 (commit_count new.parents)
      ∙ is_new.listed
      ∙ sym (length-map new.order.items words_at ∙ is_new.as_many))
      (λ p d lt.
      let size : length (map words_in (lists_of new)) ≡ length commits =
      length-map (lists_of new) words_in
      ∙ length-map-range_with_len (parent_list new.parents) 0 (commit_count new.parents)
      ∙ is_new.listed in
      let at = some-place new.order.items p (omega (arith, size, is_new.as_many)) in
      let here = some-place commits at.0 (all-at (λ i. i < length commits) new.order.items p at.0 is_new.each at.1) in
      let holds : HoldIds (graph_ids layers ++ ids_in_order commits new.order.items) (parent_list new.parents p)
      here.0.parents.items = first-hold _ _ _ (is_new.parents p at.0 here.0 at.1 here.1) in
      get_or_from_slice_get (map words_in (lists_of new)) p (words_in (parent_list new.parents p)) d
      (slice_get-map words_in (lists_of new) p
      ∙ ap (option_map words_in)
      (get-map-range (parent_list new.parents) 0 (commit_count new.parents) p (omega (arith, size, is_new.listed))
      ∙ ap (λ (n : ℕ). Some (parent_list new.parents n)) (omega arith)))
      ∙ length-words (parent_list new.parents p)
      ∙ ap words_for (as-many-ids _ (parent_list new.parents p) here.0.parents.items holds)
      ∙ sym (words-there at.0 here.0 here.1)
      ∙ sym
      (get_or_from_slice_get (map words_at new.order.items) p (words_at at.0) d
      (slice_get-map words_at new.order.items p ∙ ap (option_map words_at) at.1)))

  in-order-as-handed : map words_at (range_with_len 0 (length commits))
      ≡ map (λ (c : NewCommit). words_for (length c.parents.items)) commits
  in-order-as-handed =
      same_lists (map words_at (range_with_len 0 (length commits)))
      (map (λ (c : NewCommit). words_for (length c.parents.items)) commits)
      (length-map-range_with_len words_at 0 (length commits)
      ∙ sym (length-map commits (λ (c : NewCommit). words_for (length c.parents.items))))
      (λ i d lt.
      let inside : i < length commits = omega (arith, length-map-range_with_len words_at 0 (length commits)) in
      let here = some-place commits i inside in
      get_or_from_slice_get (map words_at (range_with_len 0 (length commits))) i (words_at i) d
      (get-map-range words_at 0 (length commits) i inside ∙ ap (λ (n : ℕ). Some (words_at n)) (omega arith))
      ∙ words-there i here.0 here.1
      ∙ sym
      (get_or_from_slice_get (map (λ (c : NewCommit). words_for (length c.parents.items)) commits) i
      (words_for (length here.0.parents.items)) d
      (slice_get-map (λ (c : NewCommit). words_for (length c.parents.items)) commits i
      ∙ ap (option_map (λ (c : NewCommit). words_for (length c.parents.items))) here.1)))

  pub same-words : length (flat_map extra_words (lists_of new)) ≡ word_count commits
  same-words =
      length-flat_map extra_words (lists_of new)
      ∙ sym (sum-map words_in (lists_of new))
      ∙ ap sum each-words
      ∙ sum-map words_at new.order.items
      ∙ sum-all words_at (length commits) new.order.items is_new.as_many is_new.all
      ∙ ap sum in-order-as-handed
      ∙ sum-map (λ (c : NewCommit). words_for (length c.parents.items)) commits
