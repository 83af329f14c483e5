-- the parents that are read of a commit, in their order
use Rattle.std.proofs.Common.{◌≡◌, ℕ, ◌+◌, ◌<◌, List, [], ◌∷◌, ◌++◌, Option, Some, None, length}
use Rattle.std.proofs.Common.{refl, sym, ap, subst, ◌∙◌, arith, min}
use Rattle.std.proofs.Math.Nat.{min-le_left}
use Rattle.graph_folder.specs.Tree.{Tree}
use Rattle.graph_find.specs.declared.chain.ChainLayer.{ChainLayer}
use Rattle.std.specs.Prelude.{Result, Ok, Err, IfOk}
use Rattle.std.proofs.Common.{append_assoc}
use Rattle.std.proofs.lemmas.List.{map-append}
use Rattle.std.specs.List.{slice_get, slice_index}
use Rattle.std.specs.Option.{option_map_or}
use Rattle.graph_walks.specs.History.{parents_at}
use Rattle.graph_format.specs.Format.{words}
use Rattle.graph_format.specs.Layer.{Layer, record_at}
use Rattle.graph_format.specs.Parents.{both_parents, edge_of, extra_edge_of, parents_of, second_parents}
use Rattle.graph_format.specs.StoredHistory.{history_of}
use Rattle.graph_format.specs.declared.Position.{Position}
use Rattle.graph_format.specs.declared.parents.ExtraEdge.{ExtraEdge}
use Rattle.graph_format.specs.declared.parents.ExtraEdge.TheVariants as extra
use Rattle.graph_format.specs.declared.parents.ParentEdge.{ParentEdge}
use Rattle.graph_format.specs.declared.parents.ParentEdge.TheVariants as edge
use Rattle.gix_commitgraph.specs.GraphLaw.{LiesIn}
use Rattle.commit_search.specs.EdgeLists.{list_in, list_of, named_by, named_from}
use Rattle.commit_search.specs.Positions.{numbers_of}
use Rattle.commit_search.proofs.EdgeListLemmas.{named_internal, named_last, named_past}
use Rattle.graph_parts.specs.PartFiles.{edge_count, edge_words}
use Rattle.graph_parts.specs.Shown.{AreGraphParts, Shows, edge_count_at, files_of}
use Rattle.graph_parts.specs.Stored.{StoresAt, StoresEdge}
use Rattle.graph_parts.specs.declared.parts.GraphParts.{GraphParts}
use Rattle.graph_parts.proofs.GraphPartLemmas.{edges-long}
use Rattle.graph_parts.specs.declared.layer.StoredCommit.{StoredCommit}
use Rattle.graph_unchecked.specs.NamedParents.{named_by_both, named_by_second}
use Rattle.graph_unchecked.specs.PartSource.{word_total}
use Rattle.graph_unchecked.proofs.FieldLemmas.{named_by_fields}

-- what the fields name is what is decoded of them
named-second : (edges : Option (List ℕ)) (second : ParentEdge)
    → named_by_fields (second_parents second edges) ≡ named_by_second (option_map_or words edges []) second
named-second edges edge.None = refl
named-second edges (edge.GraphPosition pos) = refl
named-second None (edge.ExtraEdgeIndex index) = sym (named_past [] index (omega arith))
named-second (Some bytes) (edge.ExtraEdgeIndex index) = refl

named-both : (edges : Option (List ℕ)) (first second : ParentEdge)
    → named_by_fields (both_parents first second edges) ≡ named_by_both (option_map_or words edges []) first second
named-both edges edge.None edge.None = refl
named-both edges edge.None (edge.GraphPosition pos) = refl
named-both edges edge.None (edge.ExtraEdgeIndex index) = refl
named-both edges (edge.GraphPosition pos) second = ap (λ (rest : List ℕ). pos.0 ∷ rest) (named-second edges second)
named-both edges (edge.ExtraEdgeIndex index) second = refl

-- the parents of a commit, by what is stored of it, and the words of its layer's list
pub parents-stored : (layers : List Layer) (p l i : ℕ) (commit : StoredCommit) (at : StoresAt layers p commit)
    → parents_at (history_of layers) p ≡ named_by_fields (parents_of (record_at at.layer at.pos) at.layer.edges)
    → l ≡ i → LiesIn layers p i at.layer
    → named_by_both (list_in layers l) commit.first commit.second ≡ parents_at (history_of layers) p
parents-stored layers p l i commit at law same lies =
    let list : list_in layers l ≡ list_of at.layer =
    ap (λ (o : Option Layer). option_map_or list_of o []) (ap (slice_get layers) same ∙ lies.there) in
    ap (λ (xs : List ℕ). named_by_both xs commit.first commit.second) list
    ∙ sym (named-both at.layer.edges commit.first commit.second)
    ∙ ap (λ (f : ParentEdge). named_by_fields (both_parents f commit.second at.layer.edges)) at.stores.first
    ∙ ap (λ (f : ParentEdge). named_by_fields (both_parents (edge_of (record_at at.layer at.pos).parent1) f at.layer.edges))
    at.stores.second
    ∙ sym law

-- a word more
module _ (list : List ℕ) (index : ℕ) (lt : index < length list) (word : ExtraEdge)
    (says : word ≡ extra_edge_of (slice_index list index)) (before : List Position) (pos : Position) where
  push-number : numbers_of (before ++ pos ∷ []) ≡ numbers_of before ++ pos.0 ∷ []
  push-number = map-append (λ (x : Position). x.0) before (pos ∷ [])

  pub word-more : word ≡ extra.Internal pos
      → numbers_of (before ++ pos ∷ []) ++ named_from list (index + 1) ≡ numbers_of before ++ named_from list index
  word-more is =
      ap (λ (xs : List ℕ). xs ++ named_from list (index + 1)) push-number
      ∙ append_assoc (numbers_of before) (pos.0 ∷ []) (named_from list (index + 1))
      ∙ ap (λ (xs : List ℕ). numbers_of before ++ xs) (sym (named_internal list index pos lt (sym says ∙ is)))

  last-named : (w : ExtraEdge) → word ≡ w → ((q : Position) → word ≡ extra.Internal q → ⊥) → pos.0 ≡ named_by w
      → pos.0 ∷ [] ≡ named_from list index
  last-named (extra.Internal q) is never same = absurd (never q is)
  last-named (extra.Last q) is never same =
      ap (λ (n : ℕ). n ∷ []) same ∙ sym (named_last list index q lt (sym says ∙ is))

  pub word-last : ((q : Position) → word ≡ extra.Internal q → ⊥) → pos.0 ≡ named_by word
      → numbers_of (before ++ pos ∷ []) ≡ numbers_of before ++ named_from list index
  word-last never same =
      push-number ∙ ap (λ (xs : List ℕ). numbers_of before ++ xs) (last-named word refl never same)

few-words : (n index : ℕ) → index < min n 4294967295 → index < n
few-words n index lt = omega (arith, lt, min-le_left n 4294967295)

-- a word that has a number is one of the list
pub words-as : (old mid : GraphParts) (l count index : ℕ) → count ≡ word_total (files_of old) l → files_of mid ≡ files_of old
    → index < count → index < edge_count_at mid l
words-as old mid l count index is same lt =
    let few : index < edge_count_at old l =
    few-words (edge_count_at old l) index (subst (λ (n : ℕ). index < n) is lt) in
    subst (λ (files : List ChainLayer). index < option_map_or edge_count (slice_get files l) 0) (sym same) few

-- what it says is what the list of the layer says
pub words-told : (known : Option Tree) (parts : GraphParts) (layers : List Layer) (l index : ℕ) (word : ExtraEdge)
    → AreGraphParts parts → Shows known parts layers → index < edge_count_at parts l → StoresEdge layers l index word
    → (index < length (list_in layers l)) × (word ≡ extra_edge_of (slice_index (list_in layers l) index))
words-told known parts layers l index word right shows lt at =
    let list : list_in layers l ≡ edge_words at.layer =
    ap (λ (o : Option Layer). option_map_or list_of o []) at.there in
    let long = edges-long known parts layers l at.layer right shows at.there in (
      omega (arith, ap (λ (xs : List ℕ). length xs) list, long, lt),
      at.says ∙ ap (λ (xs : List ℕ). extra_edge_of (slice_index xs index)) (sym list),
    )

-- what is so of an answer, if there is one
pub if-ok : {A E : Type 0} (P Q : A → Type 0) (r : Result A E) → ((answer : A) → P answer → Q answer) → IfOk r P → IfOk r Q
if-ok P Q (Ok answer) so is = so answer is
if-ok P Q (Err error) so is = tt
