-- what a source says of commits whose records are read by parts
use Rattle.std.proofs.Common.{◌≡◌, ℕ, ◌+◌, ◌<◌, List, [], length, min, slice_index, Option, Some, refl, sym, ap, subst, ◌∙◌}
use Rattle.std.proofs.Common.{◌-◌, All, IfOk, Result, arith}
use Rattle.std.specs.List.{slice_get}
use Rattle.std.proofs.Math.Nat.{min-le_left}
use Rattle.std.specs.Option.{option_map_or}
use Rattle.graph_folder.specs.Tree.{Tree}
use Rattle.graph_walks.specs.History.{generation_at, parents_at}
use Rattle.graph_format.specs.Layer.{IsOpened, Layer, record_at}
use Rattle.graph_format.specs.Parents.{both_parents, edge_of, extra_edge_of, parents_of}
use Rattle.graph_format.specs.StoredHistory.{history_of}
use Rattle.graph_format.specs.declared.parents.ExtraEdge.{ExtraEdge}
use Rattle.graph_format.specs.declared.parents.ExtraEdge.TheVariants as extra
use Rattle.graph_format.specs.declared.parents.ParentEdge.{ParentEdge}
use Rattle.gix_commitgraph.specs.Graph.{IsGraph, graph_commits, start, total}
use Rattle.gix_commitgraph.specs.GraphLaw.{LiesIn}
use Rattle.commit_search.specs.EdgeLists.{list_in, list_of}
use Rattle.commit_search.specs.Source.{AreFieldsRead, AreFieldsTold, IsNextListed, IsWordRead, IsWordTold, Told}
use Rattle.graph_find.specs.declared.chain.ChainLayer.{ChainLayer}
use Rattle.graph_parts.specs.PartFiles.{commits_in_all, edge_words}
use Rattle.graph_parts.specs.Shown.{AreGraphParts, SeesMore, Shows, commits_of_parts, edge_count_at, files_of}
use Rattle.graph_parts.specs.Spots.{LiesInFile}
use Rattle.graph_parts.specs.Stored.{StoresAt, StoresEdge}
use Rattle.graph_parts.specs.declared.layer.StoredCommit.{StoredCommit}
use Rattle.graph_parts.specs.declared.parts.GraphParts.{GraphParts}
use Rattle.graph_parts.proofs.GraphPartLemmas.{count-files, edges-long, spot-lies}
use Rattle.graph_parts.proofs.TreeLemmas.{seen-more}
use Rattle.graph_parts.proofs.SpotLemmas.{one-file}
use Rattle.graph_unchecked.specs.PartSource.{AreFieldsThere, IsWordOf, IsWordThere, ReadsOn, PartsTell, told_with_dates}
use Rattle.graph_unchecked.specs.PartSource.{word_total}
use Rattle.graph_unchecked.proofs.DatedLemmas.{lists-below}
use Rattle.graph_unchecked.proofs.FieldLemmas.{fields-told, first-within, named_by_fields, second-within}

-- more is read
pub reads_on : (known : Option Tree) (old new : GraphParts) → AreGraphParts new → SeesMore known old new → ReadsOn known old new
reads_on known old new right sees = record {
  right = right;
  same = sees.same;
  of = seen-more known old new sees;
  kept = λ t tells. record {
    layers = tells.layers;
    shows = sees.kept tells.layers tells.shows;
    graph = tells.graph;
    told = tells.told;
  };
}

-- the files have as many commits as the parts
pub as_many : (parts : GraphParts) → commits_in_all (files_of parts) ≡ commits_of_parts parts
as_many parts = count-files parts.layers.items

-- and do so after more was read
pub same-count : (known : Option Tree) (old new : GraphParts) → ReadsOn known old new
    → commits_of_parts new ≡ commits_of_parts old
same-count known old new reads = sym (as_many new) ∙ ap commits_in_all reads.same ∙ as_many old

-- the generation number that is read
pub number-told : (known : Option Tree) (parts : GraphParts) (p : ℕ) (commit : StoredCommit)
    → ((layers : List Layer) (q pos : ℕ) (layer : Layer) → All IsOpened layers
    → slice_get (graph_commits layers) q ≡ Some (layer, pos)
    → generation_at (history_of layers) q ≡ (record_at layer pos).generation)
    → ((layers : List Layer) → Shows known parts layers → StoresAt layers p commit)
    → (t : Told) → PartsTell known parts t → commit.generation ≡ generation_at t.history p
number-told known parts p commit law stores t tells =
    let at = stores tells.layers tells.shows in
    at.stores.generation
    ∙ sym (law tells.layers p at.pos at.layer tells.graph.opened at.stands)
    ∙ ap (λ (x : Told). generation_at x.history p) (sym tells.told)

-- words of a file have a number, and are so many
few-words : (n index : ℕ) → index < min n 4294967295 → index < n
few-words n index lt = omega (arith, lt, min-le_left n 4294967295)

-- the list of the layer in which a position lies
list-at : (layers : List Layer) (p i l : ℕ) (layer other : Layer)
    → ((a b : ℕ) (x y : Layer) → LiesIn layers p a x → LiesIn layers p b y → a ≡ b) → LiesIn layers p i layer
    → LiesIn layers p l other → list_in layers l ≡ edge_words layer
list-at layers p i l layer other one at there =
    ap (λ (o : Option Layer). option_map_or list_of o []) (ap (slice_get layers) (one l i other layer there at) ∙ at.there)

module _ (known : Option Tree) (parts : GraphParts) (files : List ChainLayer) (same : files_of parts ≡ files)
    (right : AreGraphParts parts) (p : ℕ) where
  -- the layer of a file, in the layers that are shown
  lies-there : (layers : List Layer) (l : ℕ) → Shows known parts layers → LiesInFile files p l
      → (layer : Layer) × LiesIn layers p l layer
  lies-there layers l shows lies =
      let at : LiesInFile (files_of parts) p l = subst (λ (fs : List ChainLayer). LiesInFile fs p l) (sym same) lies in
      spot-lies parts p l at.0 right at.1 known layers shows

  -- both parent fields
  module _ (commit : StoredCommit) (l : ℕ) (lies : LiesInFile files p l)
      (stores : (layers : List Layer) → Shows known parts layers → StoresAt layers p commit)
      (there : AreFieldsThere (commits_in_all files) (word_total files l) commit.first commit.second)
      (within : p < commits_in_all files)
      (counted : (layers : List Layer) → Shows known parts layers → commits_in_all files ≡ total layers)
      (long : (layers : List Layer) → IsGraph layers → length (history_of layers) ≡ total layers)
      (placed : (layers : List Layer) (pos : ℕ) (layer : Layer) → slice_get (graph_commits layers) p ≡ Some (layer, pos)
      → (i : ℕ) × LiesIn layers p i layer × (pos ≡ p - start layers i))
      (parents : (layers : List Layer) (pos : ℕ) (layer : Layer) → IsGraph layers
      → slice_get (graph_commits layers) p ≡ Some (layer, pos)
      → parents_at (history_of layers) p ≡ named_by_fields (parents_of (record_at layer pos) layer.edges))
      (one : (layers : List Layer) (a b : ℕ) (x y : Layer) → p < total layers → LiesIn layers p a x → LiesIn layers p b y
      → a ≡ b)
    where
      listed : (index : ℕ) → index < word_total files l → IsWordOf files p index
      listed index lt m at = subst (λ (k : ℕ). index < word_total files k) (one-file files p l m lies at) lt

      told-of-layers : (layers : List Layer) → Shows known parts layers → IsGraph layers
          → AreFieldsTold (told_with_dates layers) (LiesInFile files p) p (commit.first, commit.second)
      told-of-layers layers shows graph =
          let at = stores layers shows in
          let count : commits_in_all files ≡ length (history_of layers) = counted layers shows ∙ sym (long layers graph) in
          let place = placed layers at.pos at.layer at.stands in
          let below : p < total layers = omega (arith, within, counted layers shows) in
          fields-told (history_of layers) p at.layer.edges (told_with_dates layers).lists (LiesInFile files p)
          (omega (arith, within, count))
          (λ k lies_at.
          let other = lies-there layers k shows lies_at in
          lists-below layers k other.0 other.1.there
          ∙ list-at layers p place.0 k at.layer other.0 (λ a b x y. one layers a b x y below) place.1 other.1)
          (word_total files l) commit.first commit.second
          (parents layers at.pos at.layer graph at.stands
          ∙ ap (λ (f : ParentEdge). named_by_fields (both_parents f (edge_of (record_at at.layer at.pos).parent2) at.layer.edges))
          (sym at.stores.first)
          ∙ ap (λ (f : ParentEdge). named_by_fields (both_parents commit.first f at.layer.edges)) (sym at.stores.second))
          (subst (λ (n : ℕ). AreFieldsThere n (word_total files l) commit.first commit.second) count there)

      pub fields-read : AreFieldsRead (commits_in_all files) (IsWordOf files) (LiesInFile files) (PartsTell known parts) p
          (commit.first, commit.second)
      fields-read = record {
        first =
            first-within (commits_in_all files) (word_total files l) (IsWordOf files p) listed commit.first commit.second there;
        second =
            second-within (commits_in_all files) (word_total files l) (IsWordOf files p) listed commit.first commit.second there;
        told = λ t tells.
            subst (λ (x : Told). AreFieldsTold x (LiesInFile files p) p (commit.first, commit.second)) (sym tells.told)
            (told-of-layers tells.layers tells.shows tells.graph);
      }

  -- a word of a list
  module _ (l index : ℕ) (word : ExtraEdge) (lies : LiesInFile files p l) (within : index < word_total files l)
      (says : (layers : List Layer) → Shows known parts layers → StoresEdge layers l index word)
      (there : IsWordThere (commits_in_all files) (word_total files l) index word)
    where
      next-listed : (w : ExtraEdge) → w ≡ word → IsNextListed (word_total files l) (IsWordOf files p) index w
      next-listed (extra.Last pos) is = tt
      next-listed (extra.Internal pos) is =
          let lt : index + 1 < word_total files l =
          (subst (λ (w : ExtraEdge). IsWordThere (commits_in_all files) (word_total files l) index w) (sym is) there).next in (
            lt,
            λ m at. subst (λ (k : ℕ). index + 1 < word_total files k) (one-file files p l m lies at) lt,
          )

      word-told : (layers : List Layer) → Shows known parts layers → IsWordTold (told_with_dates layers) l index word
      word-told layers shows =
          let at = says layers shows in
          let list : (told_with_dates layers).lists l ≡ edge_words at.layer =
          lists-below layers l at.layer at.there ∙ ap (λ (o : Option Layer). option_map_or list_of o []) at.there in
          let long = edges-long known parts layers l at.layer right shows at.there in
          let few : index < edge_count_at parts l =
          few-words (edge_count_at parts l) index
          (subst (λ (fs : List ChainLayer). index < word_total fs l) (sym same) within) in
          record {
            there = omega (arith, ap (λ (xs : List ℕ). length xs) list, long, few);
            says = at.says ∙ ap (λ (xs : List ℕ). extra_edge_at xs) (sym list);
          }
        where
          extra_edge_at : List ℕ → ExtraEdge
          extra_edge_at xs = extra_edge_of (slice_index xs index)

      pub word-read : IsWordRead (commits_in_all files) (word_total files l) (IsWordOf files) (PartsTell known parts) p l index
          word
      word-read = record {
        commit = there.commit;
        next = next-listed word refl;
        told = λ t tells.
            subst (λ (x : Told). IsWordTold x l index word) (sym tells.told) (word-told tells.layers tells.shows);
      }

-- as the files count them
pub fields-as : (n m count many : ℕ) (first second : ParentEdge) → n ≡ count → m ≡ many → AreFieldsThere n m first second
    → AreFieldsThere count many first second
fields-as n m count many first second one two there =
    subst (λ (c : ℕ). AreFieldsThere c many first second) one
    (subst (λ (w : ℕ). AreFieldsThere n w first second) two there)

pub word-as : (n m count many index : ℕ) (word : ExtraEdge) → n ≡ count → m ≡ many → IsWordThere n m index word
    → IsWordThere count many index word
word-as n m count many index word one two there =
    subst (λ (c : ℕ). IsWordThere c many index word) one (subst (λ (w : ℕ). IsWordThere n w index word) two there)

-- in a folder whose tree is the same
pub fields-again : {E : Type 0} (known now : Option Tree) → now ≡ known → (parts : GraphParts) (count : ℕ)
    (listed lies : ℕ → ℕ → Type 0) (p : ℕ) (r : Result (ParentEdge × ParentEdge) E)
    → IfOk r (AreFieldsRead count listed lies (PartsTell known parts) p)
    → IfOk r (AreFieldsRead count listed lies (PartsTell now parts) p)
fields-again known now same parts count listed lies p r read =
    subst (λ (k : Option Tree). IfOk r (AreFieldsRead count listed lies (PartsTell k parts) p)) (sym same) read
