-- what is asked of a graph of which parts are kept
use Rattle.std.proofs.Common.{◌≡◌, ◌∙◌, sym, [], ◌∷◌, ℕ, List, Option, Result, Ok, Err, IfOk, Vec}
use Rattle.std.specs.Global.{Global}
use Rattle.std.specs.Option.{ForSome}
use Rattle.graph_folder.specs.Tree.{Tree}
use Rattle.graph_format.specs.Layer.{Layer}
use Rattle.graph_format.specs.declared.Position.{Position}
use Rattle.gix_commitgraph.specs.Graph.{IsGraph}
use Rattle.gix_commitgraph.specs.OpenAlways.{IsFromPath}
use Rattle.commit_search.specs.Positions.{numbers_of}
use Rattle.graph_parts.specs.PathOpening.{opened_at}
use Rattle.graph_parts.specs.OfTree.{AreOfTree}
use Rattle.graph_parts.specs.Shown.{AreGraphParts, ArePartsOf, SeesMore, Shows, files_of}
use Rattle.graph_parts.specs.declared.parts.GraphParts.{GraphParts}
use Rattle.graph_parts.proofs.TreeLemmas.{seen-shown}
use Rattle.graph_unchecked.specs.PartSource.{ReadsOn}
use Rattle.graph_unchecked.specs.PartLookups.{AreBoth, AreFirstAndOthers}
use Rattle.graph_unchecked.specs.Trusted.{IsTrustedAt}
use Rattle.graph_unchecked.specs.Unchecked.{IsAnswerAt, IsFoundAmong, IsFoundBetween}
use Rattle.answers.specs.declared.answer.Answer.TheVariants.{Known}
use Rattle.graph_unchecked.proofs.SearchLemmas.{shows-after}

-- parts that are read one after another
pub reads-then : (known : Option Tree) (old mid new : GraphParts) → ReadsOn known old mid → ReadsOn known mid new
    → ReadsOn known old new
reads-then known old mid new first second = record {
  right = second.right;
  same = second.same ∙ first.same;
  of = λ of. second.of (first.of of);
  kept = λ t tells. first.kept t (second.kept t tells);
}

-- the parts of what was opened
pub of-opened : (known : Option Tree) (path : List ℕ) (parts : GraphParts)
    → ArePartsOf known (λ (t : Tree). opened_at t path) (IsFromPath path) parts → IsTrustedAt known path parts
of-opened known path parts of =
    let at = of.each of.some.0 of.some.1 in
    record {
      right = of.right;
      of = seen-shown known parts of.some.0 of.some.1;
      opened = λ tree is. record {
        layers = of.some.0;
        opens = at.opens tree is;
        graph = at.graph;
        so = of.some.1;
      };
    }

-- are of it after more was read
pub of-read : (known : Option Tree) (path : List ℕ) (old new : GraphParts) → ReadsOn known old new → IsTrustedAt known path old
    → IsTrustedAt known path new
of-read known path old new reads of = record {
  right = reads.right;
  of = reads.of of.of;
  opened = λ tree is.
      let at = of.opened tree is in
      record {
        layers = at.layers;
        opens = at.opens;
        graph = at.graph;
        so = shows-after known tree is old new at.layers reads.same (reads.of of.of) at.so;
      };
}

-- and so are others of the same files in the tree
pub of-same : (known : Option Tree) (path : List ℕ) (old new : GraphParts) → AreGraphParts new → AreOfTree known new
    → files_of old ≡ files_of new → IsTrustedAt known path old → IsTrustedAt known path new
of-same known path old new right of-tree same of = record {
  right = right;
  of = of-tree;
  opened = λ tree is.
      let at = of.opened tree is in
      record {
        layers = at.layers;
        opens = at.opens;
        graph = at.graph;
        so = shows-after known tree is old new at.layers (sym same) of-tree at.so;
      };
}

-- what is so of the layers that they show is so of the graph
pub answer-at : {A E : Type 0} (known : Option Tree) (path : List ℕ) (old : GraphParts) (IsSo : List Layer → A → Type 0)
    (r : Result A E)
    → ForSome known (λ _. (layers : List Layer) → Shows known old layers → IsGraph layers → IfOk r (IsSo layers))
    → IsTrustedAt known path old → ForSome known (λ tree. IfOk r (IsAnswerAt tree path IsSo))
answer-at known path old IsSo (Ok answer) so of tree is =
    let at = of.opened tree is in
    record {
      layers = at.layers;
      opens = at.opens;
      graph = at.graph;
      so = so tree is at.layers at.so at.graph;
    }
answer-at known path old IsSo (Err e) so of tree is = tt

-- the same where it is so of the layers that are shown once more was read
pub answer-seen : {A E : Type 0} (known : Option Tree) (path : List ℕ) (old new : GraphParts) (IsSo : List Layer → A → Type 0)
    (r : Result A E) → SeesMore known old new
    → IfOk r (λ answer. (layers : List Layer) → Shows known new layers → IsGraph layers → IsSo layers answer)
    → IsTrustedAt known path old → ForSome known (λ tree. IfOk r (IsAnswerAt tree path IsSo))
answer-seen known path old new IsSo (Ok answer) sees so of tree is =
    let at = of.opened tree is in
    record {
      layers = at.layers;
      opens = at.opens;
      graph = at.graph;
      so = so at.layers (sees.told tree is at.layers at.so) at.graph;
    }
answer-seen known path old new IsSo (Err e) sees so of tree is = tt

-- an answer about the positions that were found
pub both-found : {A : Type 0} (IsSo : List Layer → ℕ → ℕ → A → Type 0) (first second : List ℕ) (both : Position × Position)
    (answer : A) (layers : List Layer) → IsFoundBetween AreBoth first second layers (Known both)
    → IsSo layers both.0.0 both.1.0 answer → IsFoundBetween IsSo first second layers (Known answer)
both-found IsSo first second both answer layers ([], zipped, are) so = absurd zipped
both-found IsSo first second both answer layers (p ∷ [], zipped, are) so = absurd zipped.1
both-found IsSo first second both answer layers (p ∷ q ∷ [], zipped, are) so =
    (p ∷ q ∷ [], zipped, rw (are.0, are.1) so)
both-found IsSo first second both answer layers (p ∷ q ∷ r ∷ rest, zipped, are) so = absurd are

pub all-found : {A : Type 0} (IsSo : List Layer → ℕ → List ℕ → A → Type 0) (ids : List (List ℕ))
    (all : Position × Vec Position Global) (answer : A) (layers : List Layer)
    → IsFoundAmong AreFirstAndOthers ids layers (Known all)
    → IsSo layers all.0.0 (numbers_of all.1.items) answer → IsFoundAmong IsSo ids layers (Known answer)
all-found IsSo ids all answer layers ([], zipped, are) so = absurd are
all-found IsSo ids all answer layers (first ∷ others, zipped, are) so = (first ∷ others, zipped, rw (are.0, are.1) so)
