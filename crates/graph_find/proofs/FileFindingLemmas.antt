-- the search in a file as that in its one layer
use Rattle.std.proofs.Common.{◌≡◌, ℕ, ◌≤◌, List, [], ◌∷◌, Option, Result, Ok, refl, ap, ◌∙◌}
use Rattle.std.proofs.Common.{Err, IfOk, arith, lit<}
use Rattle.std.proofs.lemmas.List.Elements.{All-cons, All-nil}
use Rattle.graph_folder.specs.Tree.{Tree}
use Rattle.graph_folder.specs.declared.folder.ReadError.{ReadError}
use Rattle.graph_format.specs.Layer.{Layer, IsOpened}
use Rattle.graph_format.specs.declared.TheConstants.{MAX_COMMITS}
use Rattle.graph_layer.specs.OpenAnswer.{and_then}
use Rattle.graph_layer.specs.declared.opening.error.OpenError.{OpenError}
use Rattle.gix_commitgraph.specs.Graph.{total}
use Rattle.gix_commitgraph.specs.OpenAlways.{IsFromFile}
use Rattle.gix_commitgraph.specs.Opening.{file_opened, graph_of_layers, graph_unless_refused}
use Rattle.gix_commitgraph.proofs.layers.LayerListLemmas.{graph-accepted}
use Rattle.graph_find.specs.Finding.{Answers, AnswersIn, FindsInFile}
use Rattle.graph_find.specs.LayerFinding.{AnswersInLayer, AnswersOfLayer, FindsInLayer, IsLayerOfHead}
use Rattle.graph_find.specs.ReadHead.{IsHead}
use Rattle.graph_find.specs.declared.answer.SearchAnswer.{SearchAnswer}
use Rattle.graph_find.specs.declared.answer.SearchAnswer.TheVariants.{Found, Missing, NotByParts}
use Rattle.graph_find.specs.declared.head.Head.{Head}
use Rattle.graph_find.proofs.FoundInLayersLemmas.{Misses, OpensTo, answers-found, answers-missing, none-refused}
use Rattle.graph_find.proofs.LayerLemmas.{keeps-head, opens-head}

-- the answer of one layer is that of the graph
answers-one : (layer : Layer) (id : List ℕ) (answer : SearchAnswer) → AnswersOfLayer layer id answer
    → Answers (layer ∷ []) id answer
answers-one layer id (Found commit) there =
    answers-found id [] [] layer commit commit (All-nil (Misses id)) there (omega arith) refl refl
answers-one layer id Missing there = answers-missing id (layer ∷ []) (All-cons (Misses id) layer [] there (All-nil (Misses id)))
answers-one layer id NotByParts there = tt

-- the layer of a head makes the graph of its file
pub file-opened : (known : Option Tree) (path : List ℕ) (head : Head) → IsHead head → (layer : Layer)
    → IsLayerOfHead known path head layer
    → OpensTo known (λ (tree : Tree). file_opened tree path) (IsFromFile path) (layer ∷ [])
file-opened known path head is layer of =
    let keeps = keeps-head known path head is layer of in
    let few : total (layer ∷ []) ≤ MAX_COMMITS = omega (arith, is.order.few, keeps.size) in
    let none = none-refused head.layout.kind (layer ∷ []) (lit< tt) few
    (All-cons (λ (l : Layer). l.kind ≡ head.layout.kind) layer [] keeps.kind
    (All-nil (λ (l : Layer). l.kind ≡ head.layout.kind))) in
    record {
      opens = λ tree there.
          ap (λ (r : Result Layer OpenError). and_then r (λ (l : Layer). graph_of_layers (l ∷ [])))
          (opens-head known path head is layer of tree 0 there)
          ∙ ap (λ r. graph_unless_refused r (layer ∷ [])) none;
      graph = graph-accepted (layer ∷ []) none (All-cons IsOpened layer [] keeps.opened (All-nil IsOpened));
      from = ap (λ (p : List ℕ). p ∷ []) keeps.path;
    }

module _ (known : Option Tree) (path : List ℕ) (head : Head) (is : IsHead head) (id : List ℕ) where
  file-answers : (answer : SearchAnswer) → AnswersInLayer known path head id answer
      → AnswersIn known (λ (tree : Tree). file_opened tree path) (IsFromFile path) id answer
  file-answers answer found =
      let opened = file-opened known path head is found.layer found.is in
      record {
        layers = found.layer ∷ [];
        opens = opened.opens;
        graph = opened.graph;
        from = opened.from;
        answers = answers-one found.layer id answer found.answers;
      }

  pub finds-in_file : (answer : SearchAnswer) → FindsInLayer known path head id answer → FindsInFile known path id answer
  finds-in_file (Found commit) found = file-answers (Found commit) found
  finds-in_file Missing found = file-answers Missing found
  finds-in_file NotByParts found = tt

-- where the search did not fail
pub ok-in_file : (known : Option Tree) (path : List ℕ) (head : Head) → IsHead head → (id : List ℕ)
    → (answer : Result SearchAnswer ReadError) → IfOk answer (FindsInLayer known path head id)
    → IfOk answer (FindsInFile known path id)
ok-in_file known path head is id (Ok answer) found = finds-in_file known path head is id answer found
ok-in_file known path head is id (Err error) found = tt
