-- layers that were searched one after another
use Rattle.std.proofs.Common.{◌≡◌, ℕ, suc, ◌+◌, ◌<◌, ◌≤◌, List, [], ◌∷◌, ◌++◌, All, length, take, drop, get_or, string_bytes}
use Rattle.std.proofs.Common.{Option, refl, sym, ap, subst, ◌∙◌, arith}
use Rattle.std.specs.List.{AllZip, sum_by}
use Rattle.std.proofs.Math.Seq.{drop-cons}
use Rattle.std.proofs.lemmas.List.{take-append-drop, take_all, take_more}
use Rattle.std.proofs.lemmas.List.Elements.{All-drop, All-head, All-nil, All-push, All-tail, All-take}
use Rattle.std.proofs.lemmas.List.Sums.{sum_by_more, sum_by_more_le}
use Rattle.std.proofs.lemmas.Option.{slice_get_within}
use Rattle.graph_folder.specs.Tree.{Tree}
use Rattle.graph_format.specs.Layer.{Layer}
use Rattle.graph_find.specs.ChainFinding.{AnswersInLayers, IsLayerOfChain}
use Rattle.graph_find.specs.ChainHeads.{IsHeadOfLayer}
use Rattle.graph_find.specs.LayerFinding.{AnswersInLayer}
use Rattle.graph_find.specs.declared.answer.FoundCommit.{FoundCommit}
use Rattle.graph_find.specs.declared.answer.SearchAnswer.TheVariants.{Found, Missing}
use Rattle.graph_find.specs.declared.chain.ChainLayer.{ChainLayer}
use Rattle.graph_find.proofs.AnswerLemmas.{some-layer}
use Rattle.graph_find.proofs.ChainHeadLemmas.{counts, layers-counted}
use Rattle.graph_find.proofs.FoundInLayersLemmas.{Misses, answers-found, answers-missing}
use Rattle.graph_find.proofs.LayerLemmas.{keeps-head}

zip-append : {A B : Type 0} (R : A → B → Type 0) (xs more : List A) (ys others : List B) → AllZip R xs ys → AllZip R more others
    → AllZip R (xs ++ more) (ys ++ others)
zip-append R [] more [] others zip rest = rest
zip-append R [] more (y ∷ ys) others zip rest = absurd zip
zip-append R (x ∷ xs) more [] others zip rest = absurd zip
zip-append R (x ∷ xs) more (y ∷ ys) others zip rest = (zip.0, zip-append R xs more ys others zip.1 rest)

-- Some layers of so many heads do not have the id; they have so many commits.
pub record SearchedTo (known : Option Tree) (heads : List ChainLayer) (id : List ℕ) (count commits : ℕ) : Type 0 where
  pub layers : List Layer
  pub each : AllZip (IsLayerOfChain known) (take count heads) layers
  pub missed : All (Misses id) layers
  pub counted : commits ≡ sum_by counts (take count heads)

module _ (known : Option Tree) (heads : List ChainLayer) (id : List ℕ) where
  pub searched-none : SearchedTo known heads id 0 0
  searched-none = record { layers = []; each = tt; missed = All-nil (Misses id); counted = refl }

  pub some-layers : (rest : List ChainLayer) → All (IsHeadOfLayer known) rest
      → (layers : List Layer) × AllZip (IsLayerOfChain known) rest layers
  some-layers [] read = ([], tt)
  some-layers (head ∷ rest) read =
      let is = All-head (IsHeadOfLayer known) head rest read in
      let one = some-layer known (string_bytes head.path) head.head is.head is.begins in
      let more = some-layers rest (All-tail (IsHeadOfLayer known) head rest read) in
      (one.0 ∷ more.0, (one.1, more.1))

  -- all of them
  pub searched-all : (count commits : ℕ) → length heads ≤ count → SearchedTo known heads id count commits
      → AnswersInLayers known heads id Missing
  searched-all count commits past searched = record {
    layers = searched.layers;
    each = subst (λ (hs : List ChainLayer). AllZip (IsLayerOfChain known) hs searched.layers) (take_all count heads past)
        searched.each;
    answers = answers-missing id searched.layers searched.missed;
  }

  module _ (read : All (IsHeadOfLayer known) heads) (count commits : ℕ) (head : ChainLayer) (within : count < length heads)
      (here : head ≡ get_or heads count head) (searched : SearchedTo known heads id count commits) where
    pub head-read : IsHeadOfLayer known head
    head-read = subst (IsHeadOfLayer known) (sym here) (read count head within)

    -- one more
    pub searched-more : (next : ℕ) → next ≡ commits + head.head.layout.commits
        → AnswersInLayer known (string_bytes head.path) head.head id Missing → SearchedTo known heads id (count + 1) next
    searched-more next is found = record {
      layers = searched.layers ++ found.layer ∷ [];
      each = rw (take_more heads count head within, ← here)
          (zip-append (IsLayerOfChain known) (take count heads) (head ∷ []) searched.layers (found.layer ∷ []) searched.each
          (found.is, tt));
      missed = All-push (Misses id) searched.layers found.layer searched.missed found.answers;
      counted =
          let more = sum_by_more counts heads count head within in
          let one : counts head ≡ counts (get_or heads count head) = ap counts here in
          omega (arith, is, searched.counted, more, one);
    }

    -- the commits before the head's, and its own, are among those of all
    pub searched-fits : commits + head.head.layout.commits ≤ sum_by counts heads
    searched-fits =
        let one : counts head ≡ counts (get_or heads count head) = ap counts here in
        omega (arith, searched.counted, sum_by_more_le counts heads count head within, one)

    pub commit-fits : (commit : FoundCommit) → AnswersInLayer known (string_bytes head.path) head.head id (Found commit)
        → commit.pos < head.head.layout.commits
    commit-fits commit found =
        let keeps = keeps-head known (string_bytes head.path) head.head head-read.head found.layer found.is in
        omega (arith, slice_get_within found.layer.ids commit.pos id found.answers.0.holds, keeps.size)

    -- the id is in the next layer
    pub searched-found : (commit answer : FoundCommit) → AnswersInLayer known (string_bytes head.path) head.head id (Found commit)
        → answer.pos ≡ commits + commit.pos → answer.generation ≡ commit.generation → answer.time ≡ commit.time
        → AnswersInLayers known heads id (Found answer)
    searched-found commit answer found pos generation time =
        let rest = some-layers (drop (suc count) heads) (All-drop (IsHeadOfLayer known) (suc count) heads read) in
        let cut : take count heads ++ (head ∷ drop (suc count) heads) ≡ heads =
        ap (λ (h : ChainLayer). take count heads ++ (h ∷ drop (suc count) heads)) here
        ∙ ap (λ (hs : List ChainLayer). take count heads ++ hs) (sym (drop-cons heads count head within))
        ∙ take-append-drop count heads in
        let before = layers-counted known (take count heads) searched.layers searched.each
        (All-take (IsHeadOfLayer known) count heads read) in
        record {
          layers = searched.layers ++ found.layer ∷ rest.0;
          each = subst (λ (hs : List ChainLayer). AllZip (IsLayerOfChain known) hs (searched.layers ++ found.layer ∷ rest.0)) cut
              (zip-append (IsLayerOfChain known) (take count heads) (head ∷ drop (suc count) heads) searched.layers
              (found.layer ∷ rest.0) searched.each (found.is, rest.1));
          answers = answers-found id searched.layers rest.0 found.layer commit answer searched.missed found.answers
              (omega (arith, pos, searched.counted, before)) generation time;
        }
