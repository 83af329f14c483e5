-- what layers answer together
use Rattle.std.proofs.Common.{◌≡◌, ℕ, ◌+◌, ◌-◌, ◌<◌, ◌≤◌, List, [], ◌∷◌, ◌++◌, All, length, Option, Some, None}
use Rattle.std.proofs.Common.{slice_get, refl, sym, ap, subst, ◌∙◌, arith}
use Rattle.std.specs.Prelude.{MatchOption, Ok, Result}
use Rattle.std.specs.Option.{ForSome}
use Rattle.std.proofs.Math.Seq.{take-append_seam}
use Rattle.std.proofs.lemmas.Option.{slice_get_within, slice_get-get_or, get_or_from_slice_get}
use Rattle.gix_hash_core.specs.declared.kind.Kind.{Kind}
use Rattle.graph_folder.specs.Tree.{Tree}
use Rattle.graph_format.specs.Layer.{Layer}
use Rattle.graph_format.specs.Lookup.{Found}
use Rattle.graph_format.specs.declared.TheConstants.{MAX_COMMITS}
use Rattle.graph_format.specs.declared.error.GraphError.{GraphError}
use Rattle.graph_format.specs.declared.error.GraphError.TheVariants.{NoFiles, TooManyCommits, HashMismatch, OutOfMemory}
use Rattle.graph_layer.specs.declared.opening.error.OpenError.{OpenError}
use Rattle.gix_commitgraph.specs.Graph.{IsGraph, MakesGraph, start, total}
use Rattle.gix_commitgraph.specs.GraphLaw.{IsRefusal}
use Rattle.gix_commitgraph.specs.GraphLookup.{FoundIn}
use Rattle.gix_commitgraph.specs.GraphRefusal.{graph_refusal, kind_at}
use Rattle.gix_commitgraph.proofs.layers.GraphLemmas.{judged}
use Rattle.gix_commitgraph.proofs.layers.LayerListLemmas.{get-front, graph_commits-counted, kind_at-is}
use Rattle.gix_commitgraph.proofs.lookup.GraphLookupLemmas.{IsMissed, found_in-counted, found_in-none}
use Rattle.graph_find.specs.Finding.{Answers}
use Rattle.graph_find.specs.LayerFinding.{AnswersOfLayer}
use Rattle.graph_find.specs.declared.answer.FoundCommit.{FoundCommit}
use Rattle.graph_find.specs.declared.answer.SearchAnswer.TheVariants.{Found as found_at, Missing}

-- The layers make a graph: where the tree is known, the one that an opener finds there.
pub record OpensTo (known : Option Tree) (opened : Tree → Result (List Layer) OpenError) (IsFrom : List Layer → Type 0)
    (layers : List Layer) : Type 0 where
  pub opens : ForSome known (λ tree. opened tree ≡ Ok layers)
  pub graph : IsGraph layers
  pub from : IsFrom layers

-- a layer in which the id is not found
abbrev pub Misses : List ℕ → Layer → Type 0
Misses id layer = Found layer id None

get-middle : (front : List Layer) (layer : Layer) (rest : List Layer)
    → slice_get (front ++ layer ∷ rest) (length front) ≡ Some layer
get-middle [] layer rest = refl
get-middle (x ∷ xs) layer rest = get-middle xs layer rest

start-middle : (front rest : List Layer) → total front ≡ start (front ++ rest) (length front)
unfolding start
start-middle front rest = sym (ap total (take-append_seam front rest))

missed-front : (id : List ℕ) (front rest : List Layer) → All (Misses id) front → IsMissed (front ++ rest) id (length front)
missed-front id front rest missed = record {
  each = λ i layer h here.
      let there : slice_get front i ≡ Some layer = sym (get-front front rest i h) ∙ here in
      subst (Misses id) (get_or_from_slice_get front i layer layer there) (missed i layer h);
}

-- the first layer that has the id
pub answers-found : (id : List ℕ) (front rest : List Layer) (layer : Layer) (commit answer : FoundCommit)
    → All (Misses id) front → AnswersOfLayer layer id (found_at commit)
    → answer.pos ≡ total front + commit.pos → answer.generation ≡ commit.generation → answer.time ≡ commit.time
    → Answers (front ++ layer ∷ rest) id (found_at answer)
answers-found id front rest layer commit answer missed there pos generation time =
    let layers = front ++ layer ∷ rest in
    let before = start-middle front (layer ∷ rest) in
    let here = get-middle front layer rest in
    let inside : commit.pos < length layer.ids = slice_get_within layer.ids commit.pos id there.0.holds in
    let P : ℕ → Type 0 = λ n. FoundIn layers id (Some n) in (
      subst P (sym pos)
          (found_in-counted layers id (length front) (total front) commit.pos layer before
          (missed-front id front (layer ∷ rest) missed) here there.0),
      record {
        layer = layer;
        pos = commit.pos;
        stands = rw pos (graph_commits-counted layers (length front) (total front) commit.pos layer before here inside);
        generation = generation ∙ there.1.generation;
        time = time ∙ there.1.time;
      },
    )

-- none of the layers
pub answers-missing : (id : List ℕ) (layers : List Layer) → All (Misses id) layers → Answers layers id Missing
answers-missing id layers missed =
    found_in-none layers id (length layers) (record {
      each = λ i layer h here. subst (Misses id) (get_or_from_slice_get layers i layer layer here) (missed i layer h);
    }) (omega arith)

kind-of : (kind : Kind) (layers : List Layer) (i : ℕ) (d : Layer) → i < length layers
    → All (λ (layer : Layer). layer.kind ≡ kind) layers → kind_at layers i ≡ kind
kind-of kind layers i d within alike = kind_at-is layers i _ (slice_get-get_or layers i d within) ∙ alike i d within

module _ (kind : Kind) (first : Layer) (more : List Layer) (few : total (first ∷ more) ≤ MAX_COMMITS)
    (alike : All (λ (layer : Layer). layer.kind ≡ kind) (first ∷ more)) where
  none-by : (o : Option GraphError) → MatchOption o (MakesGraph (first ∷ more)) (IsRefusal (first ∷ more)) → o ≡ None
  none-by None judged = refl
  none-by (Some NoFiles) judged = let clash : first ∷ more ≡ [] = judged in cc
  none-by (Some (TooManyCommits commits)) judged = absurd (omega (arith, few, judged.1))
  none-by (Some (HashMismatch i)) judged =
      let mismatch = judged.1 in
      absurd (mismatch.differs
      (kind-of kind (first ∷ more) i first mismatch.within alike
      ∙ sym (kind-of kind (first ∷ more) (i - 1) first (omega (arith, mismatch.within)) alike)))
  none-by (Some OutOfMemory) judged = absurd judged

-- layers of one kind that are few are not refused
pub none-refused : (kind : Kind) (layers : List Layer) → 0 < length layers → total layers ≤ MAX_COMMITS
    → All (λ (layer : Layer). layer.kind ≡ kind) layers → graph_refusal layers ≡ None
none-refused kind [] some few alike = absurd (omega (arith, some))
none-refused kind (first ∷ more) some few alike =
    none-by kind first more few alike (graph_refusal (first ∷ more)) (judged (first ∷ more))
