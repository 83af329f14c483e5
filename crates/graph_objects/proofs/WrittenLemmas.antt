-- Commits that are as Git writes them.
use Rattle.std.proofs.Common.{◌≡◌, ℕ, ◌<◌, List, [], ◌∷◌, length, slice_get, Some, refl, sym, ap, ◌∙◌, inr}
use Rattle.std.specs.Prelude.{Ok, Result}
use Rattle.gix_hash_core.specs.declared.kind.Kind.{Kind}
use Rattle.graph_format.specs.Layer.{Layer, record_at}
use Rattle.graph_format.specs.Parents.{parents_of, items_of}
use Rattle.graph_format.specs.declared.Position.{Position}
use Rattle.graph_format.specs.declared.parents.ParentError.{ParentError}
use Rattle.gix_commitgraph.specs.Graph.{graph_ids}
use Rattle.commit_objects.specs.CommitContents.{parent_word, tree_word}
use Rattle.commit_objects.specs.Lines.{BeginsWithLine, BeginsWithWord}
use Rattle.commit_objects.specs.Time.{older_time}
use Rattle.commit_objects.proofs.ParentLemmas.{says_of}
use Rattle.graph_objects.specs.ParentLines.{NamesInLines}
use Rattle.graph_objects.specs.Matching.{AreContents, Matches, SaysAsRecorded, ids_of_items}

-- what holds of the lines and parents that are left holds of all
abbrev pub ArePassed : List Layer → Kind → List (Result Position ParentError) → List ℕ → List (Result Position ParentError)
    → List ℕ → Type 0
ArePassed layers kind all bytes items left =
    (rest : List ℕ) → NamesInLines layers kind items left rest → NamesInLines layers kind all bytes rest

pub one_passed : (layers : List Layer) (kind : Kind) (all : List (Result Position ParentError)) (bytes : List ℕ)
    (old new : List (Result Position ParentError)) (pos : Position) (left id next : List ℕ)
    → ArePassed layers kind all bytes old left → old ≡ Ok pos ∷ new → slice_get (graph_ids layers) pos.0 ≡ Some id
    → BeginsWithLine kind parent_word left id next → ArePassed layers kind all bytes new next
one_passed layers kind all bytes old new pos left id next passed step there line rest names =
    passed rest (
      id ∷ names.0,
      ap (ids_of_items (graph_ids layers)) step
          ∙ ap (λ x. x ∷ ids_of_items (graph_ids layers) new) there ∙ ap (λ l. Some id ∷ l) names.1,
      (next, line, names.2),
    )

pub all_passed : (layers : List Layer) (kind : Kind) (all : List (Result Position ParentError)) (bytes : List ℕ)
    (items : List (Result Position ParentError)) (left : List ℕ) → ArePassed layers kind all bytes items left
    → items ≡ [] → 0 < length left → ¬ BeginsWithWord left parent_word → NamesInLines layers kind all bytes left
all_passed layers kind all bytes items left passed none some end =
    passed left ([], ap (ids_of_items (graph_ids layers)) none, (refl, some, end))

-- what the bytes of such a commit say
pub as_recorded : (layers : List Layer) (kind : Kind) (layer : Layer) (pos : ℕ) (bytes tree next rest : List ℕ)
    (items : List (Result Position ParentError)) → BeginsWithLine kind tree_word bytes tree next
    → tree ≡ (record_at layer pos).tree → NamesInLines layers kind items next rest
    → items ≡ items_of (parents_of (record_at layer pos) layer.edges) → (record_at layer pos).time ≡ older_time rest
    → SaysAsRecorded layers kind layer pos bytes
as_recorded layers kind layer pos bytes tree next rest items line root names same time = (
  record { tree = tree; parents = names.0; rest = rest },
  says_of kind bytes tree next names.0 rest line names.2,
  record { tree = sym root; parents = ap (ids_of_items (graph_ids layers)) (sym same) ∙ names.1; time = inr time },
)

-- the bytes of such a commit match it
pub matched_as_recorded : (layers : List Layer) (kind : Kind) (layer : Layer) (pos : ℕ) (bytes : List ℕ) → layer.kind ≡ kind
    → AreContents layer pos bytes → SaysAsRecorded layers kind layer pos bytes → Matches layers layer pos bytes
matched_as_recorded layers kind layer pos bytes same contents recorded = record {
  contents = contents;
  said = recorded.0;
  says = rw same recorded.1;
  agree = recorded.2;
}
