-- What comes of a question over the parts of a trusted graph is so of the graph at the path.
use Rattle.std.proofs.Common.{◌≡◌, ◌⊎◌, ◌∙◌, ℕ, List, All, Option, Some, None, Vec, Result, Ok, Err, ap, subst, sym}
use Rattle.std.specs.Global.{Global}
use Rattle.std.specs.Prelude.{⊤}
use Rattle.std.specs.Option.{ForSome}
use Rattle.gix_hash_core.specs.declared.kind.Kind.{Kind}
use Rattle.graph_folder.specs.Tree.{Tree}
use Rattle.graph_format.specs.Layer.{Layer}
use Rattle.gix_commitgraph.specs.Graph.{total}
use Rattle.gix_commitgraph.specs.GraphLookup.{FoundIn}
use Rattle.graph_layer.specs.declared.opening.error.OpenError.TheVariants.{Device}
use Rattle.graph_parts.specs.PartFiles.{commits_in_all}
use Rattle.graph_parts.specs.Shown.{Shows, files_of}
use Rattle.graph_parts.specs.declared.parts.GraphParts.{GraphParts}
use Rattle.graph_parts.proofs.GraphPartLemmas.{count-files, shows-total}
use Rattle.graph_unchecked.specs.KnownLayers.{IsFoundByParts, IsIdByParts}
use Rattle.graph_unchecked.specs.PartSource.{PartsTell, known_parts, told_with_dates}
use Rattle.graph_unchecked.specs.Trusted.{IsTrustedAt}
use Rattle.graph_unchecked.specs.Unchecked.{IsAnswerAt}
use Rattle.graph_unchecked.specs.declared.unread.Unread.{Unread}
use Rattle.graph_unchecked.proofs.BaseLemmas.{shown-known}
use Rattle.answer_lines.specs.declared.reply.Reply.{Reply}
use Rattle.question_lines.specs.declared.question.Question.{Question}
use Rattle.graph_commands.specs.declared.refusal.Refusal.TheVariants.{Open}
use Rattle.commit_requests.specs.declared.error.CompleteError.{CompleteError}
use Rattle.newer_questions.specs.QuestionsOnTop.{MayAnswerOnTop}
use Rattle.newer_commands.specs.AskedReply.{Verdict}
use Rattle.newer_commands.specs.declared.refusal.NewerRefusal.TheVariants.{Common}
use Rattle.newer_unchecked.specs.TrustedOnTop.{HasIdIn, IsToldOfParts, MayComeByParts, TellsHistory}
use Rattle.newer_unchecked.proofs.WeakerLemmas.{answers_so}

ok_of : {E : Type 0} → Result (List Layer) E → List Layer → List Layer
ok_of (Ok layers) other = layers
ok_of (Err e) other = other

-- one list of layers is opened
one_opened : {E : Type 0} (r : Result (List Layer) E) (one other : List Layer) → r ≡ Ok one → r ≡ Ok other → one ≡ other
unfolding ok_of
one_opened {E} r one other first second = ap (λ (x : Result (List Layer) E). ok_of x one) (sym first ∙ second)

module _ (known : Option Tree) (parts : GraphParts) (failures folder name : ℕ) where
  module _ (tree : Tree) (is : known ≡ Some tree) (layers : List Layer) (shows : Shows known parts layers) where
    -- what is found in the known files is found in the layers that the parts show
    found_in : (id : List ℕ) (answer : Option ℕ) → IsFoundByParts (known_parts known parts failures folder name) id answer
        → FoundIn layers id answer
    found_in id answer found =
        found tree is layers (shown-known tree parts layers (subst (λ (k : Option Tree). Shows k parts layers) is shows))

    -- and so are the ids
    id_in : (p : ℕ) (id : List ℕ) → IsIdByParts (known_parts known parts failures folder name) p id → HasIdIn layers p id
    id_in p id owns =
        owns tree is layers (shown-known tree parts layers (subst (λ (k : Option Tree). Shows k parts layers) is shows))

  -- by parts of which more was read meanwhile
  pub comes_at : (path : List ℕ) (kind : Kind) (now : Option Tree) (more : GraphParts) (may_fail : Unread → Type 0)
      (bytes : Option (List ℕ)) (question : Question) (asked : List (List ℕ))
      (outcome : Result (Reply (Vec (List ℕ) Global)) (CompleteError Unread)) (found : Option Verdict)
      → IsTrustedAt known path parts → now ≡ known → IsTrustedAt now path more
      → ForSome known (λ (tree : Tree). IsAnswerAt tree path (λ layers k. All (λ (layer : Layer). layer.kind ≡ k) layers) kind)
      → MayAnswerOnTop kind (commits_in_all (files_of parts)) (PartsTell now more)
      (IsFoundByParts (known_parts known parts failures folder name))
      (IsIdByParts (known_parts known parts failures folder name)) None may_fail bytes question asked outcome
      → IsToldOfParts outcome found ⊎ (found ≡ Some (Err (Common (Open Device))))
      → ForSome known (λ (tree : Tree). IsAnswerAt tree path (λ layers. MayComeByParts layers bytes question asked) found)
  comes_at path kind now more may_fail bytes question asked outcome found of same_tree after kinds comes told tree is =
      let at = of.opened tree is in
      let later = after.opened tree (same_tree ∙ is) in
      let of_kind = kinds tree is in
      let one : later.layers ≡ at.layers = one_opened _ later.layers at.layers later.opens at.opens in
      let tells : PartsTell now more (told_with_dates at.layers) = record {
        layers = later.layers;
        shows = later.so;
        graph = later.graph;
        told = ap told_with_dates (sym one);
      } in
      record {
        layers = at.layers;
        opens = at.opens;
        graph = at.graph;
        so = record {
          kind = kind;
          are_kind = subst (λ (layers : List Layer). All (λ (layer : Layer). layer.kind ≡ kind) layers)
              (one_opened _ of_kind.layers at.layers of_kind.opens at.opens) of_kind.so;
          outcome = outcome;
          comes = answers_so (PartsTell now more) (TellsHistory at.layers)
              (λ t history. (told_with_dates at.layers, tells, sym history))
              (IsIdByParts (known_parts known parts failures folder name)) (HasIdIn at.layers) (id_in tree is at.layers at.so)
              (IsFoundByParts (known_parts known parts failures folder name)) (FoundIn at.layers)
              (found_in tree is at.layers at.so) may_fail (λ _. ⊤) (λ error may. tt) kind bytes question asked
              (commits_in_all (files_of parts)) (total at.layers) outcome
              (count-files parts.layers.items ∙ shows-total known parts.layers.items at.layers at.so of.right.each) comes;
          is_told = told;
        };
      }
