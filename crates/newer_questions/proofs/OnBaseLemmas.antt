-- Commits that stand on top by one lookup of ids do so by another that finds the same.
use Rattle.std.proofs.Common.{ℕ, List, [], ◌∷◌, Option, Some, None, inl, inr}
use Rattle.std.proofs.lemmas.List.Elements.{All-weaker}
use Rattle.std.specs.List.{AllZip}
use Rattle.gix_hash_core.specs.declared.kind.Kind.{Kind}
use Rattle.newer_commits.specs.Adding.{AddsCommit, AreThere, IsCommitOf}
use Rattle.newer_commits.specs.CommitsOnTop.{CommitsOnTop, NewerCommit}
use Rattle.newer_commits.specs.FindingOnTop.{Finds}
use Rattle.commit_requests.specs.Completion.{AddsInTurn, IsCompleteRefusal}
use Rattle.commit_requests.specs.Requested.{AreAskedFor}
use Rattle.commit_requests.specs.declared.error.CompleteError.{CompleteError}
use Rattle.commit_requests.specs.declared.error.CompleteError.TheVariants as refusal
use Rattle.newer_questions.specs.AskedOnTop.{AreAllOnTop, AreAskedOnTop}

module _ (One Other : List ℕ → Option ℕ → Type 0) (same : (id : List ℕ) (answer : Option ℕ) → One id answer → Other id answer)
  where
    pub finds_as : (top : CommitsOnTop) (id : List ℕ) (answer : Option ℕ) → Finds One top id answer → Finds Other top id answer
    finds_as top id None found = (same id None found.0, found.1)
    finds_as top id (Some p) (inl below) = inl (same id (Some p) below.0, below.1)
    finds_as top id (Some p) (inr newer) = inr (same id None newer.0, newer.1)

    pub there_as : (top : CommitsOnTop) (ids : List (List ℕ)) → AreThere One top ids → AreThere Other top ids
    there_as top ids there =
        All-weaker (λ (id : List ℕ). (p : ℕ) × Finds One top id (Some p))
        (λ (id : List ℕ). (p : ℕ) × Finds Other top id (Some p))
        (λ id found. (found.0, finds_as top id (Some found.0) found.1)) ids there

    parents_as : (top : CommitsOnTop) (ids : List (List ℕ)) (places : List ℕ)
        → AllZip (λ parent p. Finds One top parent (Some p)) ids places
        → AllZip (λ parent p. Finds Other top parent (Some p)) ids places
    parents_as top [] [] zipped = tt
    parents_as top [] (p ∷ places) zipped = absurd zipped
    parents_as top (id ∷ ids) [] zipped = absurd zipped
    parents_as top (id ∷ ids) (p ∷ places) zipped = (finds_as top id (Some p) zipped.0, parents_as top ids places zipped.1)

    commit_as : (kind : Kind) (top : CommitsOnTop) (bytes : List ℕ) (commit : NewerCommit)
        → IsCommitOf kind One top bytes commit → IsCommitOf kind Other top bytes commit
    commit_as kind top bytes commit is = record {
      id = is.id;
      is_new = finds_as top commit.id None is.is_new;
      said = is.said;
      says = is.says;
      parents = parents_as top is.said.parents commit.node.parents is.parents;
    }

    adds_as : (kind : Kind) (old new : CommitsOnTop) (bytes : List ℕ) (at : ℕ) → AddsCommit kind One old new bytes at
        → AddsCommit kind Other old new bytes at
    adds_as kind old new bytes at adds = record {
      commit = adds.commit;
      is_commit = commit_as kind old bytes adds.commit adds.is_commit;
      added = adds.added;
      below = adds.below;
      position = adds.position;
    }

    pub turns_as : (kind : Kind) (old : CommitsOnTop) (contents : List (List ℕ)) (new : CommitsOnTop)
        → AddsInTurn kind One old contents new → AddsInTurn kind Other old contents new
    turns_as kind old [] new turns = turns
    turns_as kind old (bytes ∷ more) new turns = (
      turns.0,
      turns.1,
      adds_as kind old turns.0 bytes turns.1 turns.2,
      turns_as kind turns.0 more new turns.3,
    )

    pub asked_as : (kind : Kind) (top : CommitsOnTop) (ids asked read : List (List ℕ))
        → AreAskedFor kind One top ids asked read → AreAskedFor kind Other top ids asked read
    asked_as kind top ids asked read is = record {
      own = is.own;
      distinct = is.distinct;
      lacking = All-weaker (λ (id : List ℕ). Finds One top id None) (λ (id : List ℕ). Finds Other top id None)
          (λ id found. finds_as top id None found) asked is.lacking;
      needed = is.needed;
    }

    -- what was asked for and added
    pub on_top_as : (kind : Kind) (none : CommitsOnTop) (ids asked : List (List ℕ)) (top : CommitsOnTop)
        → AreAskedOnTop kind One none ids asked top → AreAskedOnTop kind Other none ids asked top
    on_top_as kind none ids asked top is = record {
      read = is.read;
      asked_for = asked_as kind none ids asked is.read is.asked_for;
      contents = is.contents;
      added = turns_as kind none is.contents top is.added;
      among = is.among;
    }

    -- that nothing is lacking
    pub all_as : (kind : Kind) (ids asked : List (List ℕ)) (known : Option (List ℕ)) (top : CommitsOnTop)
        → AreAllOnTop kind One ids asked known top → AreAllOnTop kind Other ids asked known top
    all_as kind ids asked known top is = record {
      question = there_as top ids is.question;
      each = there_as top asked is.each;
      read = is.read;
      own = is.own;
      entries = is.entries;
    }

    -- why commits are not all there
    pub refusal_as : {E : Type 0} (may_fail may : E → Type 0) → ((error : E) → may_fail error → may error) → (kind : Kind)
        (none top : CommitsOnTop) (ids asked : List (List ℕ)) (known : Option (List ℕ)) (error : CompleteError E)
        → IsCompleteRefusal kind One may_fail none top ids asked known error
        → IsCompleteRefusal kind Other may none top ids asked known error
    refusal_as may_fail may so kind none top ids asked known (refusal.Unknown number) why = why
    refusal_as may_fail may so kind none top ids asked known (refusal.Entry id error) why = why
    refusal_as may_fail may so kind none top ids asked known (refusal.Unreadable id) why = why
    refusal_as may_fail may so kind none top ids asked known (refusal.Cycle id) why = why
    refusal_as may_fail may so kind none top ids asked known refusal.Full why = why
    refusal_as may_fail may so kind none top ids asked known refusal.OutOfMemory why = why
    refusal_as may_fail may so kind none top ids asked known refusal.Device why = why
    refusal_as may_fail may so kind none top ids asked known refusal.WriteFailed why = why
    refusal_as may_fail may so kind none top ids asked known (refusal.Lost id) why =
        (why.0, same id (Some why.0) why.1, same id None why.2)
    refusal_as may_fail may so kind none top ids asked known (refusal.Source error) why = so error why
