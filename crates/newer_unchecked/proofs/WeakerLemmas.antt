-- What is answered over a base is so of another that says and finds what that one may.
use Rattle.std.proofs.Common.{◌≡◌, ◌∙◌, ℕ, List, [], ◌∷◌, All, Bool, Option, Some, None, Vec, inl, inr, subst, sym}
use Rattle.std.specs.Global.{Global}
use Rattle.std.specs.List.{AllZip}
use Rattle.std.specs.Prelude.{Result, Ok, Err}
use Rattle.gix_hash_core.specs.declared.kind.Kind.{Kind}
use Rattle.graph_walks.specs.History.{Node}
use Rattle.graph_walks.specs.Walks.{CountWalks, IsWalkBetween, Reaches}
use Rattle.commit_search.specs.Positions.{numbers_of}
use Rattle.commit_search.specs.Source.{Told}
use Rattle.commit_search.specs.WalkAnswer.{IsShortestWalk}
use Rattle.graph_bases.specs.Bases.{IsCommonAncestor}
use Rattle.graph_bases.specs.Comparison.{IsComparisonIn}
use Rattle.graph_bases.specs.declared.bases.Comparison.{Comparison}
use Rattle.answers.specs.FoundOf.{OfFirst, OfTwo}
use Rattle.answers.specs.declared.comparison.IdComparison.{IdComparison}
use Rattle.answers.proofs.FoundLemmas.{all_so, found_same, two_so}
use Rattle.answer_lines.specs.declared.reply.Reply.{Reply}
use Rattle.answer_lines.specs.declared.reply.Reply.TheVariants as reply
use Rattle.question_lines.specs.Questions.{question_ids}
use Rattle.question_lines.specs.declared.question.Question.{Question}
use Rattle.question_lines.specs.declared.question.Question.TheVariants.{Find, IsAncestor, MergeBase, Parents, Reload, Walk}
use Rattle.newer_commits.specs.CommitsOnTop.{CommitsOnTop, nodes_on_top}
use Rattle.newer_commits.specs.FindingOnTop.{Finds, HasId}
use Rattle.newer_commits.specs.JoinedHistory.{joined_history}
use Rattle.newer_answers.specs.AnswersOnTop.{AreBasesOnTop, IsComparedOnTop, IsToldOnTop, IsWalkOnTop, LeadsOnTop}
use Rattle.newer_answers.specs.AnswersOnTop.{NeverLeadsOnTop}
use Rattle.commit_requests.specs.declared.error.CompleteError.{CompleteError}
use Rattle.newer_questions.specs.QuestionsOnTop.{IsReplyOnTop, MayAnswerOnTop, MayComeOnTop}
use Rattle.newer_questions.proofs.OnBaseLemmas.{all_as, finds_as, on_top_as, refusal_as}

-- what is so of two lists, item by item
zip_weaker : {X Y : Type 0} (R S : X → Y → Type 0) → ((x : X) (y : Y) → R x y → S x y) → (xs : List X) (ys : List Y)
    → AllZip R xs ys → AllZip S xs ys
zip_weaker R S so [] [] zipped = tt
zip_weaker R S so [] (y ∷ ys) zipped = absurd zipped
zip_weaker R S so (x ∷ xs) [] zipped = absurd zipped
zip_weaker R S so (x ∷ xs) (y ∷ ys) zipped = (so x y zipped.0, zip_weaker R S so xs ys zipped.1)

-- Of histories that the other base may say, this one may say the same.
module _ (says less : Told → Type 0) (said : (t : Told) → less t → (before : Told) × says before × (before.history ≡ t.history))
    (top : CommitsOnTop) where
  abbrev on_top : List Node → List Node
  on_top h = joined_history h (nodes_on_top top)

  told_so : (p q : ℕ) (told : Bool) → IsToldOnTop says top p q told → IsToldOnTop less top p q told
  told_so p q told are = record {
    yes = λ t is yes.
        let before = said t is in
        subst (λ (h : List Node). Reaches (on_top h) q p) before.2 (are.yes before.0 before.1 yes);
    no = λ t is counts leads.
        let before = said t is in
        are.no before.0 before.1 (subst CountWalks (sym before.2) counts)
        (subst (λ (h : List Node). Reaches (on_top h) q p) (sym before.2) leads);
  }

  leads_so : (p q : ℕ) (walk : List ℕ) → LeadsOnTop says top p q walk → LeadsOnTop less top p q walk
  leads_so p q walk leads = record {
    there = λ t is.
        let before = said t is in
        subst (λ (h : List Node). IsWalkBetween (on_top h) p q walk) before.2 (leads.there before.0 before.1);
    shortest = λ t is counts.
        let before = said t is in
        subst (λ (h : List Node). IsShortestWalk (on_top h) p q walk) before.2
        (leads.shortest before.0 before.1 (subst CountWalks (sym before.2) counts));
  }

  never_so : (p q : ℕ) → NeverLeadsOnTop says top p q → NeverLeadsOnTop less top p q
  never_so p q never = λ t is counts leads.
      let before = said t is in
      never before.0 before.1 (subst CountWalks (sym before.2) counts)
      (subst (λ (h : List Node). Reaches (on_top h) p q) (sym before.2) leads)

  bases_so : (first : ℕ) (others : List ℕ) (compared : Comparison) → AreBasesOnTop says top None first others compared
      → AreBasesOnTop less top None first others compared
  bases_so first others compared are = record {
    common = λ t is.
        let before = said t is in
        subst
        (λ (h : List Node). All (λ base. IsCommonAncestor (on_top h) first others base.0) compared.bases.positions.items)
        before.2 (are.common before.0 before.1);
    exact = λ t is counts.
        let before = said t is in
        subst (λ (h : List Node). IsComparisonIn (on_top h) first others compared) before.2
        (are.exact before.0 before.1 (subst CountWalks (sym before.2) counts));
    visits = are.visits;
  }

  -- And where it has an id, the other has it too.
  module _ (has other : ℕ → List ℕ → Type 0) (owns : (p : ℕ) (id : List ℕ) → has p id → other p id) where
    id_so : (p : ℕ) (id : List ℕ) → HasId has top p id → HasId other top p id
    id_so p id (inl below) = inl (below.0, owns p id below.1)
    id_so p id (inr newer) = inr newer

    ids_so : (walk : List ℕ) (ids : List (List ℕ)) → AllZip (HasId has top) walk ids → AllZip (HasId other top) walk ids
    ids_so walk ids zipped = zip_weaker (HasId has top) (HasId other top) id_so walk ids zipped

    walk_so : (p q : ℕ) (answer : Option (Vec (List ℕ) Global)) → IsWalkOnTop says has top p q answer
        → IsWalkOnTop less other top p q answer
    walk_so p q (Some ids) walk = (walk.0, leads_so p q walk.0 walk.1, ids_so walk.0 ids.items walk.2)
    walk_so p q None never = never_so p q never

    compared_so : (first : ℕ) (others : List ℕ) (known : IdComparison (Vec (List ℕ) Global))
        → IsComparedOnTop says has top None first others known
        → IsComparedOnTop less other top None first others known
    compared_so first others known are = (
      bases_so first others known.comparison are.0,
      ids_so (numbers_of known.comparison.bases.positions.items) known.base_ids.items are.1,
    )

    -- And what a lookup answers in it, one in the other answers too.
    module _ (base scans : List ℕ → Option ℕ → Type 0)
        (same : (id : List ℕ) (answer : Option ℕ) → base id answer → scans id answer) where
      finds : (id : List ℕ) (answer : Option ℕ) → Finds base top id answer → Finds scans top id answer
      finds id answer found = finds_as base scans same top id answer found

      pub reply_so : (question : Question) (answer : Reply (Vec (List ℕ) Global))
          → IsReplyOnTop says base has None top question answer → IsReplyOnTop less scans other None top question answer
      reply_so (IsAncestor first second) (reply.Told told) is =
          found_same (Finds base top) (Finds scans top) finds (OfTwo (IsToldOnTop says top)) (OfTwo (IsToldOnTop less top))
          (first ∷ second ∷ []) told (two_so (λ x. x) (IsToldOnTop says top) (IsToldOnTop less top) told_so) is
      reply_so (Walk first second) (reply.Walk walk) is =
          found_same (Finds base top) (Finds scans top) finds (OfTwo (IsWalkOnTop says has top))
          (OfTwo (IsWalkOnTop less other top)) (first ∷ second ∷ []) walk
          (two_so (λ x. x) (IsWalkOnTop says has top) (IsWalkOnTop less other top) walk_so) is
      reply_so (MergeBase first others) (reply.Compared compared) is =
          found_same (Finds base top) (Finds scans top) finds (OfFirst (IsComparedOnTop says has top None))
          (OfFirst (IsComparedOnTop less other top None)) (first ∷ others.items) compared
          (all_so (λ x. x) (IsComparedOnTop says has top None) (IsComparedOnTop less other top None) compared_so) is
      reply_so (Find id) (reply.Found found) is = absurd is
      reply_so (Find id) (reply.Told told) is = absurd is
      reply_so (Find id) (reply.Walk walk) is = absurd is
      reply_so (Find id) (reply.Compared compared) is = absurd is
      reply_so (Find id) (reply.Parents parents) is = absurd is
      reply_so (IsAncestor first second) (reply.Found found) is = absurd is
      reply_so (IsAncestor first second) (reply.Walk walk) is = absurd is
      reply_so (IsAncestor first second) (reply.Compared compared) is = absurd is
      reply_so (IsAncestor first second) (reply.Parents parents) is = absurd is
      reply_so (Walk first second) (reply.Found found) is = absurd is
      reply_so (Walk first second) (reply.Told told) is = absurd is
      reply_so (Walk first second) (reply.Compared compared) is = absurd is
      reply_so (Walk first second) (reply.Parents parents) is = absurd is
      reply_so (MergeBase first others) (reply.Found found) is = absurd is
      reply_so (MergeBase first others) (reply.Told told) is = absurd is
      reply_so (MergeBase first others) (reply.Walk walk) is = absurd is
      reply_so (MergeBase first others) (reply.Parents parents) is = absurd is
      reply_so (Parents id) (reply.Found found) is = absurd is
      reply_so (Parents id) (reply.Told told) is = absurd is
      reply_so (Parents id) (reply.Walk walk) is = absurd is
      reply_so (Parents id) (reply.Compared compared) is = absurd is
      reply_so (Parents id) (reply.Parents parents) is = absurd is
      reply_so Reload (reply.Found found) is = absurd is
      reply_so Reload (reply.Told told) is = absurd is
      reply_so Reload (reply.Walk walk) is = absurd is
      reply_so Reload (reply.Compared compared) is = absurd is
      reply_so Reload (reply.Parents parents) is = absurd is

module _ {E : Type 0} (says less : Told → Type 0)
    (said : (t : Told) → less t → (before : Told) × says before × (before.history ≡ t.history)) (has other : ℕ → List ℕ → Type 0)
    (owns : (p : ℕ) (id : List ℕ) → has p id → other p id) (base scans : List ℕ → Option ℕ → Type 0)
    (same : (id : List ℕ) (answer : Option ℕ) → base id answer → scans id answer) (may_fail may : E → Type 0)
    (failing : (error : E) → may_fail error → may error) (kind : Kind) (known : Option (List ℕ)) (question : Question)
    (asked : List (List ℕ)) where
  comes_so : (none top : CommitsOnTop) (answer : Result (Reply (Vec (List ℕ) Global)) (CompleteError E))
      → MayComeOnTop kind says base has None may_fail known none top question asked answer
      → MayComeOnTop kind less scans other None may known none top question asked answer
  comes_so none top (Ok answer) comes = (
    all_as base scans same kind (question_ids question) asked known top comes.0,
    reply_so says less said top has other owns base scans same question answer comes.1,
  )
  comes_so none top (Err error) why =
      refusal_as base scans same may_fail may failing kind none top (question_ids question) asked known error why

  -- what may be answered over the one base may be answered over the other
  pub answers_so : (count total : ℕ) (answer : Result (Reply (Vec (List ℕ) Global)) (CompleteError E)) → count ≡ total
      → MayAnswerOnTop kind count says base has None may_fail known question asked answer
      → MayAnswerOnTop kind total less scans other None may known question asked answer
  answers_so count total answer counted may = record {
    none = may.none;
    nothing = (may.nothing.0, may.nothing.1 ∙ counted);
    top = may.top;
    on_top = on_top_as base scans same kind may.none (question_ids question) asked may.top may.on_top;
    at_last = comes_so may.none may.top answer may.at_last;
  }
