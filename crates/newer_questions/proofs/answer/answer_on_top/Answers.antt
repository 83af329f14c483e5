-- The base is the one that is lent.
use Rattle.std.proofs.Common.{rules, ◌≡◌, [], ℕ, List, Option, alloc_error, ap, refl, subst, sym}
use Rattle.std.proofs.KnownBytes.{Appends-nil}
use Rattle.std.specs.Prelude.{◌⊎◌}
use Rattle.gix_hash_core.specs.declared.kind.Kind.{Kind}
use Rattle.question_lines.specs.Questions.{question_ids}
use Rattle.newer_commits.specs.CommitsOnTop.{CommitsOnTop}
use Rattle.newer_questions.specs.QuestionsOnTop.{MayAnswerOnTop}
use Rattle.newer_questions.proofs.AskedLemmas.{none_asked}
use Rattle.newer_questions.proofs.answer.answer_on_top.Goals as goal

pub returns-in_default-clause-answer : goal.returns-in_default-clause-answer
returns-in_default-clause-answer g c =
    let now = c.args.base.now in
    let none : CommitsOnTop =
    record { below = g.S.CommitSource.count (g.S.CommitSource.known now); commits = []; words = [] } in (
      [],
      λ other. Appends-nil (g.W.Write.contents c.args.writer.now),
      record {
        none = none;
        nothing = (refl, refl);
        top = none;
        on_top = none_asked c.args.kind (g.S.Base.finds (g.S.Base.facts now)) none (question_ids c.args.question.now) [] refl;
        at_last = tt;
      },
    )

pub returns-clause-answer : goal.returns-clause-answer
returns-clause-answer g c =
    let r = c.find_over-answer.result in
    let now = c.args.base.now in
    let newer = c.new-newer.result in
    let asked = c.args.question.now in
    let requests : List (List ℕ) = c.find_over-answer.new.requests.asked in
    let left : Option (List ℕ) = g.R.Read.remaining c.args.reader.now in
    let finds = g.S.Base.finds in
    let has_id = g.S.Base.has_id in
    let facts = g.S.Base.facts in
    let count = g.S.CommitSource.count in
    let known = g.S.CommitSource.known in
    let says = g.S.CommitSource.says in
    let may_fail = g.S.CommitSource.may_fail in
    let of_memory = g.S.Error.From.from_gives alloc_error in
    let lent = ap (λ l. l.base.now) c.new-newer.ensures.base in
    let b = newer.base.base.now in
    let last = c.find_over-answer.new.newer.base.base.now in
    let ends : _ ≡ last = search rules in
    let found = c.find_over-answer.ensures.answer in
    let may : MayAnswerOnTop newer.kind (count (known b)) (says last) (finds (facts b)) (has_id (facts b)) c.args.ranks
    (λ e. may_fail (known b) e ⊎ of_memory e) left asked requests r =
    record {
      none = newer.commits;
      nothing = (c.new-newer.ensures.none, newer.below);
      top = found.0;
      on_top = found.1;
      at_last = found.2;
    } in (
      requests,
      c.find_over-answer.ensures.written,
      subst
          (λ e. MayAnswerOnTop c.args.kind (count (known now)) (says e) (finds (facts now)) (has_id (facts now))
          c.args.ranks (λ failure. may_fail (known now) failure ⊎ of_memory failure) left asked requests r)
          (sym ends)
          (subst
          (λ s. MayAnswerOnTop c.args.kind (count (known s)) (says last) (finds (facts s)) (has_id (facts s))
          c.args.ranks (λ failure. may_fail (known s) failure ⊎ of_memory failure) left asked requests r)
          lent
          (subst
          (λ (k : Kind). MayAnswerOnTop k (count (known b)) (says last) (finds (facts b)) (has_id (facts b))
          c.args.ranks (λ failure. may_fail (known b) failure ⊎ of_memory failure) left asked requests r)
          c.new-newer.ensures.kind may)),
    )
