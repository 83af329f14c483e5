-- What comes by parts is so of the graph at the path, and a failed read is told where one failed.
use Rattle.std.proofs.Common.{rules, ◌≡◌, ◌≢◌, ◌⊎◌, ◌∙◌, None, ap, subst, sym}
use Rattle.graph_folder.specs.Tree.{Tree}
use Rattle.std.specs.Prelude.{Option}
use Rattle.graph_parts.specs.PartFiles.{commits_in_all}
use Rattle.graph_parts.specs.Shown.{files_of}
use Rattle.graph_unchecked.specs.KnownLayers.{IsFoundByParts, IsIdByParts}
use Rattle.graph_unchecked.specs.PartSource.{KnownParts, PartsTell}
use Rattle.graph_unchecked.specs.Trusted.{IsTrustedAt}
use Rattle.graph_unchecked.specs.declared.unread.Unread.{Unread}
use Rattle.graph_unchecked.specs.declared.unread.Unread.TheVariants.{Device, OutOfMemory}
use Rattle.newer_questions.specs.QuestionsOnTop.{MayAnswerOnTop}
use Rattle.newer_unchecked.specs.TrustedOnTop.{IsToldOfParts, listed_found}
use Rattle.newer_unchecked.proofs.PartsLemmas.{comes_at}
use Rattle.newer_unchecked.proofs.TellLemmas.{is_plain, never_failed, told_counted, told_or_failed}
use Rattle.newer_unchecked.proofs.by_parts.find_by_parts.Goals as goal

abbrev may_fail : Unread → Type 0
may_fail error = (error ≢ Device) ⊎ (error ≡ OutOfMemory)

pub returns-clause-found : goal.returns-clause-found
returns-clause-found g c =
    let known = g.T.Folder.tree c.args.folder.now in
    let new = c.answer_on_top-outcome.new.base in
    let now = g.T.Folder.tree new.folder.now in
    let before = c.parts.result.now in
    let question = c.args.question.now in
    let bytes = g.R.Read.remaining c.args.reader.now in
    let outcome = c.answer_on_top-outcome.result in
    let same = c.answer_on_top-outcome.ensures.known ∙ c.new-commits.ensures.known in
    let tree : now ≡ known = ap (λ (k : KnownParts). k.tree) same in
    let files : files_of new.parts.now ≡ files_of before = ap (λ (k : KnownParts). k.files) same in
    let answer = c.answer_on_top-outcome.ensures.answer in
    let told = c.in_ok-found.ensures.told in (
      answer.0,
      answer.1 (never_failed outcome (listed_found c.in_ok-found.found) told),
      λ path of.
          let of_parts = subst (IsTrustedAt known path) (sym c.parts.ensures.parts) of in
          let after : IsTrustedAt now path new.parts.now =
          c.unless_failed.ensures.graph path before (sym files)
          (subst (λ (k : Option Tree). IsTrustedAt k path before) (sym tree) of_parts) in
          comes_at known before (g.T.Folder.failure_count c.args.folder.now) c.args.folder.ghost_name c.parts.result.ghost_name
          path c.kind-kind.result now new.parts.now may_fail bytes question answer.0 outcome
          (listed_found c.told_unless.result) of_parts tree after
          (c.kind-kind.ensures known path of)
          (subst
          (λ (k : KnownParts). MayAnswerOnTop c.kind-kind.result (commits_in_all k.files) (PartsTell now new.parts.now)
          (IsFoundByParts k) (IsIdByParts k) None may_fail bytes question answer.0 outcome)
          c.new-commits.ensures.known answer.2)
          (told_or_failed listed_found c.in_ok-found.found c.unless_failed.result c.told_unless.result (IsToldOfParts outcome)
          told
          c.unless_failed.ensures.answer c.told_unless.ensures.found c.told_unless.ensures.failed),
    )

pub returns-clause-counted : goal.returns-clause-counted
returns-clause-counted g c =
    let same = c.answer_on_top-outcome.ensures.known ∙ c.new-commits.ensures.known in
    let after = g.T.Folder.failure_count c.answer_on_top-outcome.new.base.folder.now in
    let ends : _ ≡ after = search rules in
    told_counted listed_found c.in_ok-found.found (g.T.Folder.failure_count c.args.folder.now) _ after _
    (ap (λ (k : KnownParts). k.failures) same) ends c.unless_failed.result c.told_unless.result
    (is_plain c.answer_on_top-outcome.result (listed_found c.in_ok-found.found) c.in_ok-found.ensures.told)
    c.unless_failed.ensures.answer c.unless_failed.ensures.error c.unless_failed.ensures.failures c.told_unless.ensures.found
    c.told_unless.ensures.failed
