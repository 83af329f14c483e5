-- What is answered over the base may be told of the graph, or of none.
use Rattle.std.proofs.Common.{ℕ, List, Option, ap, subst, sym}
use Rattle.newer_commands.specs.AskedReply.{Verdict, listed_told, listed_verdict}
use Rattle.newer_commands.specs.KindOver.{layers_of_base}
use Rattle.newer_commands.specs.RepliesOnTop.{MayTellOver}
use Rattle.newer_commands.proofs.BaseScanLemmas.{HasIdBelow, LooksUp, SaysBelow, counts_base, ids_base, same_base, says_base}
use Rattle.newer_commands.proofs.BaseScanLemmas.{scans_base, total_base}
use Rattle.newer_commands.proofs.FindLemmas.{error_tells, lost_never, memory_tells, reply_tells}
use Rattle.newer_commands.proofs.TellLemmas.{told_written}
use Rattle.newer_commands.proofs.answer.find_over.Goals as goal

pub returns-in-Ok : goal.returns-in-Ok
returns-in-Ok g c =
    let old = c.args.base in
    let new = c.answer_on_top.new.base in
    let known : Option (List ℕ) = g.R.Read.remaining c.args.reader.now in
    let answer = c.in-Ok.ensures.answer in (
      answer.0,
      answer.1 (λ is. cc),
      reply_tells (layers_of_base old) (LooksUp old.base) (HasIdBelow old.base) (SaysBelow new.base)
          (scans_base old c.requires.right) (ids_base old) (says_base new old (same_base new old c.in-Ok.ensures.known))
          (counts_base old c.requires.right) c.args.ranks c.requires.dates _ _ (total_base old)
          c.args.kind known c.args.question.now c.requires.kind
          answer.0 c.in-Ok.reply answer.2,
    )

pub verdict_of-requires-clause-kept : goal.verdict_of-requires-clause-kept
verdict_of-requires-clause-kept g c = λ id is.
    let old = c.args.base in
    let new = c.answer_on_top.new.base in
    let known : Option (List ℕ) = g.R.Read.remaining c.args.reader.now in
    let answer = c.in-Err.ensures.answer in
    lost_never (layers_of_base old) (LooksUp old.base) (HasIdBelow old.base) (SaysBelow new.base)
    (scans_base old c.requires.right) (ids_base old) (says_base new old (same_base new old c.in-Err.ensures.known))
    (counts_base old c.requires.right) c.args.ranks c.requires.dates _ _ (total_base old)
    c.args.kind known c.args.question.now c.requires.kind answer.0
    c.in-Err.error id answer.2 is

pub returns-in-Ok-2 : goal.returns-in-Ok-2
returns-in-Ok-2 g c =
    let old = c.args.base in
    let new = c.answer_on_top.new.base in
    let known : Option (List ℕ) = g.R.Read.remaining c.args.reader.now in
    let answer = c.in-Err.ensures.answer in
    let told = c.in_ok-verdict-in-Err.ensures.told in (
      answer.0,
      told_written c.in-Err.error (listed_told c.in_ok-verdict-in-Err.field-0) _ told answer.1,
      error_tells (layers_of_base old) (LooksUp old.base) (HasIdBelow old.base) (SaysBelow new.base)
          (scans_base old c.requires.right) (ids_base old) (says_base new old (same_base new old c.in-Err.ensures.known))
          (counts_base old c.requires.right) c.args.ranks c.requires.dates _ _ (total_base old)
          c.args.kind known c.args.question.now c.requires.kind
          answer.0 c.in-Err.error (listed_verdict c.in-Ok-2.verdict) answer.2 (rw c.in-Ok-2.is at told),
    )

pub returns-in-Err-2 : goal.returns-in-Err-2
returns-in-Err-2 g c =
    let old = c.args.base in
    let new = c.answer_on_top.new.base in
    let known : Option (List ℕ) = g.R.Read.remaining c.args.reader.now in
    let answer = c.in-Err.ensures.answer in (
      answer.0,
      told_written c.in-Err.error (listed_told c.in_ok-verdict-in-Err.field-0) _ c.in_ok-verdict-in-Err.ensures.told answer.1,
      subst
          (λ (verdict : Verdict). MayTellOver (layers_of_base old) known c.args.question.now
          (record { asked = answer.0; verdict = verdict }))
          (sym (ap listed_verdict c.no_memory.ensures))
          (memory_tells (layers_of_base old) (LooksUp old.base) (HasIdBelow old.base) (SaysBelow new.base)
          (scans_base old c.requires.right) (ids_base old) (says_base new old (same_base new old c.in-Err.ensures.known))
          (counts_base old c.requires.right) c.args.ranks c.requires.dates _ _ (total_base old)
          c.args.kind known c.args.question.now c.requires.kind
          answer.0 c.in-Err.error answer.2),
    )
