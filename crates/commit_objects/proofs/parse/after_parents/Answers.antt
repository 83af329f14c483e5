use Rattle.std.proofs.Common.{arith}
use Rattle.std.proofs.lemmas.Bool.Decides.{nat_tests}
use Rattle.commit_objects.specs.CommitContents.{parent_word}
use Rattle.commit_objects.proofs.LineLemmas.{begins_where, begins_nowhere}
use Rattle.commit_objects.proofs.ParentLemmas.{one_passed, ended, refused, nothing_left}
use Rattle.commit_objects.proofs.parse.after_parents.Goals as goal

pub returns-in_default : goal.returns-in_default
returns-in_default c =
    refused c.args.kind c.args.lines.now c.loop-kind.rest.now c.loop-kind.invariant
    (begins_where c.loop-kind.rest.now parent_word c.starts_with.result c.starts_with.ensures.value c.loop-kind-test.true)
    c.in_default.ensures

pub loop-kind-preserved : goal.loop-kind-preserved
loop-kind-preserved c =
    one_passed c.args.kind c.args.lines.now c.loop-kind.rest.now c.in-Some.line.id c.in-Some.line.next.now
    c.loop-kind.invariant c.in-Some.ensures

pub returns-then-is_empty : goal.returns-then-is_empty
returns-then-is_empty c =
    nothing_left c.args.kind c.args.lines.now c.loop-kind.rest.now c.loop-kind.invariant
    (grind (arith, nat_tests, c.is_empty.ensures, c.if-is_empty.true))

pub returns : goal.returns
returns c =
    ended c.args.kind c.args.lines.now c.loop-kind.rest.now c.loop-kind.invariant
    (begins_nowhere c.loop-kind.rest.now parent_word c.starts_with.result c.starts_with.ensures.value c.loop-kind-test.false)
    (grind (arith, nat_tests, c.is_empty.ensures, c.if-is_empty.false))
