use Rattle.std.proofs.Common.{arith}
use Rattle.std.proofs.lemmas.Bool.Decides.{nat_tests}
use Rattle.gix_hash_core.specs.Oid.{oid_bytes}
use Rattle.graph_layer.specs.RemainingParents.{parents_left}
use Rattle.commit_objects.specs.CommitContents.{parent_word}
use Rattle.commit_objects.proofs.LineLemmas.{begins_nowhere}
use Rattle.graph_objects.proofs.WrittenLemmas.{one_passed, all_passed}
use Rattle.graph_objects.proofs.parents.behind_parents.Goals as goal

pub loop-item-init : goal.loop-item-init
loop-item-init c = λ rest names. names

pub loop-item-preserved : goal.loop-item-preserved
loop-item-preserved c =
    one_passed c.args.graph.now c.args.kind (parents_left c.args.recorded) c.args.lines.now (parents_left c.loop-item.recorded)
    (parents_left c.next.new.self) c.in-Ok.pos c.loop-item.rest.now (oid_bytes c.id_at.result) c.in-Some-behind_line.next.now
    c.loop-item.invariant (rw c.in-Ok.is at c.in-Some.ensures.steps) c.id_at.ensures c.in-Some-behind_line.ensures.line

pub returns : goal.returns
returns c =
    all_passed c.args.graph.now c.args.kind (parents_left c.args.recorded) c.args.lines.now (parents_left c.loop-item.recorded)
    c.loop-item.rest.now c.loop-item.invariant c.in_default.ensures.steps.0
    (grind (arith, nat_tests, c.is_empty.ensures, c.if-is_empty.false))
    (begins_nowhere c.loop-item.rest.now parent_word c.starts_with.result c.starts_with.ensures.value c.if-starts_with.false)
