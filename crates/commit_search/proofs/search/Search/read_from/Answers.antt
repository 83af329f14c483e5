use Rattle.std.proofs.Common.{◌≡◌, ◌+◌, List, length, slice_get, Some, ap, ◌∙◌, subst, arith}
use Rattle.std.proofs.lemmas.List.{length_push}
use Rattle.graph_format.specs.declared.parents.ParentEdge.{ParentEdge}
use Rattle.commit_search.specs.Queue.{commit_in}
use Rattle.commit_search.specs.Search.{queued_by}
use Rattle.commit_search.proofs.AheadLemmas.{fields_kept, fields_push, ahead_read}
use Rattle.commit_search.proofs.VisitLemmas.{length-queued}
use Rattle.commit_search.proofs.search.Search.read_from.Goals as goal

pub overflow_cast-next-end : goal.overflow_cast-next-end
overflow_cast-next-end g c =
    let s = c.args.self.now in
    let search = c.requires.search in
    let few = search.few in
    omega (arith, length-queued _ _ _ (queued_by s) search.queue, few, c.len.ensures, c.min-end.ensures)

pub parent_fields-requires : goal.parent_fields-requires
parent_fields-requires g c =
    rw c.loop-next.invariant.known
    (omega (
      arith,
      c.requires.search.queue.within c.loop-next.next (omega (arith, c.loop-next-test.true, c.len.ensures, c.min-end.ensures)),
      c.commit_at.ensures,
    ))

pub loop-next-preserved : goal.loop-next-preserved
loop-next-preserved g c =
    let s = c.args.self.now in
    let l = c.loop-next in
    let inv = l.invariant in
    let read = c.parent_fields in
    let pushed = c.in_ok-push_fields.ensures.fields in
    let here = rw (inv.known, c.commit_at.ensures) at c.in_ok-fields.ensures.fields in
    record {
      known = read.ensures.known ∙ inv.known;
      kept = λ t said. inv.kept t (read.ensures.kept t said);
      first = c.push_fields.ensures.first ∙ inv.first;
      len = omega (arith, inv.len, ap length pushed, length_push l.ahead.fields.items c.in_ok-fields.fields);
      ahead = fields_push _ _ _ _ s l.ahead c.push_fields.new.self c.in_ok-fields.fields l.next c.push_fields.ensures.first pushed
          (omega (arith, inv.first, inv.len)) (omega (arith, c.loop-next-test.true, c.len.ensures, c.min-end.ensures)) here
          (fields_kept _ _ _ _ _ read.ensures.kept s l.ahead inv.ahead);
    }

pub read_numbers-requires : goal.read_numbers-requires
read_numbers-requires g c = λ i both at.
    let l = c.loop-next in
    let was =
    l.invariant.ahead i both
    (subst (λ (xs : List (ParentEdge × ParentEdge)). slice_get xs i ≡ Some both) c.deref.ensures.value at) in
    (commit_in (queued_by c.args.self.now) (l.ahead.first + i), rw l.invariant.known was.1.first)

pub returns-clause-ahead : goal.returns-clause-ahead
returns-clause-ahead g c =
    let l = c.loop-next in
    let read = c.in_ok-read_numbers.ensures in
    ahead_read _ _ _ _ _ c.read_numbers.ensures.kept c.args.self.now (record l.ahead { numbers = c.read_numbers.new.numbers })
    c.deref.result.now c.deref.ensures.value l.invariant.ahead read.as_many read.numbers
