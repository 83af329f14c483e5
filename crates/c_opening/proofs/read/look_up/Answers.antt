use Rattle.gix_hash_core.specs.Oid.{oid_bytes}
use Rattle.c_opening.specs.Answers.{told_position}
use Rattle.c_opening.proofs.read.look_up.Goals as goal

pub returns-clause-answer : goal.returns-clause-answer
returns-clause-answer c = λ sized. rw (← c.in-Some.ensures.bytes) (record {
  holds = λ somewhere. rw (← c.graph.ensures.same) (c.lookup_in.ensures.holds somewhere);
  unchecked = λ _. rw (← c.graph.ensures.same) c.lookup_in.ensures.found;
  checked = λ right. rw (← c.graph.ensures.same) (c.a_lookup_in_a_right_graph_is_a_scan.ensures c.graph.result.now
      (oid_bytes c.in-Some.id) (told_position c.lookup_in.result) (rw c.graph.ensures.same (c.graph.ensures.right right))
      c.lookup_in.ensures.found);
})
