-- What is added is the parts of the line, one after another.
use Rattle.std.proofs.Common.{append_assoc}
use Rattle.std.proofs.KnownBytes.{Appends-trans}
use Rattle.graph_commands.proofs.BufferLemmas.{appends_last}
use Rattle.graph_commands.proofs.listing.push_commit.Goals as goal

pub returns : goal.returns
returns g c =
    let id = Appends-trans _ _ _ _ _ c.in_ok-push_number.ensures c.in_ok-push_id.ensures in
    let generation =
    Appends-trans _ _ _ _ _ (Appends-trans _ _ _ _ _ id c.in_ok-push_id-2.ensures) c.in_ok-push_number-2.ensures in
    let parents =
    Appends-trans _ _ _ _ _ (Appends-trans _ _ _ _ _ generation c.in_ok-push_number-3.ensures) c.in_ok-push_parents.ensures in
    appends_last c.push_byte.result _ _ _ _ _ _ parents c.push_byte.ensures
    (rw (
      c.position.ensures.value,
      c.id.ensures,
      c.root_tree_id.ensures,
      c.generation.ensures,
      c.committer_timestamp.ensures,
      c.iter_parents.ensures.items,
    ) (simp append_assoc))
