use Rattle.tree_objects.proofs.SplitLemmas.{one_entry}
use Rattle.tree_objects.proofs.law.bytes_begin_with_one_entry.Goals as goal

pub returns : goal.returns
returns c = λ kind bytes one other next rest h k.
    let same = one_entry kind bytes one other next rest h k in
    (same.entry, same.next)
