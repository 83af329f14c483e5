use Rattle.std.proofs.Common.{◌≡◌, ◌∷◌, rules}
use Rattle.std.specs.Vec.Iter.{into_iter_items}
use Rattle.graph_history.proofs.PushLemmas.{next_on, refused_on}
use Rattle.graph_history.proofs.owned.put_on.Goals as goal

pub returns-in-Err-clause-refusal : goal.returns-in-Err-clause-refusal
returns-in-Err-clause-refusal c =
    let left : into_iter_items c.loop-file.file-iterator ≡ c.in-Some.file ∷ into_iter_items c.next.new.self = search rules in
    let before = c.loop-file.invariant in
    refused_on c.args.graph.now before.0 c.args.files.items _ c.loop-file.graph c.in-Some.file c.in-Err.error before.1
    (rw left at before.2) before.3 c.in-Err.ensures.refusal

pub loop-file-preserved : goal.loop-file-preserved
loop-file-preserved c =
    let left : into_iter_items c.loop-file.file-iterator ≡ c.in-Some.file ∷ into_iter_items c.next.new.self = search rules in
    let before = c.loop-file.invariant in
    let more =
    next_on c.args.graph.now before.0 c.args.files.items _ c.loop-file.graph c.push.new.self c.in-Some.file before.1
    (rw left at before.2) c.in_default.ensures.pushed in
    (more.0, more.1, more.2, c.push.ensures.graph)
