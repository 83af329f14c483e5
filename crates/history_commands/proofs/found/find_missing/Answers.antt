-- The id at the index is one of all.
use Rattle.std.proofs.Common.{◌≡◌, All, Some, length, slice_get, refl, subst, arith}
use Rattle.std.proofs.lemmas.List.{take_all}
use Rattle.std.proofs.lemmas.Option.{slice_get_read}
use Rattle.graph_commands.specs.Ancestor.{IsThere}
use Rattle.history_commands.proofs.IdLemmas.{found_is_there, there_more}
use Rattle.history_commands.proofs.found.find_missing.Goals as goal

pub loop-place-preserved : goal.loop-place-preserved
loop-place-preserved c =
    let layers = c.args.graph.now.layers in
    let ids = c.args.ids.now in
    let at = c.loop-place.place in
    let id = c.index-ids-place.result in
    let here : slice_get ids at ≡ Some id = slice_get_read ids (length ids) at id refl (omega arith) c.index-ids-place.is in
    let scanned = rw c.as_oid.ensures at c.find.ensures.scanned in
    there_more layers ids at id c.loop-place.invariant here
    (found_is_there layers id c.find.result c.if-is_none.ensures scanned)

pub returns-clause-there : goal.returns-clause-there
returns-clause-there c none =
    let layers = c.args.graph.now.layers in
    subst (All (IsThere layers)) (take_all c.loop-place.place c.args.ids.now c.loop-place-test.false) c.loop-place.invariant
