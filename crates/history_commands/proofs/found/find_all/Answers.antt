-- The id at the index is one of all.
use Rattle.std.proofs.Common.{◌≡◌, Some, length, slice_get, refl, sym, arith}
use Rattle.std.proofs.lemmas.Option.{slice_get_read}
use Rattle.history_commands.proofs.IdLemmas.{found_more, not_missing, within_more}
use Rattle.history_commands.proofs.found.find_all.Goals as goal

pub unreachable-requires : goal.unreachable-requires
unreachable-requires c =
    let ids = c.args.ids.now in
    let at = c.loop-id.id-index in
    let here : slice_get ids at ≡ Some c.id-item.result =
    slice_get_read ids (length ids) at c.id-item.result refl (omega arith) c.id-item.is in
    let none = rw c.as_oid.ensures at c.in_default.ensures.scanned in
    not_missing c.args.graph.now.layers ids at c.id-item.result c.requires here (sym none)

pub loop-id-preserved : goal.loop-id-preserved
loop-id-preserved c =
    let layers = c.args.graph.now.layers in
    let ids = c.args.ids.now in
    let at = c.loop-id.id-index in
    let here : slice_get ids at ≡ Some c.id-item.result =
    slice_get_read ids (length ids) at c.id-item.result refl (omega arith) c.id-item.is in
    let scanned = rw c.as_oid.ensures at c.in-Some.ensures.scanned in
    rw c.in_ok-push.ensures.items (record {
      found = found_more layers ids c.loop-id.found.items at c.id-item.result c.in-Some.pos c.loop-id.invariant.found here
          (sym scanned);
      within = within_more layers c.loop-id.found.items c.in-Some.pos c.loop-id.invariant.within c.in-Some.ensures.within;
    })
