use Rattle.std.proofs.Common.{◌≡◌, ◌+◌, ◌*◌, ◌≤◌, ◌∙◌, Some, ap, sym, length, arith, slice_get, List, ℕ}
use Rattle.std.proofs.lemmas.Slice.{take-put_mid, drop-put_mid}
use Rattle.gix_hash_core.specs.Oid.{oid_bytes}
use Rattle.gix_commitgraph.specs.Graph.{graph_ids}
use Rattle.commitgraph_c.proofs.IdRoom.{id_fits, next_id_written, part_length, size_positive}
use Rattle.c_opening.proofs.PieceRoom.{piece_within}
use Rattle.commitgraph_c.proofs.lookups.write_ids.Goals as goal

pub write_id-requires : goal.write_id-requires
write_id-requires c =
    let size = c.len_in_bytes-size.result in let place = c.loop-place.place in let room = c.loop-place.out in
    let long : length (oid_bytes c.id_at.result) ≡ size =
    id_fits c.args.graph.now _ size _ _ c.num_commits-commits.ensures.graph c.object_hash.ensures.kind c.len_in_bytes-size.ensures
    c.id_at.ensures in
    let fits : size * place + size ≤ length c.args.out.now =
    piece_within size place (length c.args.out.now) (size_positive _ size c.len_in_bytes-size.ensures) (omega arith) in
    let within : size * place + size ≤ length room = omega (arith, fits, c.loop-place.auto.out) in
    long ∙ sym (part_length (size * place) size room within)

pub loop-place-preserved : goal.loop-place-preserved
loop-place-preserved c =
    let size = c.len_in_bytes-size.result in let place = c.loop-place.place in let room = c.loop-place.out in
    let id = c.write_id.new.out in
    let here : slice_get (graph_ids c.args.graph.now) _ ≡ Some id =
    c.id_at.ensures ∙ ap (λ (xs : List ℕ). Some xs) (sym c.write_id.ensures) in
    let long : length id ≡ size =
    id_fits c.args.graph.now _ size _ id c.num_commits-commits.ensures.graph c.object_hash.ensures.kind
    c.len_in_bytes-size.ensures here in
    let fits : size * place + size ≤ length c.args.out.now =
    piece_within size place (length c.args.out.now) (size_positive _ size c.len_in_bytes-size.ensures) (omega arith) in
    let within : size * place + size ≤ length room = omega (arith, fits, c.loop-place.auto.out) in
    let before : size * place ≤ length room = omega (arith, within) in
    next_id_written (graph_ids c.args.graph.now) c.args.positions.now place _ size c.args.out.now room id (omega arith) here long
    fits c.loop-place.auto.out c.loop-place.invariant _
    (take-put_mid (size * place) _ room id (size * place + size) (ap (λ (n : ℕ). size * place + n) (sym long)) before)
    (drop-put_mid (size * place) _ room id (size * place + size) (omega arith) before (omega (arith, long)))
