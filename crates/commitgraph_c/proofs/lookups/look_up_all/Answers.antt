use Rattle.std.proofs.Common.{◌≡◌, ◌+◌, ◌*◌, ◌≤◌, ◌∙◌, IsTrue, length, sym, subst, arith}
use Rattle.std.proofs.lemmas.Option.{get_or_from_slice_get}
use Rattle.gix_hash_core.specs.Kind.{is_id_len}
use Rattle.graph_format.specs.Format.{pieces}
use Rattle.graph_format.proofs.PieceLemmas.{length-pieces, length-slice_range, pieces-at}
use Rattle.c_opening.specs.Answers.{AnswersLookup}
use Rattle.commitgraph_c.proofs.ManyRoom.{next_answered}
use Rattle.c_opening.proofs.PieceRoom.{id_positive, piece_at, piece_within}
use Rattle.commitgraph_c.proofs.lookups.look_up_all.Goals as goal

pub loop-place-preserved : goal.loop-place-preserved
loop-place-preserved c =
    let size = c.args.size in let ids = c.args.ids.now in let place = c.loop-place.place in
    let one = piece_at size ids place in
    let fits : size * place + size ≤ length ids =
    piece_within size place (length ids) (id_positive size c.requires) (omega arith) in
    let long : length one ≡ size =
    length-slice_range ids (size * place) (size * place + size) fits ∙ omega arith in
    let sized : IsTrue (is_id_len (length one)) = subst (λ n. IsTrue (is_id_len n)) (sym long) c.requires in
    next_answered (AnswersLookup c.args.opened.now) (pieces size ids) c.args.out.now c.loop-place.out place one c.look_up.result
    (omega (arith, length-pieces size ids)) (sym (get_or_from_slice_get (pieces size ids) place one one
    (pieces-at size ids place (omega arith)))) (omega arith) (c.look_up.ensures.answer sized) c.loop-place.invariant

pub returns-clause-count : goal.returns-clause-count
returns-clause-count c = sym (length-pieces c.args.size c.args.ids.now)
