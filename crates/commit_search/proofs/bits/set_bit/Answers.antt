use Rattle.std.proofs.Common.{◌<◌, ◌*◌, ◌/◌, length, arith}
use Rattle.std.proofs.lemmas.List.{get_or_read}
use Rattle.commit_search.proofs.MarkLemmas.{are_marks-set}
use Rattle.commit_search.proofs.bits.set_bit.Goals as goal

pub returns-clause-marks : goal.returns-clause-marks
returns-clause-marks c marked one number are =
    let bits = c.args.bits.now.items in
    let n = c.args.number in
    let inside : n < 64 * length bits = omega (arith, c.requires) in
    let below : n / 64 < length bits = omega arith in
    let read = get_or_read bits (n / 64) c.index_mut.result.now below c.index_mut.ensures.value 0 in
    are_marks-set bits n inside c.index_mut.result.now read marked one number are
