use Rattle.std.proofs.Common.{◌≡◌, ◌-◌, ◌*◌, ◌/◌, ◌%◌, length, arith}
use Rattle.changed_paths.specs.Murmur3.{murmur3}
use Rattle.changed_paths.proofs.murmur3.murmur3.Goals as goal

pub returns : goal.returns
unfolding murmur3
returns c =
    let bytes = c.args.bytes.now in
    let rest : length bytes - 4 * (length bytes / 4) ≡ length bytes % 4 = omega arith in
    let all : c.loop-n.n ≡ length bytes / 4 = omega (arith, c.loop-n-test.false, c.loop-n.auto.n-end) in
    let words = c.loop-n.invariant in
    let last = c.last_word.ensures in
    let stir = c.scrambled.ensures in
    let done = c.finished.ensures in
    cc
