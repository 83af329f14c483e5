use Rattle.std.proofs.Common.{◌≡◌, ◌+◌, length, decimal, arith}
use Rattle.graph_commands.proofs.BufferLemmas.{take_written}
use Rattle.graph_commands.proofs.bytes.put_decimal.Goals as goal

pub returns-clause-digits : goal.returns-clause-digits
returns-clause-digits c =
    let start = c.write_digits.ensures.start in
    let counted = c.digit_count.ensures.count in
    let same : c.write_digits.result ≡ c.args.at = omega (arith) in
    let sized : c.args.at + length (decimal c.args.number) ≡ c.args.at + c.digit_count.result = omega arith in
    take_written c.args.bytes.now c.write_digits.new.buf (decimal c.args.number) _ c.args.at _ sized
    (rw same at c.write_digits.ensures.written) (rw same at c.write_digits.ensures.before)
