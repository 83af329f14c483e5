use Rattle.std.proofs.Common.{arith}
use Rattle.object_stream.proofs.LineLemmas.{feed_in_front}
use Rattle.object_stream.proofs.line.line_end.Goals as goal

pub returns : goal.returns
returns c = feed_in_front c.args.bytes.now c.min.result c.memchr.result (omega (arith, c.min.ensures)) c.memchr.ensures
