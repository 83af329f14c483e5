use Rattle.object_stream.proofs.TakingLemmas.{no_line_ends}
use Rattle.object_stream.proofs.buffer.Buffer.lacks_line.Goals as goal

pub returns-in-Some-clause-lacks : goal.returns-in-Some-clause-lacks
returns-in-Some-clause-lacks c =
    let ends = rw c.bytes-bytes.ensures at c.in-Some.ensures in λ none few. absurd (no_line_ends _ _ ends none)
