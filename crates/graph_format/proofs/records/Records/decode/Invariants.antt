use Rattle.graph_format.specs.DecodedRecords.{AreDecoded}
use Rattle.graph_format.proofs.DecodedRecordLemmas.{first_records}
use Rattle.graph_format.proofs.records.Records.decode.Given as goal

-- the records so far are decoded
abbrev pub invariant-loop-pos : goal.invariant-loop-pos
invariant-loop-pos l = AreDecoded (first_records l.kind l.bytes l.pos) l.records
