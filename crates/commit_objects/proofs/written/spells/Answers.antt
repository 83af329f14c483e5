use Rattle.std.proofs.Common.{ap, arith, length}
use Rattle.hex.specs.Hex.{lower_digits}
use Rattle.hex.proofs.HexLemmas.{length-encode_with}
use Rattle.gix_hash_core.specs.Oid.{oid_bytes}
use Rattle.commit_objects.proofs.WrittenLemmas.{spelled_by}
use Rattle.commit_objects.proofs.written.spells.Goals as goal

pub returns-then-text-bytes-clause-same : goal.returns-then-text-bytes-clause-same
returns-then-text-bytes-clause-same c = (
  λ yes. cc yes,
  λ same. absurd (omega (
    arith,
    ap length same,
    length-encode_with lower_digits (oid_bytes c.args.id),
    ap length c.as_bytes-bytes.ensures.bytes,
    c.if-text-bytes.true,
  )),
)

pub returns-in-20-clause-id : goal.returns-in-20-clause-id
returns-in-20-clause-id c = λ all.
    spelled_by c.args.text.now c.as_bytes-bytes.result.now (oid_bytes c.args.id) (c.are_digits_of.ensures.decoded all)
    c.as_bytes-bytes.ensures.bytes c.as_bytes-bytes.ensures.sized (omega (arith, c.if-text-bytes.false))

pub returns-in_default-clause-id : goal.returns-in_default-clause-id
returns-in_default-clause-id c = λ all.
    spelled_by c.args.text.now c.as_bytes-bytes.result.now (oid_bytes c.args.id)
    (c.are_digits_of-in_default.ensures.decoded all) c.as_bytes-bytes.ensures.bytes c.as_bytes-bytes.ensures.sized
    (omega (arith, c.if-text-bytes.false))
