use Rattle.std.proofs.lemmas.Bool.Decides.{same_from_decides}
use Rattle.gix_hash_core.specs.Oid.{oid_bytes}
use Rattle.graph_format.specs.Faults.{is_null}
use Rattle.graph_writer.proofs.positions.NullSteps.{is_null-decides}
use Rattle.graph_writer.proofs.check.is_null.Goals as goal

pub returns : goal.returns
returns c =
    same_from_decides c.is_null.result (is_null (oid_bytes c.args.id)) c.is_null.ensures (is_null-decides (oid_bytes c.args.id))
