use Rattle.std.proofs.Common.{◌<◌, ap, arith, length}
use Rattle.std.proofs.lemmas.List.{length-map}
use Rattle.graph_format.proofs.DecodedRecordLemmas.{first_field-of, second_field-of}
use Rattle.graph_format.specs.DecodedRecords.{stored_parents}
use Rattle.commitgraph_c.proofs.commit_at.fields_at.Goals as goal

pub returns-clause-first : goal.returns-clause-first
returns-clause-first c =
    let fields = c.parent_fields.result.now in
    let within : c.args.pos < length fields =
    omega (arith, c.requires, ap length c.parent_fields.ensures, length-map c.args.layer.now.records stored_parents) in
    first_field-of c.args.layer.now fields c.args.pos (0, 0) c.parent_fields.ensures within

pub returns-clause-second : goal.returns-clause-second
returns-clause-second c =
    let fields = c.parent_fields.result.now in
    let within : c.args.pos < length fields =
    omega (arith, c.requires, ap length c.parent_fields.ensures, length-map c.args.layer.now.records stored_parents) in
    second_field-of c.args.layer.now fields c.args.pos (0, 0) c.parent_fields.ensures within
