-- What is written is the ids at the positions that are asked for, or why there are none.
use Rattle.std.proofs.Common.{◌≡◌, ap, refl, subst}
use Rattle.std.specs.Prelude.{Ok, Err}
use Rattle.object_commands.specs.AskedRange.{IsRangeOf, asked_range}
use Rattle.object_commands.specs.CommitIds.{ids_in_range}
use Rattle.object_commands.proofs.ids.run_ids.Goals as goal

pub returns-in_ok-write_ids-in-Ok-clause-written : goal.returns-in_ok-write_ids-in-Ok-clause-written
returns-in_ok-write_ids-in-Ok-clause-written g c =
    let layers = c.in-Ok.graph in
    let range = c.in-Ok.range in
    let is : range ≡ asked_range layers c.args.range = c.in-Ok.ensures.range.0 in (
      Ok (ids_in_range layers range),
      (layers, c.in-Ok.ensures.opened, subst (IsRangeOf layers) is c.in-Ok.ensures.range.1, ap (ids_in_range layers) is),
      c.in_ok-write_ids-in-Ok.ensures,
      refl,
    )

pub returns-in_ok-write_line-in-Err-clause-written : goal.returns-in_ok-write_line-in-Err-clause-written
returns-in_ok-write_line-in-Err-clause-written g c =
    (Err c.in-Err.refusal, c.in-Err.ensures.refused, c.in_ok-write_line-in-Err.ensures.written, refl)
