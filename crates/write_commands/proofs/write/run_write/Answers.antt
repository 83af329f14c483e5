use Rattle.std.proofs.Common.{Ok, Err, refl}
use Rattle.write_commands.proofs.write.run_write.Goals as goal

pub returns-in_ok-write_all-in-Ok-clause-written :
    goal.returns-in_ok-write_all-in-Ok-clause-written
returns-in_ok-write_all-in-Ok-clause-written g c = (
  Ok c.in-Ok.bytes.items,
  c.in-Ok.ensures.written,
  rw c.deref.ensures.value at c.in_ok-write_all-in-Ok.ensures.bytes,
  refl,
)

pub returns-in_ok-write_line-in-Err-clause-written :
    goal.returns-in_ok-write_line-in-Err-clause-written
returns-in_ok-write_line-in-Err-clause-written g c = (
  Err c.in-Err.refusal,
  c.in-Err.ensures.refused,
  c.in_ok-write_line-in-Err.ensures.written,
  refl,
)
