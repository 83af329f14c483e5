use Rattle.std.proofs.Common.{◌≤◌, length, arith}
use Rattle.std.proofs.lemmas.Grind.{common_steps}
use Rattle.gix_hash_core.proofs.borrowed.oid.front.Goals as goal

pub returns-clause-null : goal.returns-clause-null
returns-clause-null c = λ null.
    let long : 8 ≤ length c.args.self.bytes.now = grind (arith, common_steps, c.args.self.sized) in
    omega (
      arith,
      c.from_be_bytes.ensures,
      null 0 0 (omega arith),
      null 1 0 (omega arith),
      null 2 0 (omega arith),
      null 3 0 (omega arith),
      null 4 0 (omega arith),
      null 5 0 (omega arith),
      null 6 0 (omega arith),
      null 7 0 (omega arith),
    )
