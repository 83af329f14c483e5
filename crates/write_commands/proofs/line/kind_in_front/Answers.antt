use Rattle.write_commands.proofs.LineSteps.{kind_of_digits, kind_of_others}
use Rattle.write_commands.proofs.line.kind_in_front.Goals as goal

pub returns-then-are_digits : goal.returns-then-are_digits
returns-then-are_digits c =
    kind_of_digits c.args.bytes.now c.in-Some.digits.now c.in-Some.field-0-1.now c.in-Some.ensures.cases
    (c.are_digits.ensures.0 c.if-are_digits.true)

pub returns-else-are_digits : goal.returns-else-are_digits
returns-else-are_digits c =
    kind_of_others c.args.bytes.now c.in-Some.digits.now c.in-Some.field-0-1.now c.in-Some.ensures.cases
    (λ all. let yes = c.are_digits.ensures.1 all in cc (yes, c.if-are_digits.false))
