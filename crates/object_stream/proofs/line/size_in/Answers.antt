use Rattle.gix_hash_core.specs.Kind.{id_len}
use Rattle.object_stream.specs.declared.heading.Heading.TheVariants as told
use Rattle.object_stream.proofs.LineLemmas.{head_is}
use Rattle.object_stream.proofs.line.size_in.Goals as goal

pub returns-then-not-are_expected-clause-size : goal.returns-then-not-are_expected-clause-size
returns-then-not-are_expected-clause-size c = (
  c.in-Some.digits.now,
  c.in-Some-heading_of.heading,
  head_is c.len_in_bytes.result (id_len c.args.kind) c.args.line.now c.in-Some.digits.now c.in-Some.tail.now
      c.in-Some-heading_of.heading c.len_in_bytes.ensures c.in-Some.ensures.cases
      (c.are_digits.ensures.0 c.if-not-are_digits.false) c.in-Some-heading_of.ensures,
  λ same. let yes = c.are_expected.ensures.same.1 same in cc (yes, c.if-not-are_expected.true),
)

pub returns-in-Missing-clause-size : goal.returns-in-Missing-clause-size
returns-in-Missing-clause-size c = (
  c.in-Some.digits.now,
  head_is c.len_in_bytes.result (id_len c.args.kind) c.args.line.now c.in-Some.digits.now c.in-Some.tail.now
      told.Missing c.len_in_bytes.ensures c.in-Some.ensures.cases
      (c.are_digits.ensures.0 c.if-not-are_digits.false) (rw c.in-Missing.is at c.in-Some-heading_of.ensures),
  c.are_expected.ensures.same.0 c.if-not-are_expected.false,
)

pub returns-else-is-clause-size : goal.returns-else-is-clause-size
returns-else-is-clause-size c = (
  c.in-Some.digits.now,
  c.in-Object.other,
  c.in-Object.size,
  head_is c.len_in_bytes.result (id_len c.args.kind) c.args.line.now c.in-Some.digits.now c.in-Some.tail.now
      (told.Object c.in-Object.other c.in-Object.size) c.len_in_bytes.ensures c.in-Some.ensures.cases
      (c.are_digits.ensures.0 c.if-not-are_digits.false) (rw c.in-Object.is at c.in-Some-heading_of.ensures),
  c.are_expected.ensures.same.0 c.if-not-are_expected.false,
  λ same. let yes = c.is.ensures.1 same in cc (yes, c.if-is.false),
)
